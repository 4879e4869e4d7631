use Rattle.sql_meaning.proofs.Meanings.{meanings}
use Rattle.sql_scenarios.proofs.orders.order_of_rows.Goals as goal

pub returns-clause-by_b : goal.returns-clause-by_b
returns-clause-by_b c = simp meanings

pub returns-clause-by_b_descending : goal.returns-clause-by_b_descending
returns-clause-by_b_descending c = simp meanings

pub returns-clause-by_both : goal.returns-clause-by_both
returns-clause-by_both c = simp meanings

pub returns-clause-first_three : goal.returns-clause-first_three
returns-clause-first_three c = simp meanings

pub returns-clause-two_in_parts : goal.returns-clause-two_in_parts
returns-clause-two_in_parts c = simp meanings

pub returns-clause-in_parts : goal.returns-clause-in_parts
returns-clause-in_parts c = simp meanings
