use Rattle.sql_meaning.proofs.Meanings.{meanings}
use Rattle.sql_scenarios.proofs.orders.rows_of_two_tables.Goals as goal

pub returns-clause-by_a : goal.returns-clause-by_a
returns-clause-by_a c = simp meanings

pub returns-clause-by_id : goal.returns-clause-by_id
returns-clause-by_id c = simp meanings

pub returns-clause-in_parts : goal.returns-clause-in_parts
returns-clause-in_parts c = simp meanings

pub returns-clause-on_hides : goal.returns-clause-on_hides
returns-clause-on_hides c = simp meanings

pub returns-clause-on_first : goal.returns-clause-on_first
returns-clause-on_first c = simp meanings
