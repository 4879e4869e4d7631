use Rattle.sql_meaning.proofs.Meanings.{meanings}
use Rattle.sql_scenarios.proofs.groups.order_over_groups.Goals as goal

pub returns-clause-sums : goal.returns-clause-sums
returns-clause-sums c = simp meanings

pub returns-clause-two_greatest : goal.returns-clause-two_greatest
returns-clause-two_greatest c = simp meanings

pub returns-clause-equal : goal.returns-clause-equal
returns-clause-equal c = simp meanings

pub returns-clause-judged_first : goal.returns-clause-judged_first
returns-clause-judged_first c = simp meanings
