use Rattle.sql_meaning.proofs.Meanings.{meanings}
use Rattle.sql_scenarios.proofs.groups.groups_with_null.Goals as goal

pub returns-clause-totals : goal.returns-clause-totals
returns-clause-totals c = simp meanings

pub returns-clause-groups : goal.returns-clause-groups
returns-clause-groups c = simp meanings
