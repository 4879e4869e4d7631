use Rattle.std.proofs.Common.{refl}
use Rattle.sql_scenarios.proofs.groups.groups_of_no_rows.Goals as goal

pub returns-clause-totals : goal.returns-clause-totals
returns-clause-totals c = refl

pub returns-clause-groups : goal.returns-clause-groups
returns-clause-groups c = refl
