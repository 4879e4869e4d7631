use Rattle.std.proofs.Common.{lit≤}
use Rattle.sql_instances.proofs.Premises.{is_plan}
use Rattle.sql_instances.proofs.example_is_a_plan.Goals as goal

pub returns : goal.returns
returns c = is_plan 3 (lit≤ tt) (lit≤ tt)
