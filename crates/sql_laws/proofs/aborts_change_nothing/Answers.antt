use Rattle.sql_laws.proofs.Calls.{abort_leaves}
use Rattle.sql_laws.proofs.aborts_change_nothing.Goals as goal

pub returns : goal.returns
returns c = abort_leaves
