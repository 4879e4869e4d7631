use Rattle.std.proofs.Common.{true}
use Rattle.sql_plan.specs.declared.prepared.Scope.TheVariants.{OnePartition}
use Rattle.sql_meaning.specs.Starter.{balance_of, catalog}
use Rattle.sql_meaning.proofs.Accounts.{is_catalog}
use Rattle.sql_check_laws.specs.Examples.{get}
use Rattle.sql_check_laws.proofs.Examples.{get-numbers, get-accepted}
use Rattle.sql_check_laws.proofs.get_is_well_formed.Goals as goal

pub returns : goal.returns
returns c = record {
  accepted = get-accepted;
  formed = c.accepted_is_well_formed.ensures catalog get true (balance_of OnePartition) is_catalog get-numbers get-accepted;
}
