use Rattle.std.proofs.Common.{true}
use Rattle.sql_meaning.specs.Starter.{catalog, put_row}
use Rattle.sql_meaning.proofs.Accounts.{is_catalog}
use Rattle.sql_check_laws.specs.Examples.{put}
use Rattle.sql_check_laws.proofs.Examples.{put-numbers, put-accepted}
use Rattle.sql_check_laws.proofs.put_is_well_formed.Goals as goal

pub returns : goal.returns
returns c = record {
  accepted = put-accepted;
  formed = c.accepted_is_well_formed.ensures catalog put true put_row is_catalog put-numbers put-accepted;
}
