use Rattle.sql_check_laws.proofs.Accepted.{well_formed}
use Rattle.sql_check_laws.proofs.accepted_is_well_formed.Goals as goal

pub returns : goal.returns
returns c = well_formed
