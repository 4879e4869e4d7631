use Rattle.sql_check_laws.proofs.Accepted.{faultless}
use Rattle.sql_check_laws.proofs.faultless_is_well_formed.Goals as goal

pub returns : goal.returns
returns c = faultless
