use Rattle.std.proofs.Common.{refl}
use Rattle.sql_laws.specs.InRounds.{shares_of}
use Rattle.sql_laws.proofs.Serial.{serial-same}
use Rattle.sql_laws.proofs.runs_on_shares_give_what_they_mean.Goals as goal

pub returns : goal.returns
returns c =
    λ plan db calls is_plan is.
    let same = serial-same plan is_plan calls db is (shares_of plan db) (λ part below. refl) in record { replies = same.0; shares = same.1 }
