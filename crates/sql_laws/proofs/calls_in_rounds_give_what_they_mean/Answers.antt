use Rattle.sql_laws.proofs.Rounds.{rounds-call}
use Rattle.sql_laws.proofs.calls_in_rounds_give_what_they_mean.Goals as goal

pub returns : goal.returns
returns c = λ plan db d is_plan is none. rounds-call plan is_plan db d is none
