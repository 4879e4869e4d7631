use Rattle.log_laws.proofs.Runs.Worlds.{logs-agree}
use Rattle.log_laws.proofs.logs_have_a_history.Goals as goal

pub returns : goal.returns
returns g c = λ input w r. logs-agree g.B.AnyDatabase.database input w r
