use Rattle.log_laws.proofs.Runs.Laws.{joiner-behind}
use Rattle.log_laws.proofs.Runs.Worlds.{logs-agree}
use Rattle.log_laws.proofs.a_loaded_joiner_follows.Goals as goal

pub returns : goal.returns
returns g c = λ input w n l r h b a. joiner-behind w (logs-agree g.B.AnyDatabase.database input w r) n l h b a
