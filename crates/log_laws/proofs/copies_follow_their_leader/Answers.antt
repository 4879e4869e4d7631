use Rattle.log_laws.proofs.Runs.Laws.{leader-ahead}
use Rattle.log_laws.proofs.Runs.Worlds.{logs-agree}
use Rattle.log_laws.proofs.copies_follow_their_leader.Goals as goal

pub returns : goal.returns
returns g c = λ input w n l r a b. leader-ahead w (logs-agree g.B.AnyDatabase.database input w r) n l a b
