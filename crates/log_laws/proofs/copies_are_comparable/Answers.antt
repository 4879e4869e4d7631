use Rattle.log_laws.proofs.Runs.Laws.{comparable}
use Rattle.log_laws.proofs.Runs.Worlds.{logs-agree}
use Rattle.log_laws.proofs.copies_are_comparable.Goals as goal

pub returns : goal.returns
returns g c = λ input w n d r a. comparable w (logs-agree g.B.AnyDatabase.database input w r) n d a
