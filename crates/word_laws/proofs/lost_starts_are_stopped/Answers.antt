use Rattle.word_laws.proofs.Lost.{lost-stopped}
use Rattle.word_laws.proofs.lost_starts_are_stopped.Goals as goal

pub returns : goal.returns
returns g c = λ input w r. lost-stopped g.B.AnyDatabase.database input w r
