use Rattle.soundness.proofs.Enabled.{nothing_enabled_is_quiescent}
use Rattle.soundness.proofs.quiescent_where_nothing_is_enabled.Goals as goal

pub returns : goal.returns
returns g c = let C = g.C.Carried in nothing_enabled_is_quiescent C.semantics C.meaning C.carries
