use Rattle.soundness.proofs.Law.{quiescent_is_sound}
use Rattle.soundness.proofs.quiescent_runs_are_sound.Goals as goal

pub returns : goal.returns
returns g c = let C = g.C.Carried in quiescent_is_sound C.semantics C.meaning C.carries
