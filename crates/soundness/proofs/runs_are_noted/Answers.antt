use Rattle.soundness.proofs.Law.{run_is_noted}
use Rattle.soundness.proofs.runs_are_noted.Goals as goal

pub returns : goal.returns
returns g c = let C = g.C.Carried in run_is_noted C.semantics C.meaning C.carries
