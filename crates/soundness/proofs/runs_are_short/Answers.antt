use Rattle.soundness.proofs.Law.{run_is_short}
use Rattle.soundness.proofs.runs_are_short.Goals as goal

pub returns : goal.returns
returns g c = let C = g.C.Carried in run_is_short C.semantics C.meaning C.carries
