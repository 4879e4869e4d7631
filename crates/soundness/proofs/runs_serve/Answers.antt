use Rattle.soundness.proofs.Enabled.{run_serves}
use Rattle.soundness.proofs.runs_serve.Goals as goal

pub returns : goal.returns
returns g c = let C = g.C.Carried in run_serves C.semantics C.meaning C.carries
