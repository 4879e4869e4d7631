use Rattle.soundness.proofs.Enabled.{event_is_of_them}
use Rattle.soundness.proofs.events_are_of_them.Goals as goal

pub returns : goal.returns
returns g c = let C = g.C.Carried in event_is_of_them C.semantics C.meaning C.carries
