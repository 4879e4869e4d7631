use Rattle.std.proofs.Common.{◌↔◌, ◌/◌, ◌<◌, IsTrue, ltb, length, subst}
use Rattle.pane_index.specs.Blocks.{all_slots}
use Rattle.pane_index.proofs.PaneLemmas.{place_there}
use Rattle.pane_index.proofs.pane.Pane.has_place.Goals as goal

pub returns : goal.returns
returns c =
    rw (← c.self.view_is)
    (subst (λ p. IsTrue (ltb (c.number.result / 64) c.len.result) ↔ (p < length (all_slots c.self.inside.cow.blocks))) c.number.ensures.value
    (place_there _ _ _ _ _ c.self.invariant c.number.result c.len.result c.len.ensures))
