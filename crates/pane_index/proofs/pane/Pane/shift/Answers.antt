use Rattle.std.proofs.Common.{◌≡◌, None, IsSome, sym, subst}
use Rattle.tuple_block.specs.Tuples.{slot_at}
use Rattle.pane_index.specs.Blocks.{all_slots}
use Rattle.pane_index.proofs.PaneLemmas.{IsPane-moved}
use Rattle.pane_index.proofs.pane.Pane.shift.Goals as goal

pub invariant_of-self-2 : goal.invariant_of-self-2
invariant_of-self-2 c =
    let shifted = c.in_ok-shift.ensures in
    let slots = all_slots c.self.inside.cow.blocks in
    let held = rw (← c.self.view_is) at c.requires.held in
    let free = rw (← c.self.view_is) at c.requires.free in
    let before = rw (← c.number-from.ensures.value, ← c.number-to.ensures.value) at c.requires.before in
    IsPane-moved _ _ _ _ _ c.self.invariant c.shift.new.cow _ _ before
    (subst (λ p. IsSome (slot_at slots p)) (sym c.number-from.ensures.value) held)
    (subst (λ p. slot_at slots p ≡ None) (sym c.number-to.ensures.value) free) shifted.shape shifted.moved
