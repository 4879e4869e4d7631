use Rattle.std.proofs.Common.{arith}
use Rattle.pane_index.proofs.PaneLemmas.{length-slots, place_fits, count_within, IsPane-fill}
use Rattle.pane_index.proofs.pane.Pane.add_at.Goals as goal

pub overflow_add-self : goal.overflow_add-self
overflow_add-self c = omega (arith, count_within _ _ _ _ _ c.self.invariant, c.self.invariant.limit)

pub new-requires-2 : goal.new-requires-2
new-requires-2 c =
    let within = rw (← c.self.view_is) at c.requires.free.within in
    place_fits _ _ _ _ _ c.self.invariant c.args.p within

pub invariant_of-self-2 : goal.invariant_of-self-2
invariant_of-self-2 c =
    let within = rw (← c.self.view_is) at c.requires.free.within in
    let free = rw (← c.self.view_is) at c.requires.free.free in
    let filled = c.in_ok-fill.ensures in
    IsPane-fill _ _ _ _ _ c.self.invariant c.fill.new.cow c.args.p _ _ c.args.tuple.now within free filled.filled filled.shape c.max-self-inside.ensures
    (omega (arith, length-slots _ _ _ _ _ c.self.invariant, within))
