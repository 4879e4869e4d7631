use Rattle.std.proofs.Common.{◌*◌, subst}
use Rattle.tuple_block.specs.Tuples.{IsHeld}
use Rattle.pane_index.specs.Blocks.{all_slots}
use Rattle.pane_index.proofs.PaneLemmas.{free_place-ahead, free_place-round}
use Rattle.pane_index.proofs.pane.Pane.free_place.Goals as goal

pub returns-in-Some : goal.returns-in-Some
returns-in-Some c = rw (← c.self.view_is) (free_place-ahead _ _ _ _ _ c.self.invariant _ c.in-Some.p c.len.ensures c.in-Some.ensures)

pub returns-in-None-2 : goal.returns-in-None-2
returns-in-None-2 c =
    let p = c.self.inside in
    let ahead = subst (λ n. IsHeld (all_slots p.cow.blocks) (64 * p.next) (64 * n)) c.len.ensures c.in-None.ensures in
    rw (← c.self.view_is) (free_place-round _ _ _ _ _ c.self.invariant _ ahead c.first_free-in-None-2.ensures)
