use Rattle.pane_index.proofs.PaneLemmas.{next_move-is, move-fits}
use Rattle.pane_index.proofs.pane.Pane.ends.Goals as goal

pub returns-then-is_none-clause-limit : goal.returns-then-is_none-clause-limit
returns-then-is_none-clause-limit c =
    rw c.move_back-found.ensures (move-fits _ _ _ _ _ c.self.invariant _ (next_move-is _ _ _ _ _ c.self.invariant _ _ c.first_free-to.ensures c.last_held-from.ensures))

pub returns-else-is_none-clause-limit : goal.returns-else-is_none-clause-limit
returns-else-is_none-clause-limit c =
    rw c.move_back-found.ensures (move-fits _ _ _ _ _ c.self.invariant _ (next_move-is _ _ _ _ _ c.self.invariant _ _ c.first_free-to.ensures c.last_held-from.ensures))

pub returns-then-is_none-clause-found : goal.returns-then-is_none-clause-found
returns-then-is_none-clause-found c =
    rw (c.move_back-found.ensures, ← c.self.view_is) (next_move-is _ _ _ _ _ c.self.invariant _ _ c.first_free-to.ensures c.last_held-from.ensures)

pub returns-else-is_none-clause-found : goal.returns-else-is_none-clause-found
returns-else-is_none-clause-found c =
    rw (c.move_back-found.ensures, ← c.self.view_is) (next_move-is _ _ _ _ _ c.self.invariant _ _ c.first_free-to.ensures c.last_held-from.ensures)
