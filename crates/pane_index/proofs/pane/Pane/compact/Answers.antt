use Rattle.pane_index.proofs.PaneLemmas.{used-moved}
use Rattle.pane_index.proofs.pane.Pane.compact.Goals as goal

pub returns-clause-shrinks : goal.returns-clause-shrinks
returns-clause-shrinks c = rw (c.in_ok-shift.ensures.moved, c.in-Some.ensures.kept) (used-moved _ _ _ c.in-Some.ensures.found)
