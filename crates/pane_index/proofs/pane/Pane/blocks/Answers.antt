use Rattle.pane_index.proofs.PaneLemmas.{blocks-some, blocks-none}
use Rattle.pane_index.proofs.pane.Pane.blocks.Goals as goal

pub returns-in-Some : goal.returns-in-Some
returns-in-Some c = rw (← c.self.view_is) (blocks-some _ _ _ _ _ c.self.invariant c.in-Some.p c.in-Some.ensures)

pub returns-in-None : goal.returns-in-None
returns-in-None c = rw (← c.self.view_is) (blocks-none _ _ _ _ _ c.self.invariant c.in-None.ensures)
