use Rattle.table_rows.proofs.MoveLemmas.{blocks-are}
use Rattle.table_rows.proofs.slots.Slots.blocks.Goals as goal

pub returns : goal.returns
returns c =
    let s = c.self.inside in
    let spare = rw (← c.self.view_is) at c.requires.spare in
    let packed = rw (← c.self.view_is) at c.requires.packed in
    rw (← c.self.view_is) (blocks-are s.layout s.pane s.spare c.blocks-2.result spare packed c.blocks-2.ensures)
