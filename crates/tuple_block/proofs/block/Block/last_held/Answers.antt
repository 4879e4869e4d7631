use Rattle.tuple_block.proofs.SlotLemmas.{last_held_of}
use Rattle.tuple_block.proofs.block.Block.last_held.Goals as goal

pub returns : goal.returns
returns c =
    let b = c.self.inside in
    rw (← c.self.view_is) (last_held_of b.width b.occupied b.bytes c.last_one.result c.last_one.ensures)
