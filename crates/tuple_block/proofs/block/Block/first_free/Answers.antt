use Rattle.tuple_block.proofs.SlotLemmas.{first_free_of}
use Rattle.tuple_block.proofs.block.Block.first_free.Goals as goal

pub returns : goal.returns
returns c =
    let b = c.self.inside in
    rw (← c.self.view_is) (first_free_of b.width b.occupied b.bytes c.first_zero.result c.first_zero.ensures)
