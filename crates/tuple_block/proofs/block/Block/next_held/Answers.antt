use Rattle.tuple_block.proofs.SlotLemmas.{next_held_of}
use Rattle.tuple_block.proofs.block.Block.next_held.Goals as goal

pub returns : goal.returns
returns c =
    let b = c.self.inside in
    rw (← c.self.view_is) (next_held_of b.width b.occupied b.bytes c.args.from c.next_one.result c.next_one.ensures)
