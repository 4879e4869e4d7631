use Rattle.tuple_block.proofs.SlotLemmas.{same_tuples, slots_of-clear}
use Rattle.tuple_block.proofs.block.Block.clear.Goals as goal

pub returns : goal.returns
returns c =
    let b = c.self.inside in
    let word = c.without_bit-self-inside in
    rw (← c.self.view_is)
    (same_tuples _ _ _ (slots_of-clear b.width b.occupied word.result c.args.i b.bytes c.requires word.ensures.clear word.ensures.others))
