use Rattle.std.proofs.Common.{ap, ◌∙◌}
use Rattle.tuple_block.specs.Layout.{slots_of}
use Rattle.tuple_block.proofs.SlotLemmas.{same_tuples, slots_of-put}
use Rattle.tuple_block.proofs.block.Block.put.Goals as goal

pub returns : goal.returns
returns c =
    let b = c.self.inside in
    let word = c.with_bit-self-inside in
    let len = rw (← c.self.view_is) at c.requires.width in
    rw (← c.self.view_is)
    (same_tuples _ _ _ (ap (slots_of b.width word.result) c.write.ensures
    ∙ slots_of-put b.width b.occupied word.result c.args.i c.args.tuple.now b.bytes c.requires.place len c.self.invariant.2 word.ensures.set word.ensures.others))
