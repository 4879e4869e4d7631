use Rattle.tuple_block.proofs.SlotLemmas.{same_tuples, slots_of-new}
use Rattle.tuple_block.proofs.block.Block.new.Goals as goal

pub returns : goal.returns
returns c = same_tuples _ _ _ (slots_of-new c.args.width c.in_ok-bytes.bytes)
