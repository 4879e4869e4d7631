use Rattle.tuple_block.proofs.SlotLemmas.{length-slots_of}
use Rattle.tuple_block.proofs.block.Block.width.Goals as goal

pub returns-clause-places : goal.returns-clause-places
returns-clause-places c = rw (← c.self.view_is) (length-slots_of _ _ _)
