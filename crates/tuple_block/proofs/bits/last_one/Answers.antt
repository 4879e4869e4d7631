use Rattle.tuple_block.proofs.WordLemmas.{last_one_is}
use Rattle.tuple_block.proofs.bits.last_one.Goals as goal

pub returns-else-word-eq0 : goal.returns-else-word-eq0
returns-else-word-eq0 c = last_one_is _ _ c.ilog2.ensures.power_le c.ilog2.ensures.next_power_gt c.ilog2.ensures.bound
