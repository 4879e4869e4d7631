use Rattle.std.proofs.Common.{arith}
use Rattle.tuple_block.proofs.WordLemmas.{full_word, first_zero_is}
use Rattle.tuple_block.proofs.bits.first_zero.Goals as goal

pub returns-then-word-eq18446744073709551615 : goal.returns-then-word-eq18446744073709551615
returns-then-word-eq18446744073709551615 c = λ k within. full_word _ k c.if-word-eq18446744073709551615.true within

pub returns-else-word-eq18446744073709551615 : goal.returns-else-word-eq18446744073709551615
returns-else-word-eq18446744073709551615 c = first_zero_is _ _ (omega arith) c.trailing_ones.ensures
