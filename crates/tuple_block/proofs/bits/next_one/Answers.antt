use Rattle.std.proofs.Common.{◌*◌, ◌%◌, ◌^◌, refl, arith}
use Rattle.std.proofs.lemmas.Nat.{and_le_l}
use Rattle.tuple_block.proofs.WordLemmas.{no_next_one, next_one_is}
use Rattle.tuple_block.proofs.bits.next_one.Goals as goal

pub returns-then-rest-eq0 : goal.returns-then-rest-eq0
returns-then-rest-eq0 c = λ k above within. no_next_one c.args.word c.args.from k c.requires c.if-rest-eq0.true above within

pub returns-else-rest-eq0 : goal.returns-else-rest-eq0
returns-else-rest-eq0 c =
    next_one_is c.args.word c.args.from _ c.requires (omega arith) (omega (arith, and_le_l c.args.word (18446744073709551615 * 2 ^ c.args.from % 18446744073709551616))) refl
