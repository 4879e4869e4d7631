use Rattle.std.proofs.Common.{◌≡◌, Some, sym, ap, ◌∙◌, arith}
use Rattle.std.specs.Int.{bit_at}
use Rattle.std.proofs.lemmas.Bool.{iff_false}
use Rattle.std.proofs.lemmas.Nat.Bits.{bit_at-lt}
use Rattle.tuple_block.proofs.SlotLemmas.{slot_at-free, slot_at-tuple}
use Rattle.tuple_block.proofs.block.Block.get.Goals as goal

pub returns-then-has_bit-clause-tuple : goal.returns-then-has_bit-clause-tuple
returns-then-has_bit-clause-tuple c =
    let b = c.self.inside in
    rw (← c.self.view_is) (ap Some c.run.ensures ∙ sym (slot_at-tuple b.width b.occupied b.bytes c.args.i c.requires (c.has_bit.ensures.0 c.if-has_bit.true)))

pub returns-else-has_bit-clause-tuple : goal.returns-else-has_bit-clause-tuple
returns-else-has_bit-clause-tuple c =
    let b = c.self.inside in
    let not_one : bit_at b.occupied c.args.i ≡ 1 → ⊥ = iff_false c.has_bit.ensures c.if-has_bit.false in
    let zero : bit_at b.occupied c.args.i ≡ 0 = omega (arith, bit_at-lt b.occupied c.args.i) in
    rw (← c.self.view_is) (sym (slot_at-free b.width b.occupied b.bytes c.args.i c.requires zero))
