use Rattle.std.proofs.Common.{arith, refl}
use Rattle.std.proofs.lemmas.Bool.Decides.{nat_tests}
use Rattle.volt_text.proofs.QuotedTexts.{scan_byte, scan_quote, scan_open}
use Rattle.volt_text.proofs.quoted.read_quoted.Goals as goal

pub loop-at-preserved-then-byte-ne39 : goal.loop-at-preserved-then-byte-ne39
loop-at-preserved-then-byte-ne39 c =
    rw c.may_be_quoted-is_plain.ensures (scan_byte c.args.text.now c.loop-at.at _ c.loop-at.is_plain c.loop-at.invariant (omega arith) refl (grind (arith, nat_tests)))

pub loop-at-preserved : goal.loop-at-preserved
loop-at-preserved c = scan_quote c.args.text.now c.loop-at.at c.loop-at.is_plain c.loop-at.invariant (omega arith) (grind (arith, nat_tests)) (grind (arith, nat_tests))

pub returns : goal.returns
returns c = scan_open c.args.text.now c.loop-at.at c.loop-at.is_plain c.loop-at.invariant (omega arith)
