use Rattle.std.proofs.Common.{arith}
use Rattle.byte_codec.proofs.ExactReaders.{whole_is, not_whole, none_whole}
use Rattle.byte_codec.proofs.form.read_whole.Goals as goal

pub returns-in-Ok-default-empty-clause-found : goal.returns-in-Ok-default-empty-clause-found
returns-in-Ok-default-empty-clause-found g c =
    whole_is g.F.Form.read_at g.F.Form.spelling g.F.Form.Fits g.met.F.Form.exact c.args.bytes.now c.in-Ok-default-empty.x c.in-Ok-default-empty.field-0-1.now
    (λ i. omega (arith, c.type_inv.bytes i)) c.in-Ok-default-empty.ensures (omega (arith, c.in-Ok-default-empty.len_below))

pub returns-in-Ok-clause-none : goal.returns-in-Ok-clause-none
returns-in-Ok-clause-none g c =
    not_whole g.F.Form.read_at g.F.Form.spelling g.F.Form.Fits g.met.F.Form.exact c.args.bytes.now c.in-Ok.field-0.0 c.in-Ok.field-0.1.now
    c.in-Ok.ensures (omega (arith, c.in-Ok.len_at_least))

pub returns-in-Err-NotSpelled-clause-none : goal.returns-in-Err-NotSpelled-clause-none
returns-in-Err-NotSpelled-clause-none g c =
    none_whole g.F.Form.read_at g.F.Form.spelling g.F.Form.Fits g.met.F.Form.exact c.args.bytes.now (rw c.in-Err-NotSpelled.field-0-is at c.in-Err-NotSpelled.ensures)
