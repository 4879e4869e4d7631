use Rattle.std.proofs.Common.{◌≡◌, ◌-◌, ◌++◌, length, drop, ap, ◌∙◌, arith, length-drop}
use Rattle.std.specs.Int.{w32, to_be_bytes}
use Rattle.volt_base.specs.Spelling.{body_bytes}
use Rattle.gate_log.proofs.log.put_length.Goals as goal

pub returns-clause-spelled : goal.returns-clause-spelled
unfolding body_bytes
returns-clause-spelled c =
    let len : length c.args.batch.now - 4 ≡ length (drop 4 c.args.batch.now) = simp length-drop (omega arith) in
    ap (λ p. p ++ drop 4 c.args.batch.now) (c.copy_from_slice.ensures.after ∙ (c.to_be_bytes.ensures ∙ ap (to_be_bytes w32) len))
