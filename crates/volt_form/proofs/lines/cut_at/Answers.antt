use Rattle.std.proofs.Common.{arith, ◌==◌, sym}
use Rattle.volt_form.proofs.LineLemmas.{cut_none, cut_some, rest_after}
use Rattle.volt_form.proofs.lines.cut_at.Goals as goal

pub returns-in_err-place : goal.returns-in_err-place
returns-in_err-place c =
    let none = cut_none (λ b. b == c.args.byte) c.args.text.now (sym c.in_err-place.ensures) in
    rw c.from_residual.ensures none

pub returns : goal.returns
returns c =
    let place = cut_some (λ b. b == c.args.byte) c.args.text.now c.in_ok-place.place (sym c.in_ok-place.ensures) in
    (omega arith, rw (c.split_at.ensures.front, place.0), rest_after c.args.text.now c.split_at.result.1.now _ _ c.split_at.ensures.back place.0)
