use Rattle.std.proofs.Common.{arith, sym}
use Rattle.std.proofs.lemmas.Int.{ints}
use Rattle.volt_form.proofs.Numbers.{number_of-minus}
use Rattle.volt_form.proofs.number.read_number.Goals as goal

pub returns-in_err-read_magnitude-in-Some : goal.returns-in_err-read_magnitude-in-Some
returns-in_err-read_magnitude-in-Some c =
    let minus = number_of-minus c.args.word.now c.in-Some.digits.now (sym c.in-Some.ensures) in
    rw (minus, ← c.in_err-read_magnitude-in-Some.ensures.value) c.from_residual.ensures

pub returns-in_ok-read_magnitude-in-Some : goal.returns-in_ok-read_magnitude-in-Some
returns-in_ok-read_magnitude-in-Some c =
    let minus = number_of-minus c.args.word.now c.in-Some.digits.now (sym c.in-Some.ensures) in
    rw (minus, ← c.in_ok-read_magnitude-in-Some.ensures.value) (grind (arith, ints, c.in_ok-read_magnitude-in-Some.ensures.small))
