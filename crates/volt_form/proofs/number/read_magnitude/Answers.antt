use Rattle.std.proofs.Common.{arith, rules, ◌≡◌, ◌<◌, get_or, sym, ◌∙◌, refl, length}
use Rattle.std.proofs.lemmas.Bool.Decides.{nat_tests}
use Rattle.std.proofs.lemmas.List.{at_drop_all}
use Rattle.std.specs.Str.{all_ascii_digits}
use Rattle.std.specs.Str.Parse.{digits_value_after, digits_value}
use Rattle.volt_value.specs.Values.{greatest}
use Rattle.volt_form.specs.Form.{}
use Rattle.volt_form.proofs.Numbers.{no_magnitude-empty, no_magnitude-other, no_magnitude-prefix, no_magnitude-large, magnitude_is, digit_value_is}
use Rattle.volt_form.proofs.number.read_magnitude.Goals as goal

pub returns-then-is_empty-clause-value : goal.returns-then-is_empty-clause-value
returns-then-is_empty-clause-value c = sym (no_magnitude-empty c.args.digits.now (search rules))

pub returns-then-not-is_ascii_digit-clause-value : goal.returns-then-not-is_ascii_digit-clause-value
returns-then-not-is_ascii_digit-clause-value c =
    sym (no_magnitude-other c.args.digits.now c.loop-digit.digit-index c.loop-digit-test.true (cc) c.loop-digit.invariant.digits_so_far)

pub returns-in_err-checked_mul-clause-value : goal.returns-in_err-checked_mul-clause-value
returns-in_err-checked_mul-clause-value c =
    let large = no_magnitude-prefix c.args.digits.now c.loop-digit.digit-index c.loop-digit.value c.loop-digit-test.true c.loop-digit.invariant.value_so_far (omega (arith, c.in_err-checked_mul.ensures)) in
    rw large c.from_residual.ensures

pub returns-in_err-value-clause-value : goal.returns-in_err-value-clause-value
returns-in_err-value-clause-value c =
    let large = no_magnitude-prefix c.args.digits.now c.loop-digit.digit-index c.loop-digit.value c.loop-digit-test.true c.loop-digit.invariant.value_so_far (omega (arith, c.in_err-value.ensures, digit_value_is (get_or c.args.digits.now c.loop-digit.digit-index 0) cc)) in
    rw large c.from_residual-in_err-value.ensures

pub returns-then-value-le-GREATEST-clause-value : goal.returns-then-value-le-GREATEST-clause-value
returns-then-value-le-GREATEST-clause-value c =
    let value = at_drop_all (digits_value_after 10 c.loop-digit.value) c.args.digits.now c.loop-digit.digit-index (omega arith) in
    let digits = at_drop_all all_ascii_digits c.args.digits.now c.loop-digit.digit-index (omega arith) in
    let some : 0 < length c.args.digits.now = grind (arith, nat_tests) in
    let is = magnitude_is c.args.digits.now some (sym c.loop-digit.invariant.digits_so_far ∙ digits) (omega arith) in
    let same : digits_value 10 c.args.digits.now ≡ c.loop-digit.value = sym c.loop-digit.invariant.value_so_far ∙ value in
    rw (is, same) refl

pub returns-else-value-le-GREATEST-clause-value : goal.returns-else-value-le-GREATEST-clause-value
returns-else-value-le-GREATEST-clause-value c =
    let value = at_drop_all (digits_value_after 10 c.loop-digit.value) c.args.digits.now c.loop-digit.digit-index (omega arith) in
    let large : greatest < digits_value 10 c.args.digits.now = omega arith in
    sym (no_magnitude-large c.args.digits.now large)
