-- What digits write, digit by digit.
use Rattle.std.proofs.Common.{◌≡◌, ℕ, get_or, drop, sym, ◌∙◌, ◌+◌, ◌*◌, ◌-◌, ◌<◌, ◌≤◌, true, false, List, [], ◌∷◌, length, Some, None, option_map, codes, pos, neg_ℤ, arith, refl}
use Rattle.std.proofs.lemmas.Bool.Decides.{nat_tests}
use Rattle.std.proofs.lemmas.List.{at_drop_more}
use Rattle.std.specs.Char.{digit_value, is_ascii_digit}
use Rattle.std.specs.Str.{all_ascii_digits}
use Rattle.std.specs.Str.Parse.{digits_value_after, digits_value}
use Rattle.volt_value.specs.Values.{greatest}
use Rattle.volt_form.specs.Form.{magnitude_of, after_prefix, number_of_word}

-- more digits never make a smaller number
pub value_grows : (n : ℕ) (ds : List ℕ) → n ≤ digits_value_after 10 n ds
value_grows n [] = omega arith
value_grows n (c ∷ cs) = omega (arith, value_grows (n * 10 + digit_value c) cs)

-- a digit's value
pub digit_value_is : (c : ℕ) → is_ascii_digit c ≡ true → digit_value c ≡ c - 48
digit_value_is c h = grind (arith, nat_tests)

-- no digits write no number
pub no_magnitude-empty : (ds : List ℕ) → length ds ≡ 0 → magnitude_of ds ≡ None
unfolding magnitude_of
no_magnitude-empty ds h = grind (arith, nat_tests)

-- nor do bytes with another one among them
pub no_magnitude-other : (ds : List ℕ) (i : ℕ) → i < length ds → is_ascii_digit (get_or ds i 0) ≡ false → all_ascii_digits (drop i ds) ≡ all_ascii_digits ds → magnitude_of ds ≡ None
unfolding magnitude_of
no_magnitude-other ds i h other e =
    let step = at_drop_more all_ascii_digits ds i 0 h in
    let none : all_ascii_digits ds ≡ false = sym e ∙ step ∙ rw other refl in
    grind (arith, nat_tests)

-- nor do digits whose value is too large
pub no_magnitude-large : (ds : List ℕ) → greatest < digits_value 10 ds → magnitude_of ds ≡ None
unfolding magnitude_of
no_magnitude-large ds h = grind (arith, nat_tests)

-- which may be seen before the last digit
pub no_magnitude-prefix : (ds : List ℕ) (i v : ℕ) → i < length ds → digits_value_after 10 v (drop i ds) ≡ digits_value 10 ds → greatest < v * 10 + digit_value (get_or ds i 0) → magnitude_of ds ≡ None
no_magnitude-prefix ds i v h e large =
    let step = at_drop_more (digits_value_after 10 v) ds i 0 h in
    let grows = value_grows (v * 10 + digit_value (get_or ds i 0)) (drop (i + 1) ds) in
    no_magnitude-large ds (omega arith)

-- other digits write their value
pub magnitude_is : (ds : List ℕ) → 0 < length ds → all_ascii_digits ds ≡ true → digits_value 10 ds ≤ greatest → magnitude_of ds ≡ Some (digits_value 10 ds)
unfolding magnitude_of
magnitude_is ds h i j = grind (arith, nat_tests)

-- no word writes no number
pub number_of-nil : number_of_word [] ≡ None
unfolding number_of_word
number_of-nil = refl

-- behind a minus sign digits write the negative of their number
pub number_of-minus : (word digits : List ℕ) → after_prefix (codes "-") word ≡ Some digits → number_of_word word ≡ option_map (λ n. neg_ℤ (pos n)) (magnitude_of digits)
unfolding number_of_word
number_of-minus [] digits h = grind arith
number_of-minus (c ∷ cs) digits h = grind (arith, nat_tests)

-- and without one their number
pub number_of-plain : (word : List ℕ) → after_prefix (codes "-") word ≡ None → number_of_word word ≡ option_map pos (magnitude_of word)
unfolding number_of_word
number_of-plain [] h = rw (no_magnitude-empty [] refl)
number_of-plain (c ∷ cs) h = grind (arith, nat_tests)

pub ruleset signs = (number_of-minus, number_of-plain)
