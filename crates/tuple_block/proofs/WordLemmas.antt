-- The places of ones and zeros in a word of 64 bits.
use Rattle.std.proofs.Common.{◌≡◌, ℕ, ◌+◌, ◌-◌, ◌*◌, ◌/◌, ◌%◌, ◌^◌, ◌<◌, ◌≤◌, bit_and, w64, sym, ap, ◌∙◌, arith, inl, inr}
use Rattle.std.specs.Int.{bit_at, trailing_zeros, trailing_ones}
use Rattle.std.proofs.lemmas.Bool.{cases_lt}
use Rattle.std.proofs.lemmas.Nat.{pow_pos, pow-add, le-div, div_below}
use Rattle.std.proofs.lemmas.Nat.Bits.{bit_at-zero, bit_at-lt, bit_at_and, bit_at_ones, bit_at_above, bit_at_mask_inside, bit_at_mask_below, ones_shl, bit_at-trailing_ones, bit_at-trailing_zeros}
use Rattle.tuple_block.specs.Bits.{IsFirstZero, IsNextOne, IsLastOne}

pub full_word : (word k : ℕ) → word ≡ 18446744073709551615 → k < 64 → bit_at word k ≡ 1
full_word word k full within = ap (λ w. bit_at w k) full ∙ bit_at_ones 64 k within

pub first_zero_is : (word i : ℕ) → word + 1 < 2 ^ 64 → i ≡ trailing_ones w64 word → IsFirstZero word i
first_zero_is word i below is =
    let first = bit_at-trailing_ones w64 word below in
    rw is record { within = first.0; zero = first.1; ones_before = first.2 }

-- the bits of a word from a place on
abbrev pub bits_from : ℕ → ℕ → ℕ
bits_from word from = bit_and word (18446744073709551615 * 2 ^ from % 2 ^ 64)

bits_from-is : (word from : ℕ) → from < 64 → bits_from word from ≡ bit_and word (2 ^ 64 - 2 ^ from)
bits_from-is word from within = ap (bit_and word) (ones_shl 64 from (omega arith))

pub bit_at-bits_from : (word from k : ℕ) → from < 64 → from ≤ k → k < 64 → bit_at (bits_from word from) k ≡ bit_at word k
bit_at-bits_from word from k low above within =
    let e = bit_at_and word (2 ^ 64 - 2 ^ from) k in
    let one = bit_at_mask_inside from 64 k above within in
    let small = bit_at-lt word k in
    ap (λ w. bit_at w k) (bits_from-is word from low) ∙ (e ∙ omega arith)

pub bit_at-bits_from_below : (word from k : ℕ) → from < 64 → k < from → bit_at (bits_from word from) k ≡ 0
bit_at-bits_from_below word from k low below =
    let e = bit_at_and word (2 ^ 64 - 2 ^ from) k in
    let zero = bit_at_mask_below from 64 k below in
    ap (λ w. bit_at w k) (bits_from-is word from low) ∙ (e ∙ omega arith)

pub no_next_one : (word from k : ℕ) → from < 64 → bits_from word from ≡ 0 → from ≤ k → k < 64 → bit_at word k ≡ 0
no_next_one word from k low none above within =
    sym (bit_at-bits_from word from k low above within) ∙ (ap (λ w. bit_at w k) none ∙ bit_at-zero k)

pub next_one_is : (word from i : ℕ) → from < 64 → 0 < bits_from word from → bits_from word from < 2 ^ 64
    → i ≡ trailing_zeros w64 (bits_from word from) → IsNextOne word from i
next_one_is word from i low some below is =
    let first = bit_at-trailing_zeros w64 (bits_from word from) some below in
    let one : bit_at (bits_from word from) i ≡ 1 = rw is first.1 in
    let within : i < 64 = rw is first.0 in
    let above : from ≤ i = elim (cases_lt i from) [
      | inl less ↦ absurd (omega (arith, one, bit_at-bits_from_below word from i low less))
      | inr more ↦ more
    ] in
    record {
      not_before = above;
      within = within;
      one = sym (bit_at-bits_from word from i low above within) ∙ one;
      zeros_between = λ k least less.
          sym (bit_at-bits_from word from k low least (omega arith)) ∙ first.2 k (rw is at less);
    }

pub last_one_is : (word i : ℕ) → 2 ^ i ≤ word → word < 2 * 2 ^ i → i < 64 → IsLastOne word i
last_one_is word i least below within =
    let high : 1 ≤ word / 2 ^ i = le-div 1 word (2 ^ i) (pow_pos i) (omega arith) in
    let low : word / 2 ^ i < 2 = div_below word (2 ^ i) 2 (pow_pos i) below in
    let quotient : word / 2 ^ i ≡ 1 = omega arith in
    record {
      within = within;
      one = ap (λ q. q % 2) quotient;
      zeros_behind = λ k above _. bit_at_above word (i + 1) k (omega (arith, pow-add 2 i 1)) (omega arith);
    }
