-- Numbers of 128 bits with a sign.
use Rattle.std.proofs.Common.{◌≡◌, ℕ, ◌+◌, ◌*◌, ◌/◌, ◌%◌, ◌^◌, ◌<◌, ℤ, List, ◌++◌, ap, ◌∙◌, sym, subst, arith}
use mir.Facts.{sfits_to_z}
use Rattle.std.specs.Int.{w64, w128, to_be_bytes, cast_signed, cast_unsigned}
use Rattle.std.proofs.Math.Facts.{Fits-of_z}
use Rattle.std.proofs.lemmas.Int.{of_z-to_z, to_z-of_z}
use Rattle.volt_base.specs.Reading.{number_at}
use Rattle.byte_codec.specs.Readers.{both_at, of_halves, wide_at}
use Rattle.byte_codec.specs.Exactness.{Exact, wide_bytes, IsWide}
use Rattle.byte_codec.proofs.ExactReaders.{IsBelow, Mapped, exact64, both_exact, mapped_exact}

abbrev Halves : Type 0
Halves = ℕ × ℕ

abbrev halves_of : ℤ → Halves
halves_of z = (cast_unsigned w128 z / 2 ^ 64, cast_unsigned w128 z % 2 ^ 64)

abbrev AreHalves : Halves → Type 0
AreHalves p = IsBelow (2 ^ 64) p.0 × IsBelow (2 ^ 64) p.1

abbrev whole : Halves → ℕ
whole p = p.0 * 2 ^ 64 + p.1

high_of : (high low : ℕ) → low < 2 ^ 64 → (high * 2 ^ 64 + low) / 2 ^ 64 ≡ high
high_of high low lt = omega (arith, lt)

low_of : (high low : ℕ) → low < 2 ^ 64 → (high * 2 ^ 64 + low) % 2 ^ 64 ≡ low
low_of high low lt = omega (arith, lt)

below : (high low : ℕ) → high < 2 ^ 64 → low < 2 ^ 64 → high * 2 ^ 64 + low < 2 ^ 128
below high low h l = omega (arith, h, l)

halves_again : (p : Halves) → AreHalves p → halves_of (of_halves p) ≡ p
halves_again p fits =
    let bits : cast_unsigned w128 (of_halves p) ≡ whole p = of_z-to_z w128 (whole p) (below p.0 p.1 fits.0 fits.1) in
    ap (λ (n : ℕ). (n / 2 ^ 64, n % 2 ^ 64)) bits
    ∙ (ap (λ (n : ℕ). (n, whole p % 2 ^ 64)) (high_of p.0 p.1 fits.1) ∙ ap (λ (n : ℕ). (p.0, n)) (low_of p.0 p.1 fits.1))

whole_fits : (p : Halves) → AreHalves p → IsWide (of_halves p)
whole_fits p fits = sfits_to_z {w = w128} (record { fits = below p.0 p.1 fits.0 fits.1 })

parts_of : (n : ℕ) → n / 2 ^ 64 * 2 ^ 64 + n % 2 ^ 64 ≡ n
parts_of n = omega arith

whole_again : (z : ℤ) → IsWide z → of_halves (halves_of z) ≡ z
whole_again z fits = ap (cast_signed w128) (parts_of (cast_unsigned w128 z)) ∙ to_z-of_z w128 z fits

halves_fit : (n : ℕ) → n < 2 ^ 128 → AreHalves (n / 2 ^ 64, n % 2 ^ 64)
halves_fit n lt = (omega (arith, lt), omega (arith, lt))

wide_mapped : Mapped of_halves halves_of AreHalves IsWide
wide_mapped = record {
  signs = λ p fits. (halves_again p fits, whole_fits p fits);
  makes = λ z fits. (whole_again z fits, halves_fit (cast_unsigned w128 z) (Fits-of_z fits).fits);
}

abbrev halves_bytes : Halves → List ℕ
halves_bytes p = to_be_bytes w64 p.0 ++ to_be_bytes w64 p.1

pub wide_exact : Exact wide_at wide_bytes IsWide
unfolding wide_at wide_bytes
wide_exact =
    mapped_exact of_halves halves_of (both_at (number_at w64) (number_at w64)) halves_bytes AreHalves IsWide wide_mapped
    (both_exact (number_at w64) (number_at w64) (to_be_bytes w64) (to_be_bytes w64) (IsBelow (2 ^ 64)) (IsBelow (2 ^ 64)) exact64 exact64)
