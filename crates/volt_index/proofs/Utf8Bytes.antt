-- The bytes of UTF-8 are below 245.
use Rattle.std.proofs.Common.{◌≡◌, ℕ, zero, suc, ◌<◌, Bool, true, false, cond, List, [], ◌∷◌, ◌++◌, get_or, IsUtf8, inl, inr, refl, subst, arith}
use Rattle.std.proofs.lemmas.Bool.{and_parts, ltb-true}
use lib.Dec.{ltb}
use lib.Utf8.{scalar, scalars, encode, encodes, scalar_cases}

abbrev AreLow : List ℕ → Type 0
AreLow [] = Unit {0}
AreLow (byte ∷ bytes) = (byte < 245) × AreLow bytes

AreLow-append : (xs ys : List ℕ) → AreLow xs → AreLow ys → AreLow (xs ++ ys)
AreLow-append [] ys a b = b
AreLow-append (x ∷ xs) ys a b = (a.0, AreLow-append xs ys a.1 b)

AreLow-cond : (b : Bool) (xs ys : List ℕ) → (b ≡ true → AreLow xs) → (b ≡ false → AreLow ys) → AreLow (cond b xs ys)
AreLow-cond true xs ys f g = f refl
AreLow-cond false xs ys f g = g refl

scalar_bound : (c : ℕ) → scalar c ≡ true → c < 1114112
scalar_bound c h = elim (scalar_cases c h) [ inl low ↦ omega arith | inr high ↦ high.1 ]

AreLow-encode : (c : ℕ) → c < 1114112 → AreLow (encode c)
unfolding encode
AreLow-encode c bound =
    AreLow-cond (ltb c 128) _ _ (λ one. let lt = ltb-true _ _ one in (omega arith, tt)) (λ more.
    AreLow-cond (ltb c 2048) _ _ (λ two. let lt = ltb-true _ _ two in (omega arith, (omega arith, tt))) (λ more.
    AreLow-cond (ltb c 65536) _ _ (λ three. let lt = ltb-true _ _ three in (omega arith, (omega arith, (omega arith, tt))))
    (λ four. (omega arith, (omega arith, (omega arith, (omega arith, tt)))))))

AreLow-encodes : (cs : List ℕ) → scalars cs ≡ true → AreLow (encodes cs)
AreLow-encodes [] h = tt
AreLow-encodes (c ∷ cs) h =
    let parts = and_parts _ _ h in
    AreLow-append (encode c) (encodes cs) (AreLow-encode c (scalar_bound c parts.0)) (AreLow-encodes cs parts.1)

low_at : (bytes : List ℕ) (i : ℕ) → AreLow bytes → get_or bytes i 0 < 245
low_at [] i low = omega arith
low_at (byte ∷ bytes) zero low = low.0
low_at (byte ∷ bytes) (suc i) low = low_at bytes i low.1

pub byte_below : (bytes : List ℕ) (i : ℕ) → IsUtf8 bytes → get_or bytes i 0 < 245
byte_below bytes i utf8 = low_at bytes i (subst AreLow utf8.1.1 (AreLow-encodes utf8.0 utf8.1.0))
