-- The value of digits, read from the left.
use Rattle.std.proofs.Common.{◌≡◌, ◌<◌, ◌≤◌, ℕ, ◌+◌, ◌-◌, ◌*◌, List, [], ◌∷◌, length, drop, get_or, Some, None, arith, inl, inr, refl}
use Rattle.std.proofs.lemmas.List.{drop_more, drop_all}
use Rattle.std.proofs.lemmas.Bool.{le-leb}
use Rattle.std.proofs.lemmas.Bool.Decides.{leb_tells}
use Rattle.sql_grammar.specs.TokenKinds.{digits_from, number_value, max_number}

grows : (n : ℕ) (bs : List ℕ) → n ≤ digits_from n bs
grows n [] = omega arith
grows n (b ∷ bs) = let more : 10 * n + (b - 48) ≤ digits_from (10 * n + (b - 48)) bs = grows (10 * n + (b - 48)) bs in omega arith

small : (ds : List ℕ) (v : ℕ) → digits_from 0 ds ≡ v → v ≤ max_number → Some v ≡ number_value ds
unfolding number_value
small ds v e within = rw e (rw (le-leb v max_number within) refl)

great : (ds : List ℕ) → max_number < digits_from 0 ds → None ≡ number_value ds
unfolding number_value
great ds above = elim (leb_tells (digits_from 0 ds) max_number) [ inl w ↦ absurd (omega (arith, w.1, above)) | inr w ↦ rw (w.0) refl ]

pub is_small : (ds : List ℕ) (v at : ℕ) → digits_from 0 ds ≡ digits_from v (drop at ds) → length ds ≤ at → v ≤ max_number → Some v ≡ number_value ds
is_small ds v at e done within =
    let none : drop at ds ≡ [] = drop_all at ds done in
    small ds v (rw none at e) within

pub is_great : (ds : List ℕ) (v at d : ℕ) → digits_from 0 ds ≡ digits_from v (drop at ds) → at < length ds → d ≡ get_or ds at 0 - 48 → max_number < 10 * v + d → None ≡ number_value ds
is_great ds v at d e below is above =
    let one : drop at ds ≡ get_or ds at 0 ∷ drop (at + 1) ds = drop_more ds at 0 below in
    let next : digits_from 0 ds ≡ digits_from (10 * v + (get_or ds at 0 - 48)) (drop (at + 1) ds) = rw one at e in
    let grown : 10 * v + (get_or ds at 0 - 48) ≤ digits_from (10 * v + (get_or ds at 0 - 48)) (drop (at + 1) ds) = grows (10 * v + (get_or ds at 0 - 48)) (drop (at + 1) ds) in
    great ds (omega arith)
