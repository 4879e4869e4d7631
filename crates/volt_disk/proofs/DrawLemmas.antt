-- Draws over the ranges of a file.
use Rattle.std.proofs.Common.{◌≡◌, ℕ, zero, suc, ◌+◌, ◌-◌, ◌<◌, ◌≤◌, ◌^◌, ◌%◌, get_or, set, take, List, [], ◌∷◌, length, refl, ◌∙◌, inl, inr, arith, length-set, get_or-set_other, eq-eqb}
use Rattle.std.proofs.lemmas.List.{get_or-take, length-take-le}
use Rattle.std.proofs.lemmas.Bool.{cases_eq, ne_eqb}
use Rattle.std.proofs.Math.Nat.{mod-lt}
use Rattle.volt_disk.specs.Draws.{next_state, draw_of}
use Rattle.volt_disk.specs.File.{File, IsInRange, IsInSome, IsTorn}
use Rattle.volt_disk.specs.Stored.{scattered, scattered_all, cut_to, drawn}

-- a loop over a range scatters one more byte
pub scattered-more : (len at i : ℕ) (now was : List ℕ) (x y : ℕ) → i < len → y ≡ next_state x → now ≡ set was (at + i) (draw_of y % 2 ^ 8) → scattered (len - i) (at + i) (was, x) ≡ scattered (len - (i + 1)) (at + (i + 1)) (now, y)
unfolding scattered
scattered-more len at i now was x y lt next is =
    let left : len - i ≡ suc (len - (i + 1)) = omega arith in
    let here : at + (i + 1) ≡ at + i + 1 = omega arith in
    rw (left, is, next, here)

pub scattered-none : (n at : ℕ) (b : List ℕ × ℕ) → n ≡ 0 → scattered n at b ≡ b
unfolding scattered
scattered-none n at b none = rw none

length-scattered : (n at : ℕ) (b : List ℕ × ℕ) → length (scattered n at b).0 ≡ length b.0
unfolding scattered
length-scattered zero at b = refl
length-scattered (suc n) at b =
    length-scattered n (at + 1) (set b.0 at (draw_of (next_state b.1) % 2 ^ 8), next_state b.1) ∙ length-set b.0 at (draw_of (next_state b.1) % 2 ^ 8)

get-scattered : (n at : ℕ) (b : List ℕ × ℕ) (i : ℕ) → ¬ IsInRange i (at, n) → get_or (scattered n at b).0 i 0 ≡ get_or b.0 i 0
unfolding scattered
get-scattered zero at b i beyond = refl
get-scattered (suc n) at b i beyond =
    get-scattered n (at + 1) (set b.0 at (draw_of (next_state b.1) % 2 ^ 8), next_state b.1) i (λ h. beyond (let low = h.0 in omega arith, let high = h.1 in omega arith))
    ∙ get_or-set_other b.0 at i (draw_of (next_state b.1) % 2 ^ 8) 0 (λ same. beyond (omega arith, omega arith))

length-scattered_all : (rs : List (ℕ × ℕ)) (b : List ℕ × ℕ) → length (scattered_all rs b).0 ≡ length b.0
length-scattered_all [] b = refl
length-scattered_all (r ∷ rs) b = length-scattered_all rs (scattered r.1 r.0 b) ∙ length-scattered r.1 r.0 b

get-scattered_all : (rs : List (ℕ × ℕ)) (b : List ℕ × ℕ) (i : ℕ) → ¬ IsInSome i rs → get_or (scattered_all rs b).0 i 0 ≡ get_or b.0 i 0
get-scattered_all [] b i beyond = refl
get-scattered_all (r ∷ rs) b i beyond =
    get-scattered_all rs (scattered r.1 r.0 b) i (λ h. beyond (inr h)) ∙ get-scattered r.1 r.0 b i (λ h. beyond (inl h))

-- the length that a draw gives
record IsCut (least : ℕ) (bytes cut : List ℕ) : Type 0 where
  low : least ≤ length cut
  high : length cut ≤ length bytes
  same : (i : ℕ) → i < length cut → get_or cut i 0 ≡ get_or bytes i 0

take-is_cut : (least n : ℕ) (bytes : List ℕ) → least ≤ n → n ≤ length bytes → IsCut least bytes (take n bytes)
take-is_cut least n bytes low high =
    let len : length (take n bytes) ≡ n = length-take-le n bytes high in
    record { low = omega arith; high = omega arith; same = λ i less. get_or-take n bytes i 0 (omega (arith, less, len)) }

cut_to-is_cut : (least x : ℕ) (bytes : List ℕ) → least ≤ length bytes → IsCut least bytes (cut_to least x bytes).0
cut_to-is_cut least x bytes low =
    elim (cases_eq least (length bytes)) [
      | inl same ↦ rw (eq-eqb least (length bytes) same) (record { low = omega arith; high = omega arith; same = λ i less. refl })
      | inr differs ↦
          let small = mod-lt (draw_of (next_state x)) {m = length bytes - least + 1} (omega arith) in
          rw (ne_eqb least (length bytes) differs) (take-is_cut least (least + draw_of (next_state x) % (length bytes - least + 1)) bytes (omega arith) (omega arith))
    ]

pub drawn-is_torn : (x : ℕ) (f : File) → f.least ≤ length f.bytes → length f.bytes ≤ f.most → IsTorn f (drawn x f).0
drawn-is_torn x f low high =
    let cut = cut_to-is_cut f.least x f.bytes low in
    let len = length-scattered_all f.written (cut_to f.least x f.bytes) in
    record {
      no_shorter = let l = cut.low in omega arith;
      no_longer = let h = cut.high in omega arith;
      others = λ i less beyond. get-scattered_all f.written (cut_to f.least x f.bytes) i beyond ∙ cut.same i (omega (arith, less, len));
    }
