-- Bytes with others in their place.
use Rattle.std.proofs.Common.{◌≡◌, ℕ, ◌+◌, ◌-◌, ◌≤◌, get_or, slice_range, length-take, length-drop, length-append, append_assoc, take, drop, List, ◌++◌, length, refl, sym, ap, ◌∙◌, inl, inr, arith}
use Rattle.std.proofs.lemmas.List.{take-append-le, drop-append-le, take-append-drop, length-take-le, take_at, drop_at, drop-drop, get_or-take, get_or-drop, get_or_append_left, get_or-append_right}
use Rattle.std.proofs.lemmas.Bool.{cases_lt}
use Rattle.volt_disk.specs.File.{IsInRange}
use Rattle.volt_disk.specs.Effects.{overwritten}

pub length-overwritten : (at : ℕ) (xs old : List ℕ) → at + length xs ≤ length old → length (overwritten at xs old) ≡ length old
length-overwritten at xs old within = simp (length-append, length-take, length-drop) (omega arith)

-- outside of the place of the new bytes the old ones stand
pub get-overwritten : (at : ℕ) (xs old : List ℕ) (i : ℕ) → at + length xs ≤ length old → ¬ IsInRange i (at, length xs) → get_or (overwritten at xs old) i 0 ≡ get_or old i 0
get-overwritten at xs old i within beyond =
    let prefix : length (take at old) ≡ at = length-take-le at old (omega arith) in
    elim (cases_lt i at) [
      | inl below ↦ get_or_append_left (take at old) (xs ++ drop (at + length xs) old) 0 i (omega arith) ∙ get_or-take at old i 0 below
      | inr above ↦
          elim (cases_lt i (at + length xs)) [
            | inl inside ↦ absurd (beyond (above, inside))
            | inr behind ↦
                get_or-append_right (take at old) (xs ++ drop (at + length xs) old) at i 0 prefix above
                ∙ (get_or-append_right xs (drop (at + length xs) old) (length xs) (i - at) 0 refl (omega arith)
                ∙ (get_or-drop (at + length xs) old (i - at - length xs) 0 ∙ ap (λ k. get_or old k 0) (omega arith)))
          ]
    ]

pub overwritten-append : (at : ℕ) (xs b z : List ℕ) → at + length xs ≤ length b → overwritten at xs (b ++ z) ≡ overwritten at xs b ++ z
overwritten-append at xs b z within =
    rw (take-append-le at b z (omega arith), drop-append-le (at + length xs) b z within)
    (ap (λ l. take at b ++ l) (sym (append_assoc xs (drop (at + length xs) b) z)) ∙ sym (append_assoc (take at b) (xs ++ drop (at + length xs) b) z))

pub length-part : (at n : ℕ) (xs : List ℕ) → at + n ≤ length xs → length (slice_range xs at (at + n)) ≡ n
length-part at n xs within = simp (length-take, length-drop) (omega arith)

-- what stood in a range is put over it again, whatever is there now
overwritten-back : (at n : ℕ) (b now : List ℕ) → at + n ≤ length b → take at now ≡ take at b → drop (at + n) now ≡ drop (at + n) b → overwritten at (slice_range b at (at + n)) now ≡ b
overwritten-back at n b now within prefix behind =
    let len : length (slice_range b at (at + n)) ≡ n = length-part at n b within in
    let count : at + n - at ≡ n = omega arith in
    let part : slice_range b at (at + n) ++ drop (at + n) b ≡ drop at b =
    ap (λ k. take k (drop at b) ++ drop (at + n) b) count ∙ (ap (λ l. take n (drop at b) ++ l) (sym (drop-drop n at b)) ∙ take-append-drop n (drop at b)) in
    rw (len, prefix, behind) (ap (λ l. take at b ++ l) part ∙ take-append-drop at b)

drop-prefix : (at : ℕ) (xs b rest : List ℕ) → at ≤ length b → drop (at + length xs) (take at b ++ (xs ++ rest)) ≡ rest
drop-prefix at xs b rest within =
    let prefix : length (take at b ++ xs) ≡ at + length xs = length-append (take at b) xs ∙ omega (arith, length-take-le at b within) in
    ap (drop (at + length xs)) (sym (append_assoc (take at b) xs rest)) ∙ drop_at (take at b ++ xs) rest (at + length xs) prefix

pub overwritten-asked : (at n : ℕ) (b : List ℕ) → at + n ≤ length b → overwritten at (slice_range b at (at + n)) b ≡ b
overwritten-asked at n b room = overwritten-back at n b b room refl refl

pub overwritten-overwritten : (at : ℕ) (xs b : List ℕ) → at + length xs ≤ length b → overwritten at (slice_range b at (at + length xs)) (overwritten at xs b) ≡ b
overwritten-overwritten at xs b room =
    overwritten-back at (length xs) b (overwritten at xs b) room
    (take_at (take at b) (xs ++ drop (at + length xs) b) at (length-take-le at b (omega arith)))
    (drop-prefix at xs b (drop (at + length xs) b) (omega arith))
