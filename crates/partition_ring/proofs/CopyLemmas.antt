-- Copies in a set are copies in order.
use Rattle.std.proofs.Common.{◌≡◌, ℕ, zero, suc, ◌+◌, ◌-◌, ◌<◌, List, [], ◌∷◌, Option, Some, None, arith, refl, sym, ◌∙◌}
use Rattle.std.proofs.lemmas.Bool.Decides.{nat_tests}
use Rattle.std.specs.BTreeSet.{insert_key}
use Rattle.std.specs.Ordering.{nat_cmp, ordering_then}
use Rattle.std.specs.declared.cmp.Ordering.{Ordering}
use Rattle.std.specs.List.{range_with_len}
use Rattle.partition_ring.specs.Placement.{host_of, start_in, standing, with_copy, with_copies}

-- by the start, and then by the slot
abbrev pub pair_cmp : ℕ × ℕ → ℕ × ℕ → Ordering
pair_cmp a b = ordering_then (nat_cmp a.0 b.0) (nat_cmp a.1 b.1)

-- a set of copies gets one more at its place
pub insert_copy : (copies : List (ℕ × ℕ)) (copy : ℕ × ℕ) → insert_key pair_cmp copies copy ≡ with_copy copies copy
insert_copy [] copy = refl
insert_copy (first ∷ copies) copy = grind (arith, nat_tests, insert_copy copies copy)

-- and so does the list of the copies that stand, where the slot's host is a member
pub put_copy : (hosts : ℕ) (members copies after : List (ℕ × ℕ)) (slot start : ℕ) → start_in members (host_of hosts slot) ≡ Some start
    → after ≡ insert_key pair_cmp copies (start, slot) → after ≡ with_copies copies (standing hosts members (slot ∷ []))
put_copy hosts members copies after slot start member put = rw member (put ∙ insert_copy copies (start, slot))

-- copies are put at their places one slot after another
pub next_slot : (hosts : ℕ) (members copies : List (ℕ × ℕ)) (slot n : ℕ) → 0 < n
    → with_copies copies (standing hosts members (range_with_len slot n))
    ≡ with_copies (with_copies copies (standing hosts members (slot ∷ []))) (standing hosts members (range_with_len (slot + 1) (n - 1)))
next_slot hosts members copies slot zero some = absurd (omega arith)
next_slot hosts members copies slot (suc n) some =
    let e : suc n - 1 ≡ n = omega arith in
    rw e (by_start (start_in members (host_of hosts slot)) refl)
  where
    by_start : (start : Option ℕ) → start_in members (host_of hosts slot) ≡ start → with_copies copies (standing hosts members (range_with_len slot (suc n))) ≡ with_copies (with_copies copies (standing hosts members (slot ∷ []))) (standing hosts members (range_with_len (slot + 1) n))
    by_start None e = rw e refl
    by_start (Some start) e = rw e refl

-- what is left to put after one slot more
pub slot_put : (hosts : ℕ) (members copies after whole : List (ℕ × ℕ)) (first copy size : ℕ) → copy < size
    → after ≡ with_copies copies (standing hosts members ((first + copy) ∷ []))
    → with_copies copies (standing hosts members (range_with_len (first + copy) (size - copy))) ≡ whole
    → with_copies after (standing hosts members (range_with_len (first + (copy + 1)) (size - (copy + 1)))) ≡ whole
slot_put hosts members copies after whole first copy size lt put kept =
    let at : first + (copy + 1) ≡ first + copy + 1 = omega arith in
    let left : size - (copy + 1) ≡ size - copy - 1 = omega arith in
    rw (put, at, left) (sym (next_slot hosts members copies (first + copy) (size - copy) (omega arith)) ∙ kept)
