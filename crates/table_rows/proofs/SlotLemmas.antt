-- The rows of slots.
use Rattle.std.proofs.Common.{◌≡◌, ℕ, zero, suc, ◌+◌, ◌<◌, ◌≤◌, ◌^◌, ltb, Bool, true, false, cond, eqb, List, [], ◌∷◌, ◌++◌, length, set, get_or, replicate, Option, Some, None, is_some, IsSome, inl, inr, refl, sym, ap, ap₂, ◌∙◌, subst, arith}
use Rattle.std.proofs.lemmas.List.{get_or-set_same, get_or-set_other}
use Rattle.std.proofs.lemmas.Bool.{cases_eq, cases_lt}
use Rattle.std.specs.List.{AllByRecursion, slice_index_or}
use Rattle.std.specs.Prelude.{option_map, slice_set}
use Rattle.std.specs.Option.{unwrap_or}
use Rattle.volt_value.specs.declared.value.Value.{Value}
use Rattle.row_codec.specs.declared.field.Field.{Field}
use Rattle.row_codec.specs.Packing.{row_width, row_of, IsRow, IsTuple}
use Rattle.tuple_block.specs.Tuples.{Slots, free_slots, slot_at}
use Rattle.pane_index.specs.Rows.{Rows}
use Rattle.pane_index.specs.Rows as pane
use Rattle.table_rows.specs.Held.{row_at, with_row, without_row, AreRising}
use Rattle.table_rows.specs.Spread.{Spread, held_from, masked, spread_of, IsPlaced, IsSlot, IsStored, IsSpread}
use Rattle.table_rows.proofs.HeldLemmas.{apart, alike, AreBehind, AreElsewhere, elsewhere_behind, none_elsewhere, with_behind, with_same, with_later, without_same, without_other, at_same, at_other, without_itself}

-- ---- where they stand

pub behind : (fields : List Field) (m n : ℕ) (slots : Slots) → m < n → AreBehind m (held_from fields n slots)
behind fields m n [] lt = tt
behind fields m n (None ∷ slots) lt = behind fields m (suc n) slots (omega arith)
behind fields m n (Some tuple ∷ slots) lt = (lt, behind fields m (suc n) slots (omega arith))

pub rising : (fields : List Field) (n : ℕ) (slots : Slots) → AreRising (held_from fields n slots)
rising fields n [] = tt
rising fields n (None ∷ slots) = rising fields (suc n) slots
rising fields n (Some tuple ∷ slots) = (behind fields n (suc n) slots (omega arith), rising fields (suc n) slots)

first_elsewhere : (fields : List Field) (n place : ℕ) (slots : Slots) → place ≡ n → AreElsewhere place (held_from fields (suc n) slots)
first_elsewhere fields n place slots same = elsewhere_behind place _ (behind fields place (suc n) slots (omega (arith, same)))

pub at-held_from : (fields : List Field) (n i place : ℕ) (slots : Slots) → place ≡ n + i → row_at (held_from fields n slots) place ≡ option_map (row_of fields) (slot_at slots i)
at-held_from fields n i place [] same = refl
at-held_from fields n zero place (None ∷ slots) same = none_elsewhere place _ (first_elsewhere fields n place slots (omega (arith, same)))
at-held_from fields n zero place (Some tuple ∷ slots) same = at_same place (n, row_of fields tuple) _ (omega (arith, same))
at-held_from fields n (suc i) place (None ∷ slots) same = at-held_from fields (suc n) i place slots (omega (arith, same))
at-held_from fields n (suc i) place (Some tuple ∷ slots) same = at_other place (n, row_of fields tuple) _ (λ e. omega (arith, same, e)) ∙ at-held_from fields (suc n) i place slots (omega (arith, same))

pub held_from-set : (fields : List Field) (n i place : ℕ) (slots : Slots) (tuple : List ℕ) → place ≡ n + i → i < length slots
    → held_from fields n (slice_set slots i (Some tuple)) ≡ with_row (held_from fields n slots) place (row_of fields tuple)
held_from-set fields n i place [] tuple same within = absurd (omega (arith, within))
held_from-set fields n zero place (None ∷ slots) tuple same within =
    ap (λ p. (p, row_of fields tuple) ∷ held_from fields (suc n) slots) (sym (omega (arith, same)))
    ∙ sym (with_behind (held_from fields (suc n) slots) place (row_of fields tuple) (behind fields place (suc n) slots (omega (arith, same))))
held_from-set fields n zero place (Some old ∷ slots) tuple same within = sym (with_same place (row_of fields tuple) (n, row_of fields old) _ (omega (arith, same)))
held_from-set fields n (suc i) place (None ∷ slots) tuple same within = held_from-set fields (suc n) i place slots tuple (omega (arith, same)) (omega (arith, within))
held_from-set fields n (suc i) place (Some old ∷ slots) tuple same within =
    ap (λ hs. (n, row_of fields old) ∷ hs) (held_from-set fields (suc n) i place slots tuple (omega (arith, same)) (omega (arith, within)))
    ∙ sym (with_later place (row_of fields tuple) (n, row_of fields old) _ (omega (arith, same)))

pub held_from-clear : (fields : List Field) (n i place : ℕ) (slots : Slots) → place ≡ n + i → held_from fields n (slice_set slots i None) ≡ without_row (held_from fields n slots) place
held_from-clear fields n i place [] same = refl
held_from-clear fields n zero place (None ∷ slots) same = sym (without_itself place _ (first_elsewhere fields n place slots (omega (arith, same))))
held_from-clear fields n zero place (Some old ∷ slots) same = sym (without_same place (n, row_of fields old) _ (omega (arith, same)))
held_from-clear fields n (suc i) place (None ∷ slots) same = held_from-clear fields (suc n) i place slots (omega (arith, same))
held_from-clear fields n (suc i) place (Some old ∷ slots) same =
    ap (λ hs. (n, row_of fields old) ∷ hs) (held_from-clear fields (suc n) i place slots (omega (arith, same)))
    ∙ sym (without_other place (n, row_of fields old) _ (λ e. omega (arith, same, e)))

pub All-held_from : (P : ℕ × List Value → Type 0) (fields : List Field) (n : ℕ) (slots : Slots) → ((i : ℕ) (tuple : List ℕ) → slot_at slots i ≡ Some tuple → P (n + i, row_of fields tuple)) → AllByRecursion P (held_from fields n slots)
All-held_from P fields n [] are = tt
All-held_from P fields n (None ∷ slots) are = All-held_from P fields (suc n) slots (λ i tuple is. subst (λ p. P (p, row_of fields tuple)) (omega arith) (are (suc i) tuple is))
All-held_from P fields n (Some tuple ∷ slots) are =
    (subst (λ p. P (p, row_of fields tuple)) (omega arith) (are zero tuple refl), All-held_from P fields (suc n) slots (λ i t is. subst (λ p. P (p, row_of fields t)) (omega arith) (are (suc i) t is)))

-- ---- free places at the end

held_from-free : (fields : List Field) (n count : ℕ) → held_from fields n (replicate count None) ≡ []
held_from-free fields n zero = refl
held_from-free fields n (suc count) = held_from-free fields (suc n) count

held_from-more : (fields : List Field) (n count : ℕ) (slots : Slots) → held_from fields n (slots ++ replicate count None) ≡ held_from fields n slots
held_from-more fields n count [] = held_from-free fields n count
held_from-more fields n count (None ∷ slots) = held_from-more fields (suc n) count slots
held_from-more fields n count (Some tuple ∷ slots) = ap (λ hs. (n, row_of fields tuple) ∷ hs) (held_from-more fields (suc n) count slots)

pub held_from-grown : (fields : List Field) (n : ℕ) (slots : Slots) → held_from fields n (slots ++ free_slots) ≡ held_from fields n slots
unfolding free_slots
held_from-grown fields n slots = held_from-more fields n 64 slots

slot_at-free : (i count : ℕ) → slot_at (replicate count None) i ≡ None
slot_at-free i zero = refl
slot_at-free zero (suc count) = refl
slot_at-free (suc i) (suc count) = slot_at-free i count

slot_at-more : (slots : Slots) (i count : ℕ) → slot_at (slots ++ replicate count None) i ≡ slot_at slots i
slot_at-more [] i count = slot_at-free i count
slot_at-more (slot ∷ slots) zero count = refl
slot_at-more (slot ∷ slots) (suc i) count = slot_at-more slots i count

pub slot_at-grown : (slots : Slots) (i : ℕ) → slot_at (slots ++ free_slots) i ≡ slot_at slots i
unfolding free_slots
slot_at-grown slots i = slot_at-more slots i 64

-- ---- a slot that changes

pub slot_at-set : (slots : Slots) (i q : ℕ) (slot : Option (List ℕ)) → i < length slots → slot_at (slice_set slots i slot) q ≡ cond (eqb q i) slot (slot_at slots q)
slot_at-set slots i q slot inside = elim (cases_eq q i) [
  | inl same ↦ ap (slot_at (slice_set slots i slot)) same ∙ get_or-set_same slots i slot None inside ∙ sym (ap (λ b. cond b slot (slot_at slots q)) (alike q i same))
  | inr other ↦ get_or-set_other slots i q slot None other ∙ sym (ap (λ b. cond b slot (slot_at slots q)) (apart q i other))
]

cleared : (slots : Slots) (i : ℕ) → slot_at (slice_set slots i None) i ≡ None
cleared [] i = refl
cleared (slot ∷ slots) zero = refl
cleared (slot ∷ slots) (suc i) = cleared slots i

pub slot_at-clear : (slots : Slots) (i q : ℕ) → slot_at (slice_set slots i None) q ≡ cond (eqb q i) None (slot_at slots q)
slot_at-clear slots i q = elim (cases_eq q i) [
  | inl same ↦ ap (slot_at (slice_set slots i None)) same ∙ cleared slots i ∙ sym (ap (λ b. cond b None (slot_at slots q)) (alike q i same))
  | inr other ↦ get_or-set_other slots i q None None other ∙ sym (ap (λ b. cond b None (slot_at slots q)) (apart q i other))
]

pub set_twice : (slots : Slots) (i : ℕ) (a b : Option (List ℕ)) → slice_set (slice_set slots i a) i b ≡ slice_set slots i b
set_twice [] i a b = refl
set_twice (slot ∷ slots) zero a b = refl
set_twice (slot ∷ slots) (suc i) a b = ap (λ r. slot ∷ r) (set_twice slots i a b)

pub set_apart : (slots : Slots) (i j : ℕ) (a b : Option (List ℕ)) → (i ≡ j → ⊥) → slice_set (slice_set slots i a) j b ≡ slice_set (slice_set slots j b) i a
set_apart [] i j a b apart = refl
set_apart (slot ∷ slots) zero zero a b apart = absurd (apart refl)
set_apart (slot ∷ slots) zero (suc j) a b apart = refl
set_apart (slot ∷ slots) (suc i) zero a b apart = refl
set_apart (slot ∷ slots) (suc i) (suc j) a b apart = ap (λ r. slot ∷ r) (set_apart slots i j a b (λ e. apart (ap suc e)))

pub set_itself : (slots : Slots) (i : ℕ) → slice_set slots i (slot_at slots i) ≡ slots
set_itself [] i = refl
set_itself (slot ∷ slots) zero = refl
set_itself (slot ∷ slots) (suc i) = ap (λ r. slot ∷ r) (set_itself slots i)

pub length-set : (slots : Slots) (i : ℕ) (slot : Option (List ℕ)) → length (slice_set slots i slot) ≡ length slots
length-set [] i slot = refl
length-set (other ∷ slots) zero slot = refl
length-set (other ∷ slots) (suc i) slot = ap suc (length-set slots i slot)

pub within : (slots : Slots) (i : ℕ) (tuple : List ℕ) → slot_at slots i ≡ Some tuple → i < length slots
within [] i tuple is = absurd cc
within (slot ∷ slots) zero tuple is = omega arith
within (slot ∷ slots) (suc i) tuple is = omega (arith, within slots i tuple is)
