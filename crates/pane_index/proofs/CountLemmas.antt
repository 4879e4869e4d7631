-- Places that hold tuples: how many there are, where the last one is, and their list.
use Rattle.std.proofs.Common.{◌≡◌, ℕ, zero, suc, ◌+◌, ◌<◌, ◌≤◌, ◌||◌, Bool, true, false, cond, ltb, List, [], ◌∷◌, Option, Some, None, IsSome, is_some, length, set, drop, count_by, refl, sym, ap, ◌∙◌, subst, arith, inl, inr}
use Rattle.std.proofs.lemmas.Bool.{cases_lt, lt-ltb, false≢true}
use Rattle.std.proofs.lemmas.List.{drop_more, drop_all}
use Rattle.std.proofs.lemmas.List.Sums.{sum_by-cons, sum_by-set}
use Rattle.tuple_block.specs.Tuples.{Slots, slot_at, IsHeld, IsFree, IsLastHeld}
use Rattle.pane_index.specs.Rows.{used_places, held_from}

-- one for a held place
abbrev pub held : Option (List ℕ) → ℕ
held slot = cond (is_some slot) 1 0

-- ---- parts of ranges
pub IsHeld-join : (slots : Slots) (a b c : ℕ) → IsHeld slots a b → IsHeld slots b c → IsHeld slots a c
IsHeld-join slots a b c before back k from to =
    elim (cases_lt k b) [ inl less ↦ before k from less | inr more ↦ back k more to ]

pub IsFree-join : (slots : Slots) (a b c : ℕ) → IsFree slots a b → IsFree slots b c → IsFree slots a c
IsFree-join slots a b c before back k from to =
    elim (cases_lt k b) [ inl less ↦ before k from less | inr more ↦ back k more to ]

pub IsHeld-part : (slots : Slots) (a b c d : ℕ) → IsHeld slots a d → a ≤ b → c ≤ d → IsHeld slots b c
IsHeld-part slots a b c d all low high k from to = all k (omega arith) (omega arith)

pub IsFree-part : (slots : Slots) (a b c d : ℕ) → IsFree slots a d → a ≤ b → c ≤ d → IsFree slots b c
IsFree-part slots a b c d all low high k from to = all k (omega arith) (omega arith)

-- no place is both
pub held_or_free : (slot : Option (List ℕ)) → IsSome slot → slot ≡ None → ⊥
held_or_free slot some none = false≢true (sym (ap is_some none) ∙ some)

-- ---- how many
pub count-put : (slots : Slots) (p : ℕ) (tuple : List ℕ) → p < length slots → slot_at slots p ≡ None
    → count_by is_some (set slots p (Some tuple)) ≡ count_by is_some slots + 1
count-put slots p tuple within free =
    let e = sum_by-set held slots p (Some tuple) None within in
    let z = ap held free in
    omega (arith, e, z)

pub count-over : (slots : Slots) (p : ℕ) (tuple : List ℕ) → p < length slots → IsSome (slot_at slots p)
    → count_by is_some (set slots p (Some tuple)) ≡ count_by is_some slots
count-over slots p tuple within some =
    let e = sum_by-set held slots p (Some tuple) None within in
    let z : held (slot_at slots p) ≡ 1 = ap (λ b. cond b 1 0) some in
    omega (arith, e, z)

pub count-clear : (slots : Slots) (p : ℕ) → p < length slots → IsSome (slot_at slots p)
    → count_by is_some (set slots p None) + 1 ≡ count_by is_some slots
count-clear slots p within some =
    let e = sum_by-set held slots p None None within in
    let z : held (slot_at slots p) ≡ 1 = ap (λ b. cond b 1 0) some in
    omega (arith, e, z)

-- so many places are held, and then all are free
pub count-cut : (slots : Slots) (u : ℕ) → u ≤ length slots → IsHeld slots 0 u → IsFree slots u (length slots) → count_by is_some slots ≡ u
count-cut [] u within before back = omega arith
count-cut (slot ∷ slots) zero within before back =
    sum_by-cons held slot slots
    ∙ omega (arith, ap held (back 0 (omega arith) (omega arith)), count-cut slots zero (omega arith) (λ k a b. before (suc k) (omega arith) (omega arith)) (λ k a b. back (suc k) (omega arith) (omega arith)))
count-cut (slot ∷ slots) (suc u) within before back =
    let z : held slot ≡ 1 = ap (λ b. cond b 1 0) (before 0 (omega arith) (omega arith)) in
    sum_by-cons held slot slots
    ∙ omega (arith, z, count-cut slots u (omega arith) (λ k a b. before (suc k) (omega arith) (omega arith)) (λ k a b. back (suc k) (omega arith) (omega arith)))

-- ---- up to where
or_right : (a b : Bool) → b ≡ true → (a || b) ≡ true
or_right true b is = refl
or_right false b is = is

used-cons-le : (b : Bool) (u : ℕ) → cond b (suc u) 0 ≤ suc u
used-cons-le true u = omega arith
used-cons-le false u = omega arith

pub used-le : (slots : Slots) (n : ℕ) → IsFree slots n (length slots) → used_places slots ≤ n
used-le [] n free = omega arith
used-le (slot ∷ slots) zero free =
    let rest : used_places slots ≤ 0 = used-le slots zero (λ k a b. free (suc k) (omega arith) (omega arith)) in
    let none : used_places slots ≡ 0 = omega arith in
    let empty : is_some slot ≡ false = ap is_some (free 0 (omega arith) (omega arith)) in
    let nothing : (is_some slot || ltb 0 (used_places slots)) ≡ false = ap (λ b. b || ltb 0 (used_places slots)) empty ∙ ap (ltb 0) none in
    omega (arith, ap (λ b. cond b (suc (used_places slots)) 0) nothing)
used-le (slot ∷ slots) (suc n) free =
    let rest : used_places slots ≤ n = used-le slots n (λ k a b. free (suc k) (omega arith) (omega arith)) in
    omega (arith, used-cons-le (is_some slot || ltb 0 (used_places slots)) (used_places slots))

pub used-gt : (slots : Slots) (p : ℕ) → IsSome (slot_at slots p) → p < used_places slots
used-gt [] p some = absurd (false≢true some)
used-gt (slot ∷ slots) zero some =
    let more : (is_some slot || ltb 0 (used_places slots)) ≡ true = ap (λ b. b || ltb 0 (used_places slots)) some in
    omega (arith, ap (λ b. cond b (suc (used_places slots)) 0) more)
used-gt (slot ∷ slots) (suc p) some =
    let rest : p < used_places slots = used-gt slots p some in
    let more : ltb 0 (used_places slots) ≡ true = lt-ltb 0 (used_places slots) (omega arith) in
    let either : (is_some slot || ltb 0 (used_places slots)) ≡ true = or_right (is_some slot) _ more in
    omega (arith, ap (λ b. cond b (suc (used_places slots)) 0) either)

pub used-last : (slots : Slots) (p : ℕ) → IsLastHeld slots p → used_places slots ≡ p + 1
used-last slots p is = omega (arith, used-le slots (p + 1) is.free_behind, used-gt slots p is.held)

-- so many places are held, and then all are free
pub used-cut : (slots : Slots) (u : ℕ) → u ≤ length slots → IsHeld slots 0 u → IsFree slots u (length slots) → used_places slots ≡ u
used-cut slots zero within before back = omega (arith, used-le slots 0 back)
used-cut slots (suc u) within before back = omega (arith, used-le slots (suc u) back, used-gt slots u (before u (omega arith) (omega arith)))

-- ---- their list
pub held_from-next : (slots : Slots) (gap at k : ℕ) → at + gap ≡ k → k < length slots → IsSome (slot_at slots k) → IsFree slots at k
    → held_from at (drop at slots) ≡ k ∷ held_from (k + 1) (drop (k + 1) slots)
held_from-next slots zero at k sum within some free =
    let same : k ≡ at = omega arith in
    let rest = held_from (k + 1) (drop (k + 1) slots) in
    subst (λ a. held_from a (drop a slots) ≡ k ∷ rest) same
    (ap (held_from k) (drop_more slots k None within) ∙ ap (λ b. cond b (k ∷ rest) rest) some)
held_from-next slots (suc gap) at k sum within some free =
    let rest = held_from (at + 1) (drop (at + 1) slots) in
    let empty : is_some (slot_at slots at) ≡ false = ap is_some (free at (omega arith) (omega arith)) in
    ap (held_from at) (drop_more slots at None (omega arith))
    ∙ (ap (λ b. cond b (at ∷ rest) rest) empty
    ∙ held_from-next slots gap (at + 1) k (omega arith) within some (IsFree-part slots at (at + 1) k k free (omega arith) (omega arith)))

pub held_from-none : (slots : Slots) (gap at : ℕ) → length slots ≤ at + gap → IsFree slots at (length slots) → held_from at (drop at slots) ≡ []
held_from-none slots zero at sum free = ap (held_from at) (drop_all at slots (omega arith))
held_from-none slots (suc gap) at sum free = elim (cases_lt at (length slots)) [
  | inl more ↦
      let rest = held_from (at + 1) (drop (at + 1) slots) in
      let empty : is_some (slot_at slots at) ≡ false = ap is_some (free at (omega arith) (omega arith)) in
      ap (held_from at) (drop_more slots at None more)
      ∙ (ap (λ b. cond b (at ∷ rest) rest) empty
      ∙ held_from-none slots gap (at + 1) (omega arith) (IsFree-part slots at (at + 1) (length slots) (length slots) free (omega arith) (omega arith)))
  | inr over ↦ ap (held_from at) (drop_all at slots over)
]
