-- Rows in a pane of which one place may be spare.
use Rattle.std.proofs.Common.{◌≡◌, ℕ, zero, suc, Result, Ok, Err, IfOk, ◌+◌, ◌<◌, ◌^◌, ltb, Bool, true, false, cond, eqb, List, [], ◌∷◌, ◌++◌, length, Option, Some, None, is_some, IsSome, IfSome, Bor, inl, inr, refl, sym, ap, ap₂, ◌∙◌, subst, arith}
use Rattle.std.proofs.lemmas.Bool.{false≢true, cases_eq}
use Rattle.std.proofs.lemmas.List.{get_or-set_other}
use Rattle.std.specs.List.{AllByRecursion}
use Rattle.std.specs.Prelude.{option_map, slice_set, nat_lt}
use Rattle.std.specs.Option.{unwrap_or, option_copied}
use Rattle.volt_value.specs.declared.value.Value.{Value}
use Rattle.row_codec.specs.declared.field.Field.{Field}
use Rattle.row_codec.specs.Packing.{row_width, row_of, IsRow, IsTuple}
use Rattle.tuple_block.specs.Tuples.{Slots, Tuples, free_slots, slot_at}
use Rattle.pane_index.specs.Blocks.{Hold, all_slots}
use Rattle.pane_index.specs.Rows.{Rows}
use Rattle.pane_index.specs.Rows as pane
use Rattle.table_rows.specs.Held.{row_at, with_row, without_row, AreRising}
use Rattle.table_rows.specs.Spread.{Spread, AreTuples, held_from, masked, spread_of, IsPlaced, IsSlot, IsStored, IsSpread}
use Rattle.table_rows.proofs.HeldLemmas.{apart, alike}
use Rattle.table_rows.proofs.SlotLemmas.{rising, at-held_from, held_from-set, held_from-clear, All-held_from, held_from-grown, slot_at-grown, slot_at-set, slot_at-clear, set_twice, set_apart, set_itself, length-set, within}

-- the spare place isn't this one
abbrev pub IsOther : Option ℕ → ℕ → Type 0
IsOther spare place = IfSome spare (λ p. p ≡ place → ⊥)

-- ---- what is read

there : (fields : List Field) (rows : Rows) (place : ℕ) (tuple : List ℕ) → slot_at rows.slots place ≡ Some tuple → unwrap_or (slot_at rows.slots place) [] ≡ tuple
there fields rows place tuple is = ap (λ o. unwrap_or o []) is

pub at-spare : (fields : List Field) (rows : Rows) (place : ℕ) → row_at (spread_of fields rows (Some place)).held place ≡ None
at-spare fields rows place = at-held_from fields 0 place place (slice_set rows.slots place None) (omega arith) ∙ ap (option_map (row_of fields)) (slot_at-clear rows.slots place place ∙ ap (λ b. cond b None (slot_at rows.slots place)) (alike place place refl))

slot_at-masked : (spare : Option ℕ) (slots : Slots) (q : ℕ) → IsOther spare q → slot_at (masked spare slots) q ≡ slot_at slots q
slot_at-masked None slots q other = refl
slot_at-masked (Some p) slots q other = slot_at-clear slots p q ∙ ap (λ b. cond b None (slot_at slots q)) (apart q p (λ e. other (sym e)))

pub at-other : (fields : List Field) (rows : Rows) (spare : Option ℕ) (q : ℕ) → IsOther spare q → row_at (spread_of fields rows spare).held q ≡ option_map (row_of fields) (slot_at rows.slots q)
at-other fields rows spare q other = at-held_from fields 0 q q (masked spare rows.slots) (omega arith) ∙ ap (option_map (row_of fields)) (slot_at-masked spare rows.slots q other)

-- a place with a row isn't spare, and has a tuple
pub other-held : (fields : List Field) (rows : Rows) (spare : Option ℕ) (q : ℕ) → IsSome (row_at (spread_of fields rows spare).held q) → IsOther spare q
other-held fields rows None q held = tt
other-held fields rows (Some p) q held = λ same. false≢true (subst IsSome (ap (λ p. row_at (spread_of fields rows (Some p)).held q) same ∙ at-spare fields rows q) held)

pub slot-held : (fields : List Field) (rows : Rows) (spare : Option ℕ) (q : ℕ) → IsSome (row_at (spread_of fields rows spare).held q) → IsSome (slot_at rows.slots q)
slot-held fields rows spare q held = of_map (slot_at rows.slots q) (subst IsSome (at-other fields rows spare q (other-held fields rows spare q held)) held)
  where
    of_map : (slot : Option (List ℕ)) → IsSome (option_map (row_of fields) slot) → IsSome slot
    of_map None h = h
    of_map (Some t) h = refl

pub within-held : (slots : Slots) (q : ℕ) → IsSome (slot_at slots q) → q < length slots
within-held slots q held = of (slot_at slots q) refl held
  where
    of : (slot : Option (List ℕ)) → slot_at slots q ≡ slot → IsSome slot → q < length slots
    of None is h = absurd (false≢true h)
    of (Some t) is h = within slots q t is

-- ---- the rules

slot_of_masked : (spare : Option ℕ) (slots : Slots) (i : ℕ) (tuple : List ℕ) → slot_at (masked spare slots) i ≡ Some tuple → slot_at slots i ≡ Some tuple
slot_of_masked None slots i tuple is = is
slot_of_masked (Some p) slots i tuple is = chosen (eqb i p) (sym (slot_at-clear slots p i) ∙ is)
  where
    chosen : (b : Bool) → cond b None (slot_at slots i) ≡ Some tuple → slot_at slots i ≡ Some tuple
    chosen true h = absurd cc
    chosen false h = h

placed-slot : (fields : List Field) (place : ℕ) (tuple : List ℕ) → IsSlot fields place tuple → IsPlaced fields (place, row_of fields tuple)
placed-slot fields place tuple slot = record { row = slot.fits.row; limit = slot.limit }

from_zero : (fields : List Field) (place : ℕ) (tuple : List ℕ) → IsSlot fields place tuple → IsPlaced fields (0 + place, row_of fields tuple)
from_zero fields place tuple slot = subst (λ p. IsPlaced fields (p, row_of fields tuple)) (omega arith) (placed-slot fields place tuple slot)

spare_fits : (fields : List Field) (rows : Rows) (p : ℕ) (slot : Option (List ℕ)) → slot_at rows.slots p ≡ slot → IsSome slot → ((tuple : List ℕ) → slot ≡ Some tuple → IsSlot fields p tuple) → IsPlaced fields (p, row_of fields (unwrap_or slot []))
spare_fits fields rows p None is held slots = absurd (false≢true held)
spare_fits fields rows p (Some tuple) is held slots = placed-slot fields p tuple (slots tuple refl)

pub is_spread : (fields : List Field) (rows : Rows) (spare : Option ℕ) → IsStored fields rows spare → IsSpread (spread_of fields rows spare)
is_spread fields rows None stored = record {
  rising = rising fields 0 rows.slots;
  placed = All-held_from (IsPlaced fields) fields 0 rows.slots (λ i tuple is. from_zero fields i tuple (stored.slots i tuple is));
  free = tt;
  fits = tt;
}
is_spread fields rows (Some p) stored = record {
  rising = rising fields 0 (masked (Some p) rows.slots);
  placed = All-held_from (IsPlaced fields) fields 0 (masked (Some p) rows.slots) (λ i tuple is. from_zero fields i tuple (stored.slots i tuple (slot_of_masked (Some p) rows.slots i tuple is)));
  free = at-spare fields rows p;
  fits = spare_fits fields rows p (slot_at rows.slots p) refl stored.held (λ tuple is. stored.slots p tuple is);
}

-- ---- what is written

chosen_slot : (b : Bool) (fields : List Field) (place q : ℕ) (slot : Option (List ℕ)) (tuple t : List ℕ) → (b ≡ true → q ≡ place) → IsSlot fields place tuple → ((t : List ℕ) → slot ≡ Some t → IsSlot fields q t)
    → cond b (Some tuple) slot ≡ Some t → IsSlot fields q t
chosen_slot true fields place q slot tuple t same put were is = subst (λ p. IsSlot fields p t) (sym (same refl)) (subst (IsSlot fields place) (some_is is) put)
  where
    some_is : {a b : List ℕ} → Some a ≡ Some b → a ≡ b
    some_is h = cc
chosen_slot false fields place q slot tuple t same put were is = were t is

same_place : (q p : ℕ) → eqb q p ≡ true → q ≡ p
same_place q p h = elim (cases_eq q p) [
  | inl same ↦ same
  | inr other ↦ absurd (apart_true (sym (apart q p other) ∙ h))
]
  where
    apart_true : false ≡ true → ⊥
    apart_true h = cc

held-set : (slots : Slots) (place q : ℕ) (tuple : List ℕ) → place < length slots → IsSome (slot_at slots q) → IsSome (slot_at (slice_set slots place (Some tuple)) q)
held-set slots place q tuple inside held = subst IsSome (sym (slot_at-set slots place q (Some tuple) inside)) (chosen (eqb q place))
  where
    chosen : (b : Bool) → IsSome (cond b (Some tuple) (slot_at slots q))
    chosen true = refl
    chosen false = held

spare-set : (spare : Option ℕ) (slots : Slots) (place : ℕ) (tuple : List ℕ) → place < length slots → IfSome spare (λ p. IsSome (slot_at slots p)) → IfSome spare (λ p. IsSome (slot_at (slice_set slots place (Some tuple)) p))
spare-set None slots place tuple inside held = tt
spare-set (Some p) slots place tuple inside held = held-set slots place p tuple inside held

pub stored-set : (fields : List Field) (rows : Rows) (spare : Option ℕ) (place : ℕ) (tuple : List ℕ) → IsStored fields rows spare → place < length rows.slots → IsSlot fields place tuple
    → IsStored fields (pane.with_row rows place (Some tuple)) spare
stored-set fields rows spare place tuple stored inside slot = record {
  width = stored.width;
  slots = λ q t is. chosen_slot (eqb q place) fields place q (slot_at rows.slots q) tuple t (same_place q place) slot (stored.slots q) (sym (slot_at-set rows.slots place q (Some tuple) inside) ∙ is);
  held = spare-set spare rows.slots place tuple inside stored.held;
}

left_slot : (b : Bool) (slot : Option (List ℕ)) (t : List ℕ) → cond b None slot ≡ Some t → slot ≡ Some t
left_slot true slot t is = absurd cc
left_slot false slot t is = is

spare-clear : (spare : Option ℕ) (slots : Slots) (place : ℕ) → IsOther spare place → IfSome spare (λ p. IsSome (slot_at slots p)) → IfSome spare (λ p. IsSome (slot_at (slice_set slots place None) p))
spare-clear None slots place other held = tt
spare-clear (Some p) slots place other held = subst IsSome (sym (slot_at-clear slots place p ∙ ap (λ b. cond b None (slot_at slots p)) (apart p place other))) held

pub stored-clear : (fields : List Field) (rows : Rows) (spare : Option ℕ) (place : ℕ) → IsStored fields rows spare → IsOther spare place → IsStored fields (pane.with_row rows place None) spare
stored-clear fields rows spare place stored other = record {
  width = stored.width;
  slots = λ q t is. stored.slots q t (left_slot (eqb q place) (slot_at rows.slots q) t (sym (slot_at-clear rows.slots place q) ∙ is));
  held = spare-clear spare rows.slots place other stored.held;
}

slot_at-place : (rows : Rows) (place q : ℕ) → slot_at (pane.with_place rows place).slots q ≡ slot_at rows.slots q
slot_at-place rows place q = chosen (nat_lt place (length rows.slots))
  where
    chosen : (b : Bool) → slot_at (cond b rows.slots (rows.slots ++ free_slots)) q ≡ slot_at rows.slots q
    chosen true = refl
    chosen false = slot_at-grown rows.slots q

held_from-place : (fields : List Field) (rows : Rows) (place : ℕ) → held_from fields 0 (pane.with_place rows place).slots ≡ held_from fields 0 rows.slots
held_from-place fields rows place = chosen (nat_lt place (length rows.slots))
  where
    chosen : (b : Bool) → held_from fields 0 (cond b rows.slots (rows.slots ++ free_slots)) ≡ held_from fields 0 rows.slots
    chosen true = refl
    chosen false = held_from-grown fields 0 rows.slots

-- ---- a row that is made ready

ready-held : (fields : List Field) (slots : Slots) (place : ℕ) (tuple : List ℕ) → held_from fields 0 (slice_set (slice_set slots place (Some tuple)) place None) ≡ held_from fields 0 (slice_set slots place None)
ready-held fields slots place tuple = ap (held_from fields 0) (set_twice slots place (Some tuple) None)

pub ready-again : (fields : List Field) (rows : Rows) (place : ℕ) (tuple : List ℕ) → place < length rows.slots
    → spread_of fields (pane.with_row rows place (Some tuple)) (Some place) ≡ record (spread_of fields rows (Some place)) { ready = Some (place, row_of fields tuple) }
ready-again fields rows place tuple inside =
    ap₂ (λ (hs : List (ℕ × List Value)) (t : List ℕ). record { fields = fields; held = hs; ready = Some (place, row_of fields t) })
    (ready-held fields rows.slots place tuple)
    (ap (λ o. unwrap_or o []) (slot_at-set rows.slots place place (Some tuple) inside ∙ ap (λ b. cond b (Some tuple) (slot_at rows.slots place)) (alike place place refl)))

-- at a place that was added
abbrev pub after_add : Rows → ℕ → List ℕ → Rows
after_add rows place tuple = pane.with_row (pane.with_place rows place) place (Some tuple)

pub ready-added : (fields : List Field) (rows : Rows) (place : ℕ) (tuple : List ℕ) → slot_at rows.slots place ≡ None → slot_at (after_add rows place tuple).slots place ≡ Some tuple
    → spread_of fields (after_add rows place tuple) (Some place) ≡ record (spread_of fields rows None) { ready = Some (place, row_of fields tuple) }
ready-added fields rows place tuple free held =
    let grown = (pane.with_place rows place).slots in
    let unchanged : slice_set grown place None ≡ grown = ap (slice_set grown place) (sym (slot_at-place rows place place ∙ free)) ∙ set_itself grown place in
    ap₂ (λ (hs : List (ℕ × List Value)) (t : List ℕ). record { fields = fields; held = hs; ready = Some (place, row_of fields t) })
    (ready-held fields grown place tuple ∙ ap (held_from fields 0) unchanged ∙ held_from-place fields rows place)
    (ap (λ o. unwrap_or o []) held)

stored-place : (fields : List Field) (rows : Rows) (place : ℕ) → IsStored fields rows None → IsStored fields (pane.with_place rows place) None
stored-place fields rows place stored = record {
  width = stored.width;
  slots = λ q t is. stored.slots q t (sym (slot_at-place rows place q) ∙ is);
  held = tt;
}

pub stored-added : (fields : List Field) (rows : Rows) (place : ℕ) (tuple : List ℕ) → IsStored fields rows None → slot_at (after_add rows place tuple).slots place ≡ Some tuple → IsSlot fields place tuple
    → IsStored fields (after_add rows place tuple) (Some place)
stored-added fields rows place tuple stored held slot =
    let inside : place < length (pane.with_place rows place).slots = subst (λ n. place < n) (length-set (pane.with_place rows place).slots place (Some tuple)) (within (after_add rows place tuple).slots place tuple held) in
    let set = stored-set fields (pane.with_place rows place) None place tuple (stored-place fields rows place stored) inside slot in
    record { width = set.width; slots = set.slots; held = subst IsSome (sym held) refl }

-- ---- and is accepted

pub accepted : (fields : List Field) (rows : Rows) (place : ℕ) → IsSome (slot_at rows.slots place)
    → spread_of fields rows None ≡ record (spread_of fields rows (Some place)) { held = with_row (spread_of fields rows (Some place)).held place (row_of fields (unwrap_or (slot_at rows.slots place) [])); ready = None }
accepted fields rows place held = of (slot_at rows.slots place) refl held
  where
    put_back : (tuple : List ℕ) → slot_at rows.slots place ≡ Some tuple → slice_set (slice_set rows.slots place None) place (Some tuple) ≡ rows.slots
    put_back tuple is = set_twice rows.slots place None (Some tuple) ∙ ap (slice_set rows.slots place) (sym is) ∙ set_itself rows.slots place

    of : (slot : Option (List ℕ)) → slot_at rows.slots place ≡ slot → IsSome slot
        → spread_of fields rows None ≡ record { fields = fields; held = with_row (held_from fields 0 (slice_set rows.slots place None)) place (row_of fields (unwrap_or slot [])); ready = None }
    of None is h = absurd (false≢true h)
    of (Some tuple) is h =
        ap (λ (hs : List (ℕ × List Value)). record { fields = fields; held = hs; ready = None })
        (ap (held_from fields 0) (sym (put_back tuple is))
        ∙ held_from-set fields 0 place place (slice_set rows.slots place None) tuple (omega arith) (subst (λ n. place < n) (sym (length-set rows.slots place None)) (within rows.slots place tuple is)))

pub stored-accepted : (fields : List Field) (rows : Rows) (spare : Option ℕ) → IsStored fields rows spare → IsStored fields rows None
stored-accepted fields rows spare stored = record { width = stored.width; slots = stored.slots; held = tt }

-- ---- a row in the place of another, and a place that is freed

masked-set : (spare : Option ℕ) (slots : Slots) (place : ℕ) (slot : Option (List ℕ)) → IsOther spare place → masked spare (slice_set slots place slot) ≡ slice_set (masked spare slots) place slot
masked-set None slots place slot other = refl
masked-set (Some p) slots place slot other = set_apart slots place p slot None (λ e. other (sym e))

length-masked : (spare : Option ℕ) (slots : Slots) → length (masked spare slots) ≡ length slots
length-masked None slots = refl
length-masked (Some p) slots = length-set slots p None

kept-ready : (fields : List Field) (rows : Rows) (spare : Option ℕ) (place : ℕ) (slot : Option (List ℕ)) → IsOther spare place
    → (spread_of fields (pane.with_row rows place slot) spare).ready ≡ (spread_of fields rows spare).ready
kept-ready fields rows None place slot other = refl
kept-ready fields rows (Some p) place slot other = ap (λ o. Some (p, row_of fields (unwrap_or o []))) (other_kept rows.slots)
  where
    other_kept : (slots : Slots) → slot_at (slice_set slots place slot) p ≡ slot_at slots p
    other_kept slots = get_or-set_other slots place p slot None other

pub put-held : (fields : List Field) (rows : Rows) (spare : Option ℕ) (place : ℕ) (tuple : List ℕ) → place < length rows.slots → IsOther spare place
    → spread_of fields (pane.with_row rows place (Some tuple)) spare ≡ record (spread_of fields rows spare) { held = with_row (spread_of fields rows spare).held place (row_of fields tuple) }
put-held fields rows spare place tuple inside other =
    ap₂ (λ (hs : List (ℕ × List Value)) (ready : Option (ℕ × List Value)). record { fields = fields; held = hs; ready = ready })
    (ap (held_from fields 0) (masked-set spare rows.slots place (Some tuple) other)
    ∙ held_from-set fields 0 place place (masked spare rows.slots) tuple (omega arith) (subst (λ n. place < n) (sym (length-masked spare rows.slots)) inside))
    (kept-ready fields rows spare place (Some tuple) other)

pub take-held : (fields : List Field) (rows : Rows) (spare : Option ℕ) (place : ℕ) → IsOther spare place
    → spread_of fields (pane.with_row rows place None) spare ≡ record (spread_of fields rows spare) { held = without_row (spread_of fields rows spare).held place }
take-held fields rows spare place other =
    ap₂ (λ (hs : List (ℕ × List Value)) (ready : Option (ℕ × List Value)). record { fields = fields; held = hs; ready = ready })
    (ap (held_from fields 0) (masked-set spare rows.slots place None other) ∙ held_from-clear fields 0 place place (masked spare rows.slots) (omega arith))
    (kept-ready fields rows spare place None other)

-- ---- what a call does

pub limit-held : (fields : List Field) (rows : Rows) (spare : Option ℕ) (place : ℕ) → IsStored fields rows spare → IsSome (slot_at rows.slots place) → place < 2 ^ 28
limit-held fields rows spare place stored held = of (slot_at rows.slots place) refl held
  where
    of : (slot : Option (List ℕ)) → slot_at rows.slots place ≡ slot → IsSome slot → place < 2 ^ 28
    of None is h = absurd (false≢true h)
    of (Some t) is h = (stored.slots place t is).limit

pub spare-held : (rows : Rows) (spare : Option ℕ) (place : ℕ) → spare ≡ Some place → IfSome spare (λ p. IsSome (slot_at rows.slots p)) → IsSome (slot_at rows.slots place)
spare-held rows None place is held = absurd cc
spare-held rows (Some p) place is held = subst (λ q. IsSome (slot_at rows.slots q)) (some_is is) held
  where
    some_is : {a b : ℕ} → Some a ≡ Some b → a ≡ b
    some_is h = cc

pub accept-is : (fields : List Field) (rows : Rows) (spare : Option ℕ) → IsStored fields rows spare
    → IfSome (spread_of fields rows spare).ready (λ e. spread_of fields rows None ≡ record (spread_of fields rows spare) { held = with_row (spread_of fields rows spare).held e.0 e.1; ready = None })
accept-is fields rows None stored = tt
accept-is fields rows (Some place) stored = accepted fields rows place stored.held

-- at a place that has a row, or that is spare
abbrev pub IsThere : List Field → Rows → Option ℕ → ℕ → Type 0
IsThere fields rows spare place = IsSome (row_at (spread_of fields rows spare).held place)

pub limit-there : (fields : List Field) (rows : Rows) (spare : Option ℕ) (place : ℕ) → IsStored fields rows spare → IsThere fields rows spare place → place < 268435456
limit-there fields rows spare place stored there = limit-held fields rows spare place stored (slot-held fields rows spare place there)

pub within-there : (fields : List Field) (rows : Rows) (spare : Option ℕ) (place q : ℕ) → IsThere fields rows spare place → q ≡ place → q < length rows.slots
within-there fields rows spare place q there same = subst (λ p. p < length rows.slots) (sym same) (within-held rows.slots place (slot-held fields rows spare place there))

pub slot-there : (fields : List Field) (rows : Rows) (spare : Option ℕ) (place q : ℕ) → IsThere fields rows spare place → q ≡ place → IsSome (slot_at rows.slots q)
slot-there fields rows spare place q there same = subst (λ p. IsSome (slot_at rows.slots p)) (sym same) (slot-held fields rows spare place there)

over-slot : (fields : List Field) (rows new : Rows) (spare : Option ℕ) (place q : ℕ) (tuple : List ℕ) → IsStored fields rows spare → IsSome (slot_at rows.slots place) → IsTuple fields tuple → q ≡ place
    → new ≡ pane.with_row rows q (Some tuple) → IsStored fields new spare
over-slot fields rows new spare place q tuple stored held fits same is =
    subst (λ (r : Rows). IsStored fields r spare) (sym (is ∙ ap (λ p. pane.with_row rows p (Some tuple)) same))
    (stored-set fields rows spare place tuple stored (within-held rows.slots place held) (record { fits = fits; limit = limit-held fields rows spare place stored held }))

pub put-stored : (fields : List Field) (rows new : Rows) (spare : Option ℕ) (place q : ℕ) (tuple : List ℕ) → IsStored fields rows spare → IsThere fields rows spare place → IsTuple fields tuple → q ≡ place
    → new ≡ pane.with_row rows q (Some tuple) → IsStored fields new spare
put-stored fields rows new spare place q tuple stored there fits same is = over-slot fields rows new spare place q tuple stored (slot-held fields rows spare place there) fits same is

pub put-is : (fields : List Field) (rows new : Rows) (spare : Option ℕ) (place q : ℕ) (tuple : List ℕ) → IsThere fields rows spare place → q ≡ place → new ≡ pane.with_row rows q (Some tuple)
    → spread_of fields new spare ≡ record (spread_of fields rows spare) { held = with_row (spread_of fields rows spare).held place (row_of fields tuple) }
put-is fields rows new spare place q tuple there same is =
    ap (λ (r : Rows). spread_of fields r spare) (is ∙ ap (λ p. pane.with_row rows p (Some tuple)) same)
    ∙ put-held fields rows spare place tuple (within-held rows.slots place (slot-held fields rows spare place there)) (other-held fields rows spare place there)

pub take-stored : (fields : List Field) (rows new : Rows) (spare : Option ℕ) (place q : ℕ) → IsStored fields rows spare → IsThere fields rows spare place → q ≡ place → new ≡ pane.with_row rows q None → IsStored fields new spare
take-stored fields rows new spare place q stored there same is =
    subst (λ (r : Rows). IsStored fields r spare) (sym (is ∙ ap (λ p. pane.with_row rows p None) same)) (stored-clear fields rows spare place stored (other-held fields rows spare place there))

pub take-is : (fields : List Field) (rows new : Rows) (spare : Option ℕ) (place q : ℕ) → IsThere fields rows spare place → q ≡ place → new ≡ pane.with_row rows q None
    → spread_of fields new spare ≡ record (spread_of fields rows spare) { held = without_row (spread_of fields rows spare).held place }
take-is fields rows new spare place q there same is =
    ap (λ (r : Rows). spread_of fields r spare) (is ∙ ap (λ p. pane.with_row rows p None) same) ∙ take-held fields rows spare place (other-held fields rows spare place there)

-- a row that is made ready at the spare place
pub again-limit : (fields : List Field) (rows : Rows) (spare : Option ℕ) (place : ℕ) → IsStored fields rows spare → spare ≡ Some place → place < 268435456
again-limit fields rows spare place stored is = limit-held fields rows spare place stored (spare-held rows spare place is stored.held)

pub again-within : (fields : List Field) (rows : Rows) (spare : Option ℕ) (place q : ℕ) → IsStored fields rows spare → spare ≡ Some place → q ≡ place → q < length rows.slots
again-within fields rows spare place q stored is same = subst (λ p. p < length rows.slots) (sym same) (within-held rows.slots place (spare-held rows spare place is stored.held))

pub again-stored : (fields : List Field) (rows new : Rows) (spare : Option ℕ) (place q : ℕ) (tuple : List ℕ) → IsStored fields rows spare → spare ≡ Some place → IsTuple fields tuple → q ≡ place
    → new ≡ pane.with_row rows q (Some tuple) → IsStored fields new spare
again-stored fields rows new spare place q tuple stored spare-is fits same is = over-slot fields rows new spare place q tuple stored (spare-held rows spare place spare-is stored.held) fits same is

pub again-is : (fields : List Field) (rows new : Rows) (spare : Option ℕ) (place q : ℕ) (tuple : List ℕ) → IsStored fields rows spare → spare ≡ Some place → q ≡ place → new ≡ pane.with_row rows q (Some tuple)
    → spread_of fields new spare ≡ record (spread_of fields rows spare) { ready = Some (place, row_of fields tuple) }
again-is fields rows new spare place q tuple stored spare-is same is =
    ap₂ (λ (r : Rows) (s : Option ℕ). spread_of fields r s) (is ∙ ap (λ p. pane.with_row rows p (Some tuple)) same) spare-is
    ∙ ready-again fields rows place tuple (within-held rows.slots place (spare-held rows spare place spare-is stored.held))
    ∙ ap (λ (s : Option ℕ). record (spread_of fields rows s) { ready = Some (place, row_of fields tuple) }) (sym spare-is)

-- or at one more
pub added-stored : (fields : List Field) (rows new : Rows) (spare : Option ℕ) (place q : ℕ) (tuple : List ℕ) → IsStored fields rows spare → spare ≡ None → q < 2 ^ 28 → q ≡ place → IsTuple fields tuple
    → new ≡ after_add rows place tuple → slot_at new.slots place ≡ Some tuple → IsStored fields new (Some q)
added-stored fields rows new spare place q tuple stored spare-is limit same fits is held =
    subst (λ p. IsStored fields new (Some p)) (sym same)
    (subst (λ (r : Rows). IsStored fields r (Some place)) (sym is)
    (stored-added fields rows place tuple (subst (IsStored fields rows) spare-is stored) (subst (λ (r : Rows). slot_at r.slots place ≡ Some tuple) is held) (record { fits = fits; limit = subst (λ p. p < 2 ^ 28) same limit })))

pub added-is : (fields : List Field) (rows new : Rows) (spare : Option ℕ) (place q : ℕ) (tuple : List ℕ) → spare ≡ None → q ≡ place → slot_at rows.slots place ≡ None → new ≡ after_add rows place tuple → slot_at new.slots place ≡ Some tuple
    → spread_of fields new (Some q) ≡ record (spread_of fields rows spare) { ready = Some (q, row_of fields tuple) }
added-is fields rows new spare place q tuple spare-is same free is held =
    ap₂ (λ (r : Rows) (p : ℕ). spread_of fields r (Some p)) is same
    ∙ ready-added fields rows place tuple free (subst (λ (r : Rows). slot_at r.slots place ≡ Some tuple) is held)
    ∙ ap₂ (λ (s : Option ℕ) (p : ℕ). record (spread_of fields rows s) { ready = Some (p, row_of fields tuple) }) (sym spare-is) (sym same)

-- the tuple that is read
pub read-row : (fields : List Field) (rows : Rows) (spare : Option ℕ) (place q : ℕ) (result : Option (Bor (List ℕ))) (t : Bor (List ℕ)) → IsThere fields rows spare place → q ≡ place → option_copied result ≡ slot_at rows.slots q → result ≡ Some t
    → row_at (spread_of fields rows spare).held place ≡ Some (row_of fields t.now)
read-row fields rows spare place q result t there same is some =
    at-other fields rows spare place (other-held fields rows spare place there)
    ∙ ap (option_map (row_of fields)) (sym (ap (λ p. slot_at rows.slots p) same) ∙ sym is ∙ ap option_copied some)

pub read-fits : (fields : List Field) (rows : Rows) (spare : Option ℕ) (q : ℕ) (result : Option (Bor (List ℕ))) (t : Bor (List ℕ)) → IsStored fields rows spare → option_copied result ≡ slot_at rows.slots q → result ≡ Some t → IsTuple fields t.now
read-fits fields rows spare q result t stored is some = (stored.slots q t.now (sym is ∙ ap option_copied some)).fits

pub read-none : (fields : List Field) (rows : Rows) (spare : Option ℕ) (place q : ℕ) (result : Option (Bor (List ℕ))) → IsThere fields rows spare place → q ≡ place → option_copied result ≡ slot_at rows.slots q → result ≡ None → ⊥
read-none fields rows spare place q result there same is none =
    false≢true (ap (λ (o : Option (List ℕ)). is_some o) (sym (ap option_copied none)) ∙ ap (λ (o : Option (List ℕ)). is_some o) is ∙ slot-there fields rows spare place q there same)

-- ---- the spare place is freed

pub spare-there : (fields : List Field) (rows : Rows) (spare : Option ℕ) (place q : ℕ) → IsStored fields rows spare → spare ≡ Some place → q ≡ place → IsSome (slot_at rows.slots q)
spare-there fields rows spare place q stored is same = subst (λ p. IsSome (slot_at rows.slots p)) (sym same) (spare-held rows spare place is stored.held)

pub freed-stored : (fields : List Field) (rows new : Rows) (spare : Option ℕ) (place q : ℕ) → IsStored fields rows spare → q ≡ place → new ≡ pane.with_row rows q None → IsStored fields new None
freed-stored fields rows new spare place q stored same is =
    subst (λ (r : Rows). IsStored fields r None) (sym (is ∙ ap (λ p. pane.with_row rows p None) same)) (stored-clear fields rows None place (stored-accepted fields rows spare stored) tt)

pub freed-is : (fields : List Field) (rows new : Rows) (spare : Option ℕ) (place q : ℕ) → spare ≡ Some place → q ≡ place → new ≡ pane.with_row rows q None
    → spread_of fields new None ≡ record (spread_of fields rows spare) { ready = None }
freed-is fields rows new spare place q spare_is same is =
    ap (λ (r : Rows). spread_of fields r None) (is ∙ ap (λ p. pane.with_row rows p None) same)
    ∙ sym (ap (λ (o : Option ℕ). record (spread_of fields rows o) { ready = None }) spare_is)

pub none-ready : (fields : List Field) (rows : Rows) (spare : Option ℕ) → (spread_of fields rows spare).ready ≡ None → held_from fields 0 rows.slots ≡ (spread_of fields rows spare).held
none-ready fields rows None none = refl
none-ready fields rows (Some p) none = absurd cc

-- ---- the tuples of a scan

are_tuples : (fields : List Field) (slots : Slots) → ((i : ℕ) (tuple : List ℕ) → slot_at slots i ≡ Some tuple → IsTuple fields tuple) → AreTuples fields slots
are_tuples fields [] are = tt
are_tuples fields (None ∷ slots) are = are_tuples fields slots (λ i tuple is. are (suc i) tuple is)
are_tuples fields (Some tuple ∷ slots) are = (are zero tuple refl, are_tuples fields slots (λ i t is. are (suc i) t is))

pub shared-tuples : {E : Type 0} (fields : List Field) (rows : Rows) (spare : Option ℕ) (result : Result (List Tuples) E) → IsStored fields rows spare → IfOk result (Hold rows) → IfOk result (λ scan. AreTuples fields (all_slots scan))
shared-tuples fields rows spare (Ok scan) stored hold = subst (AreTuples fields) (sym hold.slots) (are_tuples fields rows.slots (λ i tuple is. (stored.slots i tuple is).fits))
shared-tuples fields rows spare (Err failed) stored hold = tt
