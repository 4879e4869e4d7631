-- The slots of a block, by its bytes and its word, after a write to either.
use Rattle.std.proofs.Common.{◌≡◌, ◌≢◌, ℕ, ◌+◌, ◌*◌, ◌<◌, ◌≤◌, inl, inr, cond, eqb, List, ◌++◌, Option, Some, None, IsSome, MatchOption, length, set, take, drop, replicate, refl, sym, ap, ◌∙◌, subst, arith, append_assoc, get_or-set_same, get_or-set_other}
use Rattle.std.specs.Int.{bit_at}
use Rattle.std.proofs.Math.Nat.{mul-le-mul_right}
use Rattle.std.proofs.lemmas.Bool.{cases_order, cases_eq}
use Rattle.std.proofs.lemmas.List.{length-set, length-replicate, get_or-replicate, length-take-le, length-append, drop-take, drop_at, take_at, take-append-le, take-take}
use Rattle.std.proofs.lemmas.Slice.{drop-append-drop}
use Rattle.std.proofs.lemmas.Nat.Bits.{bit_at-zero}
use Rattle.std.proofs.lemmas.List.FromFn.{length-map-range_with_len, get_or-map-range_with_len, fill_by_all}
use Rattle.tuple_block.specs.Tuples.{Slots, Tuples, free_slots, slot_at, IsHeld, IsFree, IsFirstFree, IsNextHeld, IsLastHeld}
use Rattle.tuple_block.specs.Layout.{tuple_at, slots_of}
use Rattle.tuple_block.specs.Bits.{IsFirstZero, IsNextOne, IsLastOne}

pub length-slots_of : (width occupied : ℕ) (bytes : List ℕ) → length (slots_of width occupied bytes) ≡ 64
unfolding slots_of
length-slots_of width occupied bytes = length-map-range_with_len (tuple_at width occupied bytes) 0 64

pub slot_at-slots_of : (width occupied : ℕ) (bytes : List ℕ) (i : ℕ) → i < 64
    → slot_at (slots_of width occupied bytes) i ≡ tuple_at width occupied bytes i
unfolding slots_of
slot_at-slots_of width occupied bytes i within =
    get_or-map-range_with_len (tuple_at width occupied bytes) 0 64 i i None within (omega arith)

-- slots that are at each place what the bytes and the word say
pub slots_of-is : (width occupied : ℕ) (bytes : List ℕ) (slots : Slots) → length slots ≡ 64
    → ((i : ℕ) → i < 64 → slot_at slots i ≡ tuple_at width occupied bytes i) → slots_of width occupied bytes ≡ slots
unfolding slots_of
slots_of-is width occupied bytes slots len same =
    sym (fill_by_all (tuple_at width occupied bytes) slots 64 None len same)

-- a place whose bit is 0 is free, one whose bit is 1 holds the bytes that lie there
pub tuple_at-free : (width occupied : ℕ) (bytes : List ℕ) (i : ℕ) → bit_at occupied i ≡ 0 → tuple_at width occupied bytes i ≡ None
tuple_at-free width occupied bytes i zero =
    ap (λ b. cond (eqb b 1) (Some (take width (drop (i * width) bytes))) None) zero

pub tuple_at-held : (width occupied : ℕ) (bytes : List ℕ) (i : ℕ) → bit_at occupied i ≡ 1
    → tuple_at width occupied bytes i ≡ Some (take width (drop (i * width) bytes))
tuple_at-held width occupied bytes i one =
    ap (λ b. cond (eqb b 1) (Some (take width (drop (i * width) bytes))) None) one

-- blocks with the same slots
pub same_tuples : (width : ℕ) (slots others : Slots) → slots ≡ others
    → ◌≡◌ {A = Tuples} (record { width = width; slots = slots }) (record { width = width; slots = others })
same_tuples width slots others same = let f : Slots → Tuples = λ s. record { width = width; slots = s } in ap f same

-- ---- bytes after a write
-- these bytes over those from a place on
abbrev pub written : ℕ → List ℕ → List ℕ → List ℕ
written at tuple bytes = take at bytes ++ tuple ++ drop (at + length tuple) bytes

taken-written : (at : ℕ) (tuple bytes : List ℕ) → at ≤ length bytes → take (length tuple) (drop at (written at tuple bytes)) ≡ tuple
taken-written at tuple bytes within =
    let prefix = length-take-le at bytes within in
    rw (append_assoc (take at bytes) tuple (drop (at + length tuple) bytes), drop_at (take at bytes) (tuple ++ drop (at + length tuple) bytes) at prefix)
    (take_at tuple (drop (at + length tuple) bytes) (length tuple) refl)

-- what lies before the write
taken-written_before : (at : ℕ) (tuple bytes : List ℕ) (from len : ℕ) → at ≤ length bytes → from + len ≤ at
    → take len (drop from (written at tuple bytes)) ≡ take len (drop from bytes)
taken-written_before at tuple bytes from len within before =
    let prefix = length-take-le at bytes within in
    let rest = tuple ++ drop (at + length tuple) bytes in
    sym (drop-take from len (written at tuple bytes))
    ∙ (ap (drop from) (ap (take (from + len)) (append_assoc (take at bytes) tuple (drop (at + length tuple) bytes))
    ∙ (take-append-le (from + len) (take at bytes) rest (omega arith)
    ∙ take-take (from + len) at bytes before))
    ∙ drop-take from len bytes)

-- what lies behind the write
taken-written_behind : (at : ℕ) (tuple bytes : List ℕ) (from len : ℕ) → at + length tuple ≤ length bytes → at + length tuple ≤ from
    → take len (drop from (written at tuple bytes)) ≡ take len (drop from bytes)
taken-written_behind at tuple bytes from len within behind =
    let prefix = length-take-le at bytes (omega arith) in
    ap (take len) (drop-append-drop (at + length tuple) bytes (take at bytes ++ tuple) from behind (omega (arith, length-append (take at bytes) tuple)))

-- the bytes of a tuple at another place
taken-written_elsewhere : (width i k : ℕ) (tuple bytes : List ℕ) → i < 64 → length tuple ≡ width → length bytes ≡ 64 * width → k ≢ i
    → take width (drop (k * width) (written (i * width) tuple bytes)) ≡ take width (drop (k * width) bytes)
taken-written_elsewhere width i k tuple bytes within len size other =
    let fits : i * width + width ≤ 64 * width = omega (arith, mul-le-mul_right width within) in
    elim (cases_order k i) [
      | inl same ↦ absurd (other same)
      | inr (inl before) ↦ taken-written_before (i * width) tuple bytes (k * width) width (omega arith) (omega (arith, mul-le-mul_right width before))
      | inr (inr behind) ↦ taken-written_behind (i * width) tuple bytes (k * width) width (omega arith) (omega (arith, mul-le-mul_right width behind))
    ]

-- ---- slots after a call
pub slots_of-put : (width occupied after i : ℕ) (tuple bytes : List ℕ) → i < 64 → length tuple ≡ width → length bytes ≡ 64 * width
    → bit_at after i ≡ 1 → ((k : ℕ) → k ≢ i → bit_at after k ≡ bit_at occupied k)
    → slots_of width after (written (i * width) tuple bytes) ≡ set (slots_of width occupied bytes) i (Some tuple)
slots_of-put width occupied after i tuple bytes within len size one others =
    let slots = slots_of width occupied bytes in
    let new = written (i * width) tuple bytes in
    let fits : i * width + width ≤ 64 * width = omega (arith, mul-le-mul_right width within) in
    let there : take width (drop (i * width) new) ≡ tuple = subst (λ n. take n (drop (i * width) new) ≡ tuple) len (taken-written (i * width) tuple bytes (omega arith)) in
    let enough : i < length slots = omega (arith, length-slots_of width occupied bytes) in
    slots_of-is width after new (set slots i (Some tuple)) (length-set slots i (Some tuple) ∙ length-slots_of width occupied bytes)
    (λ k below. elim (cases_eq k i) [
      | inl same ↦ subst (λ n. slot_at (set slots i (Some tuple)) n ≡ tuple_at width after new n) (sym same)
          (get_or-set_same slots i (Some tuple) None enough ∙ sym (tuple_at-held width after new i one ∙ ap Some there))
      | inr other ↦ get_or-set_other slots i k (Some tuple) None other ∙ (slot_at-slots_of width occupied bytes k below
          ∙ (ap (λ b. cond (eqb b 1) (Some (take width (drop (k * width) bytes))) None) (sym (others k other))
          ∙ ap (λ t. cond (eqb (bit_at after k) 1) (Some t) None) (sym (taken-written_elsewhere width i k tuple bytes within len size other))))
    ])

pub slots_of-clear : (width occupied after i : ℕ) (bytes : List ℕ) → i < 64 → bit_at after i ≡ 0
    → ((k : ℕ) → k < 64 → k ≢ i → bit_at after k ≡ bit_at occupied k)
    → slots_of width after bytes ≡ set (slots_of width occupied bytes) i None
slots_of-clear width occupied after i bytes within zero others =
    let slots = slots_of width occupied bytes in
    let enough : i < length slots = omega (arith, length-slots_of width occupied bytes) in
    slots_of-is width after bytes (set slots i None) (length-set slots i None ∙ length-slots_of width occupied bytes)
    (λ k below. elim (cases_eq k i) [
      | inl same ↦ subst (λ n. slot_at (set slots i None) n ≡ tuple_at width after bytes n) (sym same)
          (get_or-set_same slots i None None enough ∙ sym (tuple_at-free width after bytes i zero))
      | inr other ↦ get_or-set_other slots i k None None other ∙ (slot_at-slots_of width occupied bytes k below
          ∙ ap (λ b. cond (eqb b 1) (Some (take width (drop (k * width) bytes))) None) (sym (others k below other)))
    ])

pub slots_of-new : (width : ℕ) (bytes : List ℕ) → slots_of width 0 bytes ≡ free_slots
unfolding free_slots
slots_of-new width bytes =
    let all_free : Slots = replicate 64 None in
    slots_of-is width 0 bytes all_free (length-replicate {A = Option (List ℕ)} 64 None)
    (λ k below. get_or-replicate 64 k None None below ∙ sym (tuple_at-free width 0 bytes k (bit_at-zero k)))

-- ---- places by the bits of the word
module _ (width occupied : ℕ) (bytes : List ℕ) where
  pub slot_at-free : (i : ℕ) → i < 64 → bit_at occupied i ≡ 0 → slot_at (slots_of width occupied bytes) i ≡ None
  slot_at-free i within zero = slot_at-slots_of width occupied bytes i within ∙ tuple_at-free width occupied bytes i zero

  pub slot_at-tuple : (i : ℕ) → i < 64 → bit_at occupied i ≡ 1
      → slot_at (slots_of width occupied bytes) i ≡ Some (take width (drop (i * width) bytes))
  slot_at-tuple i within one = slot_at-slots_of width occupied bytes i within ∙ tuple_at-held width occupied bytes i one

  slot_at-held : (i : ℕ) → i < 64 → bit_at occupied i ≡ 1 → IsSome (slot_at (slots_of width occupied bytes) i)
  slot_at-held i within one =
      subst IsSome (sym (slot_at-tuple i within one)) refl

  pub first_free_of : (r : Option ℕ) → MatchOption r ((k : ℕ) → k < 64 → bit_at occupied k ≡ 1) (IsFirstZero occupied)
      → MatchOption r (IsHeld (slots_of width occupied bytes) 0 64) (IsFirstFree (slots_of width occupied bytes))
  first_free_of None full = λ k _ within. slot_at-held k within (full k within)
  first_free_of (Some i) is = record {
    within = omega (arith, length-slots_of width occupied bytes, is.within);
    free = slot_at-free i is.within is.zero;
    held_before = λ k _ before. slot_at-held k (omega (arith, is.within)) (is.ones_before k before);
  }

  pub next_held_of : (from : ℕ) (r : Option ℕ) → MatchOption r ((k : ℕ) → from ≤ k → k < 64 → bit_at occupied k ≡ 0) (IsNextOne occupied from)
      → MatchOption r (IsFree (slots_of width occupied bytes) from 64) (IsNextHeld (slots_of width occupied bytes) from)
  next_held_of from None empty = λ k above within. slot_at-free k within (empty k above within)
  next_held_of from (Some i) is = record {
    not_before = is.not_before;
    within = omega (arith, length-slots_of width occupied bytes, is.within);
    held = slot_at-held i is.within is.one;
    free_between = λ k above before. slot_at-free k (omega (arith, is.within)) (is.zeros_between k above before);
  }

  pub last_held_of : (r : Option ℕ) → MatchOption r ((k : ℕ) → k < 64 → bit_at occupied k ≡ 0) (IsLastOne occupied)
      → MatchOption r (IsFree (slots_of width occupied bytes) 0 64) (IsLastHeld (slots_of width occupied bytes))
  last_held_of None empty = λ k _ within. slot_at-free k within (empty k within)
  last_held_of (Some i) is = record {
    within = omega (arith, length-slots_of width occupied bytes, is.within);
    held = slot_at-held i is.within is.one;
    free_behind = λ k above below.
        let within : k < 64 = omega (arith, length-slots_of width occupied bytes) in
        slot_at-free k within (is.zeros_behind k (omega arith) within);
  }
