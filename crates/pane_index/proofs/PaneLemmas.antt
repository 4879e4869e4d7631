-- What a pane keeps, call by call.
use Rattle.std.proofs.Common.{◌≡◌, ◌≢◌, ℕ, ◌+◌, ◌-◌, ◌*◌, ◌/◌, ◌<◌, ◌≤◌, max, Bool, true, false, cond, ltb, List, [], ◌∷◌, ◌++◌, Option, Some, None, ◌↔◌, IsTrue, IsSome, IfSome, is_some, MatchOption, length, set, drop, count_by, refl, sym, ap, ◌∙◌, subst, arith, inl, inr, Bor}
use Rattle.std.specs.Option.{option_copied}
use Rattle.std.specs.Int.{div_ceil}
use Rattle.std.proofs.lemmas.Bool.{cases_eq, cases_lt, ltb-true, ltb-false, lt-ltb, false≢true, true≢false}
use Rattle.std.proofs.lemmas.List.{length-set, get_or-set_same, get_or-set_other, get_or_append_left, get_or-append_right, get_or_past, length-append}
use Rattle.std.proofs.lemmas.List.Sums.{sum_by-append, count_by-le-length}
use Rattle.tuple_block.specs.Tuples.{Slots, Tuples, free_slots, slot_at, IsHeld, IsFree, IsNextHeld, IsLastHeld}
use Rattle.cow_scan.specs.Cow.{Cow}
use Rattle.pane_index.specs.Rows.{Rows, used_places, held_from, with_moved, IsCrowded}
use Rattle.pane_index.specs.Blocks.{all_slots, rows_of, AreBlocksOf, IsPane}
use Rattle.pane_index.specs.Search.{IsFirstFreeWithin, IsLastHeldWithin, SameShape, HasGrown, IsFreePlace, CanMove, IsDense, move_of}
use Rattle.pane_index.proofs.CountLemmas.{held, IsHeld-join, IsHeld-part, IsFree-join, IsFree-part, held_or_free, count-put, count-clear, count-cut, used-le, used-last, used-cut, held_from-next, held_from-none}
use Rattle.pane_index.proofs.SlotLemmas.{length-all_slots, length-free_slots, slot_at-free_slots, within_from_held}

-- ---- ranges after a write
-- a tuple at a place frees none
pub IsHeld-put : (slots : Slots) (a b p : ℕ) (tuple : List ℕ) → p < length slots → IsHeld slots a b → IsHeld (set slots p (Some tuple)) a b
IsHeld-put slots a b p tuple within all k from to = elim (cases_eq k p) [
  | inl same ↦ subst (λ n. IsSome (slot_at (set slots p (Some tuple)) n)) (sym same) (subst IsSome (sym (get_or-set_same slots p (Some tuple) None within)) refl)
  | inr other ↦ subst IsSome (sym (get_or-set_other slots p k (Some tuple) None other)) (all k from to)
]

-- a write before a range leaves it
pub IsFree-set_before : (slots : Slots) (a b p : ℕ) (slot : Option (List ℕ)) → p < a → IsFree slots a b → IsFree (set slots p slot) a b
IsFree-set_before slots a b p slot before all k from to =
    let other : k ≢ p = omega arith in
    get_or-set_other slots p k slot None other ∙ all k from to

-- a write behind a range leaves it
pub IsHeld-set_behind : (slots : Slots) (a b p : ℕ) (slot : Option (List ℕ)) → b ≤ p → IsHeld slots a b → IsHeld (set slots p slot) a b
IsHeld-set_behind slots a b p slot behind all k from to =
    let other : k ≢ p = omega arith in
    subst IsSome (sym (get_or-set_other slots p k slot None other)) (all k from to)

count-free_slots : count_by is_some free_slots ≡ 0
unfolding free_slots
count-free_slots = refl

some_of : (slot : Option (List ℕ)) → IsSome slot → (tuple : List ℕ) × (slot ≡ Some tuple)
some_of None some = absurd (false≢true some)
some_of (Some tuple) some = (tuple, refl)

-- a place that was read as free
pub free_read : (r : Option (Bor (List ℕ))) (slot : Option (List ℕ)) → is_some r ≡ false → option_copied r ≡ slot → slot ≡ None
free_read None slot none read = sym read
free_read (Some tuple) slot none read = absurd (true≢false none)

match_cond : {A : Type 0} (b : Bool) (x : A) (P : Type 0) (Q : A → Type 0) → (b ≡ true → Q x) → (b ≡ false → P) → MatchOption (cond b (Some x) None) P Q
match_cond true x P Q yes' no' = yes' refl
match_cond false x P Q yes' no' = no' refl

-- ---- what a pane keeps
module _ (c : Cow) (first next used count : ℕ) (is : IsPane c first next used count) where
  pub length-slots : length (all_slots c.blocks) ≡ 64 * length c.blocks
  length-slots = length-all_slots c.width c.blocks is.are_blocks

  -- a place is below 2^28, and so is the number of tuples
  pub place_fits : (p : ℕ) → p < length (all_slots c.blocks) → p < 268435456
  place_fits p within = omega (arith, length-slots, is.limit)

  pub count_within : count ≤ 64 * length c.blocks
  count_within = omega (arith, length-slots, is.counted, count_by-le-length is_some (all_slots c.blocks))

  -- all places from the first that may be free up to the end
  pub IsFree-to_end : (p : ℕ) → IsFree (all_slots c.blocks) p (64 * used) → IsFree (all_slots c.blocks) p (length (all_slots c.blocks))
  IsFree-to_end p free =
      let slots = all_slots c.blocks in
      IsFree-part slots p p (length slots) (64 * length c.blocks) (IsFree-join slots p (64 * used) (64 * length c.blocks) free is.free_from) (omega arith) (omega (arith, length-slots))

  -- ---- after a call
  pub IsPane-fill : (d : Cow) (p after at : ℕ) (tuple : List ℕ) → p < length (all_slots c.blocks) → slot_at (all_slots c.blocks) p ≡ None
      → all_slots d.blocks ≡ set (all_slots c.blocks) p (Some tuple) → SameShape c d → after ≡ max used (p / 64 + 1) → at ≤ length c.blocks
      → IsPane d first at after (count + 1)
  IsPane-fill d p after at tuple within free filled shape later turn =
      let slots = all_slots c.blocks in
      let len = length-slots in
      let more : used ≤ after = omega (arith, later) in
      let behind : p < 64 * after = omega (arith, later) in
      let high : after ≤ length c.blocks = omega (arith, later, is.used_within) in
      record {
        are_blocks = shape.are_blocks;
        limit = omega (arith, shape.len, is.limit);
        full_below = rw filled (IsHeld-put slots 0 (64 * first) p tuple within is.full_below);
        first_within = omega (arith, shape.len, is.first_within);
        next_within = omega (arith, shape.len);
        free_from = rw filled (IsFree-set_before slots (64 * after) (64 * length d.blocks) p (Some tuple) behind (IsFree-part slots (64 * used) (64 * after) (64 * length d.blocks) (64 * length c.blocks) is.free_from (omega arith) (omega (arith, shape.len))));
        used_within = omega (arith, shape.len);
        counted = rw filled (omega (arith, is.counted, count-put slots p tuple within free));
      }

  pub IsPane-grow : (d : Cow) (p : ℕ) (tuple : List ℕ) → p ≡ 64 * length c.blocks → (length c.blocks ≡ 4194304 → ⊥)
      → all_slots d.blocks ≡ set (all_slots c.blocks ++ free_slots) p (Some tuple) → HasGrown c d
      → IsPane d first (p / 64) (p / 64 + 1) (count + 1)
  IsPane-grow d p tuple place room filled shape =
      let slots = all_slots c.blocks in
      let len = length-slots in
      let grown = slots ++ free_slots in
      let grown_len : length grown ≡ 64 * length c.blocks + 64 = omega (arith, length-append slots free_slots, length-free_slots) in
      let below : IsHeld grown 0 (64 * first) = λ k from to. subst IsSome (sym (get_or_append_left slots free_slots None k (omega (arith, is.first_within)))) (is.full_below k from to) in
      let free : slot_at grown p ≡ None = get_or-append_right slots free_slots p p None (omega arith) (omega arith) ∙ slot_at-free_slots (p - p) (omega arith) in
      let counts : count_by is_some grown ≡ count_by is_some slots = sum_by-append held slots free_slots ∙ omega (arith, count-free_slots) in
      record {
        are_blocks = shape.are_blocks;
        limit = omega (arith, shape.len, is.limit, room);
        full_below = rw filled (IsHeld-put grown 0 (64 * first) p tuple (omega arith) below);
        first_within = omega (arith, shape.len, is.first_within);
        next_within = omega (arith, shape.len);
        free_from = λ k from to. absurd (omega (arith, shape.len));
        used_within = omega (arith, shape.len);
        counted = rw filled (omega (arith, is.counted, counts, count-put grown p tuple (omega arith) free));
      }

  pub held-grown : (d : Cow) (p : ℕ) (tuple : List ℕ) → p ≡ 64 * length c.blocks
      → all_slots d.blocks ≡ set (all_slots c.blocks ++ free_slots) p (Some tuple) → slot_at (all_slots d.blocks) p ≡ Some tuple
  held-grown d p tuple place filled =
      let slots = all_slots c.blocks in
      rw filled (get_or-set_same (slots ++ free_slots) p (Some tuple) None (omega (arith, length-slots, length-append slots free_slots, length-free_slots)))

  pub place_there : (p n : ℕ) → n ≡ length c.blocks → IsTrue (ltb (p / 64) n) ↔ (p < length (all_slots c.blocks))
  place_there p n all =
      let len = length-slots in
      (λ less. omega (arith, ltb-true (p / 64) n less), λ within. lt-ltb (p / 64) n (omega arith))

  -- ---- searches
  last_held : (p : ℕ) → IsLastHeldWithin (all_slots c.blocks) (64 * used) p → IsLastHeld (all_slots c.blocks) p
  last_held p found = record {
    within = within_from_held (all_slots c.blocks) p found.held;
    held = found.held;
    free_behind = IsFree-to_end (p + 1) found.free_behind;
  }

  pub blocks-some : (p : ℕ) → IsLastHeldWithin (all_slots c.blocks) (64 * used) p → p / 64 + 1 ≡ div_ceil (used_places (all_slots c.blocks)) 64
  blocks-some p found =
      let last : used_places (all_slots c.blocks) ≡ p + 1 = used-last (all_slots c.blocks) p (last_held p found) in
      rw last (omega arith)

  pub blocks-none : IsFree (all_slots c.blocks) 0 (64 * used) → 0 ≡ div_ceil (used_places (all_slots c.blocks)) 64
  blocks-none free =
      let none : used_places (all_slots c.blocks) ≡ 0 = omega (arith, used-le (all_slots c.blocks) 0 (IsFree-to_end 0 free)) in
      rw none refl

  -- no place was free from one block on, and then one was sought among the others
  pub free_place-round : (r : Option ℕ) → IsHeld (all_slots c.blocks) (64 * next) (64 * length c.blocks)
      → MatchOption r (IsHeld (all_slots c.blocks) (64 * first) (64 * next)) (IsFirstFreeWithin (all_slots c.blocks) (64 * first) (64 * next))
      → MatchOption r (IsCrowded (rows_of c)) (IsFreePlace (rows_of c))
  free_place-round None ahead behind =
      let slots = all_slots c.blocks in
      let len = length-slots in
      let all : IsHeld slots 0 (length slots) =
      IsHeld-part slots 0 0 (length slots) (64 * length c.blocks)
      (IsHeld-join slots 0 (64 * first) (64 * length c.blocks) is.full_below (IsHeld-join slots (64 * first) (64 * next) (64 * length c.blocks) behind ahead)) (omega arith) (omega arith) in
      let full : count_by is_some slots ≡ length slots = count-cut slots (length slots) (omega arith) all (λ k from to. absurd (omega arith)) in
      omega arith
  free_place-round (Some p) ahead found = record {
    within = omega (arith, length-slots, found.within, is.next_within);
    free = found.free;
  }

  pub free_place-ahead : (n p : ℕ) → n ≡ length c.blocks → IsFirstFreeWithin (all_slots c.blocks) (64 * next) (64 * n) p → IsFreePlace (rows_of c) p
  free_place-ahead n p all found = record { within = omega (arith, length-slots, found.within); free = found.free }

  -- ---- a move
  cut_is_dense : (u : ℕ) → u ≤ length (all_slots c.blocks) → IsHeld (all_slots c.blocks) 0 u → IsFree (all_slots c.blocks) u (length (all_slots c.blocks)) → IsDense (rows_of c)
  cut_is_dense u within before behind =
      let slots = all_slots c.blocks in
      record {
        packed = λ p q less free. elim (cases_lt p u) [
          | inl low ↦ absurd (held_or_free (slot_at slots p) (before p (omega arith) low) free)
          | inr high ↦ elim (cases_lt q (length slots)) [ inl there ↦ behind q (omega arith) there | inr over ↦ get_or_past slots q None over ]
        ];
        count = used-cut slots u within before behind ∙ sym (count-cut slots u within before behind);
      }

  pub next_move-is : (from to : Option ℕ)
      → MatchOption to (IsHeld (all_slots c.blocks) (64 * first) (64 * used)) (IsFirstFreeWithin (all_slots c.blocks) (64 * first) (64 * used))
      → MatchOption from (IsFree (all_slots c.blocks) 0 (64 * used)) (IsLastHeldWithin (all_slots c.blocks) (64 * used))
      → MatchOption (move_of from to) (IsDense (rows_of c)) (λ m. CanMove (rows_of c) m.0 m.1)
  next_move-is None None free none = cut_is_dense 0 (omega arith) (λ k a b. absurd (omega arith)) (IsFree-to_end 0 none)
  next_move-is None (Some to) free none = cut_is_dense 0 (omega arith) (λ k a b. absurd (omega arith)) (IsFree-to_end 0 none)
  next_move-is (Some from) None full last =
      let slots = all_slots c.blocks in
      let is_last = last_held from last in
      cut_is_dense (from + 1) (omega (arith, is_last.within))
      (IsHeld-part slots 0 0 (from + 1) (64 * used) (IsHeld-join slots 0 (64 * first) (64 * used) is.full_below full) (omega arith) (omega (arith, last.within)))
      is_last.free_behind
  next_move-is (Some from) (Some to) free last =
      let slots = all_slots c.blocks in
      let is_last = last_held from last in
      let held_to : IsHeld slots 0 to = IsHeld-join slots 0 (64 * first) to is.full_below free.held_before in
      match_cond (ltb to from) (from, to) (IsDense (rows_of c)) (λ m. CanMove (rows_of c) m.0 m.1)
      (λ less. record {
        before = ltb-true to from less;
        last = is_last;
        first = record { within = omega (arith, length-slots, free.within, is.used_within); free = free.free; held_before = held_to };
      })
      (λ more.
      let other : from ≡ to → ⊥ = λ same. held_or_free (slot_at slots to) (subst (λ n. IsSome (slot_at slots n)) same last.held) free.free in
      let over : from < to = omega (arith, ltb-false to from more, other) in
      cut_is_dense (from + 1) (omega (arith, is_last.within)) (IsHeld-part slots 0 0 (from + 1) to held_to (omega arith) (omega arith)) is_last.free_behind)

  pub move-fits : (r : Option (ℕ × ℕ)) → MatchOption r (IsDense (rows_of c)) (λ m. CanMove (rows_of c) m.0 m.1) → IfSome r (λ m. m.0 < 268435456)
  move-fits None dense = tt
  move-fits (Some m) can = place_fits m.0 can.last.within

  -- ---- after a move
  pub IsPane-moved : (d : Cow) (from to : ℕ) → to < from → IsSome (slot_at (all_slots c.blocks) from) → slot_at (all_slots c.blocks) to ≡ None → SameShape c d
      → all_slots d.blocks ≡ set (set (all_slots c.blocks) to (slot_at (all_slots c.blocks) from)) from None → IsPane d first next used count
  IsPane-moved d from to before there free shape moved =
      let slots = all_slots c.blocks in
      let tuple = some_of (slot_at slots from) there in
      let half = set slots to (slot_at slots from) in
      let len = length-slots in
      let half_len : length half ≡ length slots = length-set slots to (slot_at slots from) in
      let inside : from < length slots = within_from_held slots from there in
      let to_inside : to < length slots = omega arith in
      let other : from ≢ to = omega arith in
      let there_still : IsSome (slot_at half from) = subst IsSome (sym (get_or-set_other slots to from (slot_at slots from) None other)) there in
      let low : 64 * first ≤ to = elim (cases_lt to (64 * first)) [
        | inl less ↦ absurd (held_or_free (slot_at slots to) (is.full_below to (omega arith) less) free)
        | inr more ↦ more
      ] in
      let high : from < 64 * used = elim (cases_lt from (64 * used)) [
        | inl less ↦ less
        | inr more ↦ absurd (held_or_free (slot_at slots from) there (is.free_from from more (omega arith)))
      ] in
      let grown : count_by is_some half ≡ count_by is_some slots + 1 =
      ap (λ slot. count_by is_some (set slots to slot)) tuple.1 ∙ count-put slots to tuple.0 to_inside free in
      let counts : count_by is_some (set half from None) + 1 ≡ count_by is_some half = count-clear half from (omega arith) there_still in
      record {
        are_blocks = shape.are_blocks;
        limit = omega (arith, shape.len, is.limit);
        full_below = rw moved (IsHeld-set_behind half 0 (64 * first) from None (omega arith) (IsHeld-set_behind slots 0 (64 * first) to (slot_at slots from) low is.full_below));
        first_within = omega (arith, shape.len, is.first_within);
        next_within = omega (arith, shape.len, is.next_within);
        free_from = rw moved (IsFree-set_before half (64 * used) (64 * length d.blocks) from None high
            (IsFree-set_before slots (64 * used) (64 * length d.blocks) to (slot_at slots from) (omega arith)
            (IsFree-part slots (64 * used) (64 * used) (64 * length d.blocks) (64 * length c.blocks) is.free_from (omega arith) (omega (arith, shape.len)))));
        used_within = omega (arith, shape.len, is.used_within);
        counted = rw moved (omega (arith, is.counted, grown, counts));
      }

-- the last tuple then stands at an earlier place
pub used-moved : (rows : Rows) (from to : ℕ) → CanMove rows from to → used_places (with_moved rows from to).slots < used_places rows.slots
used-moved rows from to can =
    let slots = rows.slots in
    let half = set slots to (slot_at slots from) in
    let before = can.before in
    let was : used_places slots ≡ from + 1 = used-last slots from can.last in
    let free : IsFree (set half from None) from (length (set half from None)) = λ k a b. elim (cases_eq k from) [
      | inl same ↦ subst (λ n. slot_at (set half from None) n ≡ None) (sym same) (get_or-set_same half from None None (omega (arith, length-set slots to (slot_at slots from), can.last.within)))
      | inr other ↦
          let apart : k ≢ to = omega arith in
          get_or-set_other half from k None None other ∙ (get_or-set_other slots to k (slot_at slots from) None apart
          ∙ can.last.free_behind k (omega arith) (omega (arith, length-set half from None, length-set slots to (slot_at slots from))))
    ] in
    omega (arith, was, used-le (set half from None) from free)

-- ---- the places that hold tuples
module _ (width : ℕ) (blocks : List Tuples) (are : AreBlocksOf width blocks) (limit : length blocks ≤ 4194304) (at : ℕ) where
  pub next_place-fits : (p : ℕ) → IsNextHeld (all_slots blocks) at p → p < 268435456
  next_place-fits p found = omega (arith, found.within, length-all_slots width blocks are)

  pub next_place-is : (p : ℕ) → IsNextHeld (all_slots blocks) at p
      → held_from at (drop at (all_slots blocks)) ≡ p ∷ held_from (p + 1) (drop (p + 1) (all_slots blocks))
  next_place-is p found = held_from-next (all_slots blocks) (p - at) at p (omega (arith, found.not_before)) found.within found.held found.free_between

  pub no_next_place : IsFree (all_slots blocks) at (length (all_slots blocks)) → held_from at (drop at (all_slots blocks)) ≡ []
  no_next_place free = held_from-none (all_slots blocks) (length (all_slots blocks)) at (omega arith) free
