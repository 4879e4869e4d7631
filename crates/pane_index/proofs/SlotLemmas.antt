-- The slots of blocks, one block behind another.
use Rattle.std.proofs.Common.{◌≡◌, ℕ, zero, suc, ◌+◌, ◌-◌, ◌*◌, ◌/◌, ◌%◌, ◌<◌, ◌≤◌, List, [], ◌∷◌, ◌++◌, Option, Some, None, IsSome, length, get_or, set, refl, sym, ap, ◌∙◌, subst, arith, inl, inr}
use Rattle.std.proofs.lemmas.Bool.{cases_lt}
use Rattle.std.specs.List.{slice_get}
use Rattle.std.proofs.lemmas.List.{length-append, length-set, get_or-replicate, get_or_append_left, get_or-append_right, get_or_past, set-append_left, set-append_right, append-nil, length_push}
use Rattle.std.proofs.lemmas.List.Concat.{flat_map-append}
use Rattle.std.proofs.lemmas.List.Elements.{All-head, All-tail, All-set, All-push}
use Rattle.tuple_block.specs.Tuples.{Slots, Tuples, free_slots, no_tuples, slot_at, with_slot, IsHeld, IsFree, IsFirstFree, IsNextHeld, IsLastHeld}
use Rattle.pane_index.specs.Blocks.{all_slots, IsBlockOf, AreBlocksOf}
use Rattle.std.proofs.lemmas.Option.{get_or_from_slice_get}
use Rattle.pane_index.proofs.CountLemmas.{IsHeld-join, IsHeld-part, IsFree-join, IsFree-part, held_or_free}
use Rattle.pane_index.specs.Search.{IsFirstFreeWithin, IsLastHeldWithin}

pub length-all_slots : (width : ℕ) (blocks : List Tuples) → AreBlocksOf width blocks → length (all_slots blocks) ≡ 64 * length blocks
length-all_slots width [] are = refl
length-all_slots width (b ∷ blocks) are =
    let first = All-head (IsBlockOf width) b blocks are in
    let rest = length-all_slots width blocks (All-tail (IsBlockOf width) b blocks are) in
    length-append b.slots (all_slots blocks) ∙ omega (arith, first.places, rest)

-- a place of a block
pub slot_at-all_slots : (width : ℕ) (blocks : List Tuples) (n i p : ℕ) (b : Tuples) → AreBlocksOf width blocks → n < length blocks → i < 64
    → p ≡ 64 * n + i → get_or blocks n b ≡ b → slot_at (all_slots blocks) p ≡ slot_at b.slots i
slot_at-all_slots width [] n i p b are within inside place block = absurd (omega arith)
slot_at-all_slots width (b ∷ blocks) zero i p c are within inside place block =
    let first = All-head (IsBlockOf width) b blocks are in
    let same : p ≡ i = omega arith in
    get_or_append_left b.slots (all_slots blocks) None p (omega (arith, first.places))
    ∙ (ap (slot_at b.slots) same ∙ ap (λ (d : Tuples). slot_at d.slots i) block)
slot_at-all_slots width (b ∷ blocks) (suc n) i p c are within inside place block =
    let first = All-head (IsBlockOf width) b blocks are in
    get_or-append_right b.slots (all_slots blocks) 64 p None first.places (omega arith)
    ∙ slot_at-all_slots width blocks n i (p - 64) c (All-tail (IsBlockOf width) b blocks are) (omega arith) inside (omega arith) block

-- behind the last block there is nothing
pub slot_at-behind : (width : ℕ) (blocks : List Tuples) (p : ℕ) → AreBlocksOf width blocks → 64 * length blocks ≤ p → slot_at (all_slots blocks) p ≡ None
slot_at-behind width blocks p are behind =
    get_or_past (all_slots blocks) p None (omega (arith, length-all_slots width blocks are))

-- a write to a place of a block
pub set-all_slots : (width : ℕ) (blocks : List Tuples) (n i p : ℕ) (b : Tuples) (slot : Option (List ℕ)) → AreBlocksOf width blocks
    → n < length blocks → i < 64 → p ≡ 64 * n + i → get_or blocks n b ≡ b
    → all_slots (set blocks n (with_slot b i slot)) ≡ set (all_slots blocks) p slot
set-all_slots width [] n i p b slot are within inside place block = absurd (omega arith)
set-all_slots width (b ∷ blocks) zero i p c slot are within inside place block =
    let first = All-head (IsBlockOf width) b blocks are in
    let same : i ≡ p = omega arith in
    ap (λ (d : Tuples). set d.slots i slot ++ all_slots blocks) (sym block)
    ∙ (ap (λ k. set b.slots k slot ++ all_slots blocks) same
    ∙ sym (set-append_left b.slots (all_slots blocks) p slot (omega (arith, first.places))))
set-all_slots width (b ∷ blocks) (suc n) i p c slot are within inside place block =
    let first = All-head (IsBlockOf width) b blocks are in
    ap (λ rest. b.slots ++ rest) (set-all_slots width blocks n i (p - 64) c slot (All-tail (IsBlockOf width) b blocks are) (omega arith) inside (omega arith) block)
    ∙ sym (set-append_right b.slots (all_slots blocks) 64 p slot first.places (omega arith))

pub all_slots-push : (blocks : List Tuples) (b : Tuples) → all_slots (blocks ++ b ∷ []) ≡ all_slots blocks ++ b.slots
all_slots-push blocks b =
    flat_map-append (λ (c : Tuples). c.slots) blocks (b ∷ []) ∙ ap (λ rest. all_slots blocks ++ rest) (append-nil b.slots)

pub length-free_slots : length free_slots ≡ 64
unfolding free_slots
length-free_slots = refl

pub slot_at-free_slots : (k : ℕ) → k < 64 → slot_at free_slots k ≡ None
unfolding free_slots
slot_at-free_slots k within = get_or-replicate {A = Option (List ℕ)} 64 k None None within

pub IsBlockOf-new : (width : ℕ) → IsBlockOf width (no_tuples width)
IsBlockOf-new width = record { width_is = refl; places = length-free_slots }

pub are-grown : (width : ℕ) (blocks : List Tuples) → AreBlocksOf width blocks → AreBlocksOf width (blocks ++ no_tuples width ∷ [])
are-grown width blocks are = All-push (IsBlockOf width) blocks (no_tuples width) are (IsBlockOf-new width)

pub length-grown : (width : ℕ) (blocks : List Tuples) → AreBlocksOf width blocks → length (all_slots (blocks ++ no_tuples width ∷ [])) ≡ 64 * length blocks + 64
length-grown width blocks are =
    length-all_slots width (blocks ++ no_tuples width ∷ []) (are-grown width blocks are) ∙ omega (arith, length_push blocks (no_tuples width))

-- a block after a write is one of its width
pub IsBlockOf-with_slot : (width : ℕ) (b : Tuples) (i : ℕ) (slot : Option (List ℕ)) → IsBlockOf width b → IsBlockOf width (with_slot b i slot)
IsBlockOf-with_slot width b i slot is = record { width_is = is.width_is; places = length-set b.slots i slot ∙ is.places }

-- ---- what a search in one block says of the place among all
module _ (width : ℕ) (blocks : List Tuples) (are : AreBlocksOf width blocks) (n : ℕ) (within : n < length blocks) (b : Tuples) (block : get_or blocks n b ≡ b) where
  at_place : (k : ℕ) → 64 * n ≤ k → k < 64 * (n + 1) → slot_at (all_slots blocks) k ≡ slot_at b.slots (k - 64 * n)
  at_place k low high = slot_at-all_slots width blocks n (k - 64 * n) k b are within (omega arith) (omega arith) block

  pub block_is : IsBlockOf width b
  block_is = subst (IsBlockOf width) block (are n b within)

  pub IsHeld-of_block : (i j : ℕ) → j ≤ 64 → IsHeld b.slots i j → IsHeld (all_slots blocks) (64 * n + i) (64 * n + j)
  IsHeld-of_block i j top held k from to =
      subst IsSome (sym (at_place k (omega arith) (omega arith))) (held (k - 64 * n) (omega arith) (omega arith))

  pub IsFree-of_block : (i j : ℕ) → j ≤ 64 → IsFree b.slots i j → IsFree (all_slots blocks) (64 * n + i) (64 * n + j)
  IsFree-of_block i j top free k from to =
      at_place k (omega arith) (omega arith) ∙ free (k - 64 * n) (omega arith) (omega arith)

  pub held_in_block : (i p : ℕ) → i < 64 → p ≡ 64 * n + i → IsSome (slot_at b.slots i) → IsSome (slot_at (all_slots blocks) p)
  held_in_block i p inside place some = subst IsSome (sym (slot_at-all_slots width blocks n i p b are within inside place block)) some

  pub free_in_block : (i p : ℕ) → i < 64 → p ≡ 64 * n + i → slot_at b.slots i ≡ None → slot_at (all_slots blocks) p ≡ None
  free_in_block i p inside place none = slot_at-all_slots width blocks n i p b are within inside place block ∙ none

  -- places before the block, and then one of the block
  pub first_free_in : (from to i p : ℕ) → IsHeld (all_slots blocks) (64 * from) (64 * n) → from ≤ n → n < to
      → IsFirstFree b.slots i → p ≡ 64 * n + i → IsFirstFreeWithin (all_slots blocks) (64 * from) (64 * to) p
  first_free_in from to i p before low high is place =
      let slots = all_slots blocks in
      let inside : i < 64 = omega (arith, is.within, block_is.places) in
      let here = IsHeld-of_block 0 i (omega arith) is.held_before in
      record {
        not_before = omega arith;
        within = omega arith;
        free = free_in_block i p inside place is.free;
        held_before = IsHeld-join slots (64 * from) (64 * n) p before (IsHeld-part slots (64 * n + 0) (64 * n) p (64 * n + i) here (omega arith) (omega arith));
      }

  pub held_more : (from : ℕ) → IsHeld (all_slots blocks) (64 * from) (64 * n) → IsHeld b.slots 0 64 → IsHeld (all_slots blocks) (64 * from) (64 * (n + 1))
  held_more from before full =
      let slots = all_slots blocks in
      IsHeld-join slots (64 * from) (64 * n) (64 * (n + 1)) before
      (IsHeld-part slots (64 * n + 0) (64 * n) (64 * (n + 1)) (64 * n + 64) (IsHeld-of_block 0 64 (omega arith) full) (omega arith) (omega arith))

  -- a place of the block, and then places behind it
  pub last_held_in : (to i p : ℕ) → IsFree (all_slots blocks) (64 * (n + 1)) (64 * to) → n < to → IsLastHeld b.slots i → p ≡ 64 * n + i
      → IsLastHeldWithin (all_slots blocks) (64 * to) p
  last_held_in to i p behind high is place =
      let slots = all_slots blocks in
      let inside : i < 64 = omega (arith, is.within, block_is.places) in
      let here = IsFree-of_block (i + 1) (length b.slots) (omega (arith, block_is.places)) is.free_behind in
      record {
        within = omega arith;
        held = held_in_block i p inside place is.held;
        free_behind = IsFree-join slots (p + 1) (64 * (n + 1)) (64 * to)
            (IsFree-part slots (64 * n + (i + 1)) (p + 1) (64 * (n + 1)) (64 * n + length b.slots) here (omega arith) (omega (arith, block_is.places))) behind;
      }

  pub free_less : (to : ℕ) → IsFree (all_slots blocks) (64 * (n + 1)) (64 * to) → IsFree b.slots 0 64 → IsFree (all_slots blocks) (64 * n) (64 * to)
  free_less to behind empty =
      let slots = all_slots blocks in
      IsFree-join slots (64 * n) (64 * (n + 1)) (64 * to)
      (IsFree-part slots (64 * n + 0) (64 * n) (64 * (n + 1)) (64 * n + 64) (IsFree-of_block 0 64 (omega arith) empty) (omega arith) (omega arith)) behind

  -- free places, and then one of the block, from which on the block was searched
  pub next_held_in : (from at i p : ℕ) → IsFree (all_slots blocks) from (64 * n + at) → from ≤ 64 * n + at → IsNextHeld b.slots at i → p ≡ 64 * n + i
      → IsNextHeld (all_slots blocks) from p
  next_held_in from at i p before low is place =
      let slots = all_slots blocks in
      let inside : i < 64 = omega (arith, is.within, block_is.places) in
      record {
        not_before = omega (arith, is.not_before);
        within = omega (arith, length-all_slots width blocks are);
        held = held_in_block i p inside place is.held;
        free_between = IsFree-join slots from (64 * n + at) p before
            (IsFree-part slots (64 * n + at) (64 * n + at) p (64 * n + i) (IsFree-of_block at i (omega arith) is.free_between) (omega arith) (omega arith));
      }

  pub free_more : (from at : ℕ) → IsFree (all_slots blocks) from (64 * n + at) → IsFree b.slots at 64 → IsFree (all_slots blocks) from (64 * (n + 1))
  free_more from at before empty =
      let slots = all_slots blocks in
      IsFree-join slots from (64 * n + at) (64 * (n + 1)) before
      (IsFree-part slots (64 * n + at) (64 * n + at) (64 * (n + 1)) (64 * n + 64) (IsFree-of_block at 64 (omega arith) empty) (omega arith) (omega arith))

-- the block that was got
pub block_got : (blocks : List Tuples) (n : ℕ) (b : Tuples) → slice_get blocks n ≡ Some b → get_or blocks n b ≡ b
block_got blocks n b got = get_or_from_slice_get blocks n b b got

-- a place that holds a tuple is one that there is
pub within_from_held : (slots : Slots) (p : ℕ) → IsSome (slot_at slots p) → p < length slots
within_from_held slots p some = elim (cases_lt p (length slots)) [
  | inl less ↦ less
  | inr over ↦ absurd (held_or_free (slot_at slots p) some (get_or_past slots p None over))
]

-- the block of a place that there is
pub block_of_place : (width : ℕ) (blocks : List Tuples) (p : ℕ) → AreBlocksOf width blocks → p < length (all_slots blocks) → p / 64 < length blocks
block_of_place width blocks p are place = omega (arith, length-all_slots width blocks are)

-- ---- a write to the block of a place
module _ (width : ℕ) (blocks : List Tuples) (p : ℕ) (are : AreBlocksOf width blocks) (place : p < length (all_slots blocks)) (b : Tuples) (got : slice_get blocks (p / 64) ≡ Some b) where
  pub block_width : b.width ≡ width
  block_width = (block_is width blocks are (p / 64) (block_of_place width blocks p are place) b (block_got blocks (p / 64) b got)).width_is

  pub written-slots : (after : Tuples) (slot : Option (List ℕ)) → after ≡ with_slot b (p % 64) slot
      → all_slots (set blocks (p / 64) after) ≡ set (all_slots blocks) p slot
  written-slots after slot is =
      ap (λ (c : Tuples). all_slots (set blocks (p / 64) c)) is
      ∙ set-all_slots width blocks (p / 64) (p % 64) p b slot are (block_of_place width blocks p are place) (omega arith) (omega arith) (block_got blocks (p / 64) b got)

  pub written-are : (after : Tuples) (slot : Option (List ℕ)) → after ≡ with_slot b (p % 64) slot → AreBlocksOf width (set blocks (p / 64) after)
  written-are after slot is =
      let block = block_is width blocks are (p / 64) (block_of_place width blocks p are place) b (block_got blocks (p / 64) b got) in
      All-set (IsBlockOf width) blocks (p / 64) after (subst (IsBlockOf width) (sym is) (IsBlockOf-with_slot width b (p % 64) slot block)) are
