-- The rows of a pane, by their places.
use Rattle.std.specs.Prelude.{◌≡◌, ℕ, suc, ◌+◌, ◌-◌, ◌*◌, ◌<◌, ◌≤◌, nat_lt, ◌||◌, if◌then◌else◌, List, [], ◌∷◌, ◌++◌, Option, None, is_some, length, slice_set, count_by}
use Rattle.tuple_block.specs.Tuples.{Slots, free_slots, slot_at, IsFirstFree, IsLastHeld}

-- the value of a pane: the width of its tuples, and the slots of its blocks, 64 of each, one block behind another
pub record Rows : Type 0 where
  pub width : ℕ
  pub slots : List (Option (List ℕ))

abbrev pub no_rows : ℕ → Rows
no_rows width = record { width = width; slots = [] }

-- the tuple at a place, or None where it is free or there is no such place
abbrev pub row_at : Rows → ℕ → Option (List ℕ)
row_at rows p = slot_at rows.slots p

-- the same rows, but for one place
abbrev pub with_row : Rows → ℕ → Option (List ℕ) → Rows
with_row rows p row = record rows { slots = slice_set rows.slots p row }

-- the same rows with the place of a number: with one more block of free places at the end, where there is no such place
abbrev pub with_place : Rows → ℕ → Rows
with_place rows p = record rows { slots = if nat_lt p (length rows.slots) then rows.slots else rows.slots ++ free_slots }

-- how many tuples there are
abbrev pub row_count : Rows → ℕ
row_count rows = count_by is_some rows.slots

-- at most one place in 64 is free
abbrev pub IsCrowded : Rows → Type 0
IsCrowded rows = 64 * (length rows.slots - row_count rows) ≤ length rows.slots

-- how many places there are up to the last that holds a tuple
abbrev pub used_places : Slots → ℕ
used_places [] = 0
used_places (slot ∷ slots) = if is_some slot || nat_lt 0 (used_places slots) then suc (used_places slots) else 0

-- no place before a tuple is free
abbrev pub IsPacked : Rows → Type 0
IsPacked rows = (p q : ℕ) → p < q → row_at rows p ≡ None → row_at rows q ≡ None

-- the same rows, but for the one of a place, which stands at another
abbrev pub with_moved : Rows → ℕ → ℕ → Rows
with_moved rows from to = with_row (with_row rows to (row_at rows from)) from None

-- the last tuple moved to the first free place, which was before it
pub record IsMoved (old new : Rows) (from to : ℕ) : Type 0 where
  pub before : to < from
  pub last : IsLastHeld old.slots from
  pub first : IsFirstFree old.slots to
  pub moved : new ≡ with_moved old from to

-- the places that hold tuples, in order, where the first slot is that of place n
abbrev pub held_from : ℕ → Slots → List ℕ
held_from n [] = []
held_from n (slot ∷ slots) = if is_some slot then n ∷ held_from (n + 1) slots else held_from (n + 1) slots

abbrev pub held_places : Rows → List ℕ
held_places rows = held_from 0 rows.slots
