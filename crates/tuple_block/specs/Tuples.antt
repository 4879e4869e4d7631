-- Optional tuples of one width, by their places.
use Rattle.std.specs.Prelude.{◌≡◌, ℕ, ◌+◌, ◌<◌, ◌≤◌, List, Option, None, IsSome, length, replicate, slice_set}
use Rattle.std.specs.List.{slice_index_or}

-- for each place the bytes of its tuple, or None where it is free
abbrev pub Slots : Type 0
Slots = List (Option (List ℕ))

-- the value of a block
pub record Tuples : Type 0 where
  pub width : ℕ
  pub slots : List (Option (List ℕ))

-- 64 free places
unfoldable pub free_slots : Slots
free_slots = replicate 64 None

abbrev pub no_tuples : ℕ → Tuples
no_tuples width = record { width = width; slots = free_slots }

-- what a place has; behind the last place there is nothing
abbrev pub slot_at : Slots → ℕ → Option (List ℕ)
slot_at slots i = slice_index_or slots i None

-- the same tuples, but for one place
abbrev pub with_slot : Tuples → ℕ → Option (List ℕ) → Tuples
with_slot tuples i slot = record tuples { slots = slice_set tuples.slots i slot }

-- all places from one up to another are held
abbrev pub IsHeld : Slots → ℕ → ℕ → Type 0
IsHeld slots from to = (k : ℕ) → from ≤ k → k < to → IsSome (slot_at slots k)

-- all places from one up to another are free
abbrev pub IsFree : Slots → ℕ → ℕ → Type 0
IsFree slots from to = (k : ℕ) → from ≤ k → k < to → slot_at slots k ≡ None

pub record IsFirstFree (slots : Slots) (i : ℕ) : Type 0 where
  pub within : i < length slots
  pub free : slot_at slots i ≡ None
  pub held_before : IsHeld slots 0 i

-- the first held place from one on
pub record IsNextHeld (slots : Slots) (from i : ℕ) : Type 0 where
  pub not_before : from ≤ i
  pub within : i < length slots
  pub held : IsSome (slot_at slots i)
  pub free_between : IsFree slots from i

pub record IsLastHeld (slots : Slots) (i : ℕ) : Type 0 where
  pub within : i < length slots
  pub held : IsSome (slot_at slots i)
  pub free_behind : IsFree slots (i + 1) (length slots)
