-- Places that a search gives.
use Rattle.std.specs.Prelude.{◌≡◌, ℕ, ◌+◌, ◌<◌, ◌≤◌, nat_lt, if◌then◌else◌, Option, Some, None, IsSome, length}
use Rattle.tuple_block.specs.Tuples.{Slots, slot_at, IsHeld, IsFree, IsFirstFree, IsLastHeld}
use Rattle.cow_scan.specs.Cow.{Cow}
use Rattle.pane_index.specs.Rows.{Rows, row_at, row_count, used_places, IsPacked}
use Rattle.pane_index.specs.Blocks.{AreBlocksOf}

-- the first free place from one up to another
pub record IsFirstFreeWithin (slots : Slots) (from to p : ℕ) : Type 0 where
  pub not_before : from ≤ p
  pub within : p < to
  pub free : slot_at slots p ≡ None
  pub held_before : IsHeld slots from p

-- the last held place up to another
pub record IsLastHeldWithin (slots : Slots) (to p : ℕ) : Type 0 where
  pub within : p < to
  pub held : IsSome (slot_at slots p)
  pub free_behind : IsFree slots (p + 1) to

-- as many blocks as before, each of the same width
pub record SameShape (old new : Cow) : Type 0 where
  pub width : new.width ≡ old.width
  pub len : length new.blocks ≡ length old.blocks
  pub are_blocks : AreBlocksOf new.width new.blocks

-- one block more, each of the same width
pub record HasGrown (old new : Cow) : Type 0 where
  pub width : new.width ≡ old.width
  pub len : length new.blocks ≡ length old.blocks + 1
  pub are_blocks : AreBlocksOf new.width new.blocks

-- a place of the rows that is free
pub record IsFreePlace (rows : Rows) (p : ℕ) : Type 0 where
  pub within : p < length rows.slots
  pub free : row_at rows p ≡ None

-- the last tuple, and the first free place, which is before it
pub record CanMove (rows : Rows) (from to : ℕ) : Type 0 where
  pub before : to < from
  pub last : IsLastHeld rows.slots from
  pub first : IsFirstFree rows.slots to

-- the tuples stand at the first places
pub record IsDense (rows : Rows) : Type 0 where
  pub packed : IsPacked rows
  pub count : used_places rows.slots ≡ row_count rows

-- the two places, where there are two and the second is before the first
abbrev pub move_of : Option ℕ → Option ℕ → Option (ℕ × ℕ)
move_of (Some from) (Some to) = if nat_lt to from then Some (from, to) else None
move_of _ _ = None
