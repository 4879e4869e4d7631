-- Rows as the slots of blocks.
use Rattle.std.specs.Prelude.{◌≡◌, ℕ, ◌*◌, ◌≤◌, List, length, is_some, count_by, All}
use Rattle.std.specs.List.{flat_map}
use Rattle.tuple_block.specs.Tuples.{Slots, Tuples, IsHeld, IsFree}
use Rattle.cow_scan.specs.Cow.{Cow}
use Rattle.pane_index.specs.Rows.{Rows}

-- the slots of blocks, one block behind another
abbrev pub all_slots : List Tuples → Slots
all_slots blocks = flat_map (λ b. b.slots) blocks

-- 64 places for tuples of a width
pub record IsBlockOf (width : ℕ) (block : Tuples) : Type 0 where
  pub width_is : block.width ≡ width
  pub places : length block.slots ≡ 64

-- each block is one of that width
abbrev pub AreBlocksOf : ℕ → List Tuples → Type 0
AreBlocksOf width blocks = All (IsBlockOf width) blocks

-- the blocks hold these rows
pub record Hold (rows : Rows) (blocks : List Tuples) : Type 0 where
  pub slots : all_slots blocks ≡ rows.slots
  pub are_blocks : AreBlocksOf rows.width blocks

abbrev pub rows_of : Cow → Rows
rows_of c = record { width = c.width; slots = all_slots c.blocks }

-- What a pane keeps of its blocks: where the first free place may be, up to which block tuples stand, and their number.
pub record IsPane (c : Cow) (first_open next used count : ℕ) : Type 0 where
  pub are_blocks : AreBlocksOf c.width c.blocks
  pub limit : length c.blocks ≤ 4194304
  pub full_below : IsHeld (all_slots c.blocks) 0 (64 * first_open)
  pub first_within : first_open ≤ length c.blocks
  pub next_within : next ≤ length c.blocks
  pub free_from : IsFree (all_slots c.blocks) (64 * used) (64 * length c.blocks)
  pub used_within : used ≤ length c.blocks
  pub counted : count ≡ count_by is_some (all_slots c.blocks)
