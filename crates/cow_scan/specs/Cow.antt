-- Blocks, and which of them are shared.
use Rattle.std.specs.Prelude.{ℕ, Bool, true, false, if◌then◌else◌, List, [], ◌∷◌, ◌++◌, length, replicate, slice_set}
use Rattle.std.specs.List.{slice_index_or}
use Rattle.tuple_block.specs.Tuples.{Tuples, no_tuples}

pub record Cow : Type 0 where
  pub width : ℕ
  pub blocks : List Tuples
  pub shared : List Bool

abbrev pub no_blocks : ℕ → Cow
no_blocks width = record { width = width; blocks = []; shared = [] }

-- one more block at the end, owned, with all its places free
abbrev pub with_new_block : Cow → Cow
with_new_block c = record c { blocks = c.blocks ++ no_tuples c.width ∷ []; shared = c.shared ++ false ∷ [] }

-- the block of a number is owned
abbrev pub with_owned : Cow → ℕ → Cow
with_owned c n = record c { shared = slice_set c.shared n false }

-- the block of a number is this one
abbrev pub with_block : Cow → ℕ → Tuples → Cow
with_block c n block = record c { blocks = slice_set c.blocks n block }

abbrev pub is_shared_at : Cow → ℕ → Bool
is_shared_at c n = slice_index_or c.shared n false

-- how many copies a write makes: one of a shared block, none of an owned one
abbrev pub copies_of : Cow → ℕ → ℕ
copies_of c n = if is_shared_at c n then 1 else 0

abbrev pub all_shared : Cow → Cow
all_shared c = record c { shared = replicate (length c.blocks) true }
