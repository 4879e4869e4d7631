-- How the tuples of a block lie in its bytes.
use Rattle.std.specs.Prelude.{ℕ, ◌*◌, ◌==◌, if◌then◌else◌, List, Option, Some, None, map, take, drop}
use Rattle.std.specs.List.{range_with_len}
use Rattle.std.specs.Int.{bit_at}
use Rattle.tuple_block.specs.Tuples.{Slots, Tuples}

-- the tuple of place i lies at i times the width; it counts only where bit i is set
abbrev pub tuple_at : ℕ → ℕ → List ℕ → ℕ → Option (List ℕ)
tuple_at width occupied bytes i = if bit_at occupied i == 1 then Some (take width (drop (i * width) bytes)) else None

unfoldable pub slots_of : ℕ → ℕ → List ℕ → Slots
slots_of width occupied bytes = map (tuple_at width occupied bytes) (range_with_len 0 64)

abbrev pub tuples_of : ℕ → ℕ → List ℕ → Tuples
tuples_of width occupied bytes = record { width = width; slots = slots_of width occupied bytes }
