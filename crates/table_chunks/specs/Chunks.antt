-- Rows as bytes.
use Rattle.std.specs.Prelude.{ℕ, ◌<◌, List, [], ◌∷◌, ◌++◌, flat_map, map, length, Some, None}
use Rattle.std.specs.Int.{w16, to_be_bytes}
use Rattle.std.specs.List.{AllByRecursion}
use Rattle.volt_value.specs.declared.value.Value.{Value}
use Rattle.volt_value.specs.Values.{IsValue}
use Rattle.volt_value.specs.Spelling.{value_bytes}
use Rattle.row_codec.specs.declared.field.Field.{Field}
use Rattle.row_codec.specs.Packing.{row_of}
use Rattle.tuple_block.specs.Tuples.{Slots, Tuples}

-- the rows of slots, in order of their places
abbrev pub rows_of : List Field → Slots → List (List Value)
rows_of fields [] = []
rows_of fields (None ∷ slots) = rows_of fields slots
rows_of fields (Some tuple ∷ slots) = row_of fields tuple ∷ rows_of fields slots

-- how many values a row has, and these
abbrev pub row_bytes : List Value → List ℕ
row_bytes row = length row ∷ flat_map value_bytes row

-- a chunk: the number of a table, how many rows, and these; high bytes first
abbrev pub chunk_bytes : ℕ → List (List Value) → List ℕ
chunk_bytes number rows = to_be_bytes w16 number ++ (to_be_bytes w16 (length rows) ++ flat_map row_bytes rows)

-- a chunk of the rows of each block
abbrev pub chunks_of : ℕ → List Field → List Tuples → List (List ℕ)
chunks_of number fields blocks = map (λ block. chunk_bytes number (rows_of fields block.slots)) blocks

-- rows that a chunk can hold: their number in two bytes, and the number of the values of each in one
abbrev pub IsSpelledRow : List Value → Type 0
IsSpelledRow row = (length row < 256) × AllByRecursion IsValue row

pub record CanSpell (rows : List (List Value)) : Type 0 where
  pub count : length rows < 65536
  pub each : AllByRecursion IsSpelledRow rows
