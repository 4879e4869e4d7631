-- Rows that are loaded into a table.
use Rattle.std.specs.Prelude.{◌≡◌, ℕ, Bool, true, false, not, ◌&&◌, ◌==◌, if◌then◌else◌, nat_lt, List, [], ◌∷◌, length, is_some, Option, Some, None}
use Rattle.std.specs.Option.{option_and_then}
use Rattle.volt_value.specs.declared.value.Value.{Value}
use Rattle.table_rows.specs.Table.{Table, inserted, row_fault}
use Rattle.table_store.specs.Steps.{table_at, with_table}
use Rattle.table_chunks.specs.Reading.{chunk_at}

-- the table with these rows more, put in one after another
abbrev pub loaded : Table → List (List Value) → Table
loaded table [] = table
loaded table (row ∷ rows) = loaded (inserted table row) rows

-- a row with a value for each column, and without a fault
abbrev pub can_put : Table → List Value → Bool
can_put table row = (length row == length table.schema.fields) && not (is_some (row_fault table row))

-- each of them can be put in behind those before it
abbrev pub can_load : Table → List (List Value) → Bool
can_load table [] = true
can_load table (row ∷ rows) = can_put table row && can_load (inserted table row) rows

-- rows that can be loaded into the table of a number, if there is one
abbrev pub can_load_into : List Table → ℕ → List (List Value) → Bool
can_load_into tables number rows = nat_lt number (length tables) && can_load (table_at tables number) rows

-- rows loaded into the table of a number
abbrev pub loaded_into : List Table → ℕ → List (List Value) → List Table
loaded_into tables number rows = with_table tables number (loaded (table_at tables number) rows)

-- the table of a number with the rows of a chunk more, where it is one of this table and they can be loaded
abbrev pub with_rows_of : ℕ → Table → ℕ × List (List Value) → Option Table
with_rows_of number table chunk = if (chunk.0 == number) && can_load table chunk.1 then Some (loaded table chunk.1) else None

-- the same of the bytes of chunks, one after another
abbrev pub restored : ℕ → Table → List (List ℕ) → Option Table
restored number table [] = Some table
restored number table (bytes ∷ chunks) = option_and_then (λ t. restored number t chunks) (option_and_then (with_rows_of number table) (chunk_at bytes))
