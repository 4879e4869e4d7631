-- The table that rows and indexes stand for.
use Rattle.std.specs.Prelude.{◌≡◌, ℕ, List, [], ◌∷◌, map, true, Option, Some, None, IsSome}
use Rattle.std.specs.Option.{unwrap_or}
use Rattle.std.specs.List.{AllByRecursion}
use Rattle.std.specs.List.Sorted.{IsPermutation}
use Rattle.volt_value.specs.declared.value.Value.{Value}
use Rattle.volt_index.specs.Index.{place_of}
use Rattle.row_codec.specs.declared.field.Field.{Field}
use Rattle.table_rows.specs.Held.{row_at, ArePacked}
use Rattle.table_rows.specs.Order.{in_order_by}
use Rattle.table_rows.specs.Table.{Schema, Table, IsSchema, first_of, has_key}
use Rattle.table_rows.specs.Keyed.{placed_cmp, IsKept}
use Rattle.tuple_block.specs.Tuples.{Tuples}
use Rattle.pane_index.specs.Blocks.{all_slots}
use Rattle.table_rows.specs.Spread.{Spread, AreTuples, held_from}
use Rattle.table_rows.specs.declared.keyed.KeyedIndex.{KeyedIndex}

-- the columns of each index
abbrev pub keys_of : List KeyedIndex → List (List ℕ)
keys_of indexes = map (λ k. k.columns) indexes

-- rows with their places as a table
abbrev pub table_of : List Field → List (List ℕ) → List (ℕ × List Value) → Table
table_of fields keys held = record {
  schema = record { fields = fields; keys = keys };
  rows = map (λ e. e.1) (in_order_by (placed_cmp (first_of keys)) held);
}

-- the same of rows and indexes as they stand
abbrev pub standing_table : Spread → List KeyedIndex → Table
standing_table slots indexes = table_of slots.fields (keys_of indexes) slots.held

-- the place at the key of the first index
abbrev pub first_place : List ℕ → List KeyedIndex → Option ℕ
first_place key [] = None
first_place key (k ∷ ks) = place_of k.index key

-- each index is that of the rows
pub record IsStanding (slots : Spread) (indexes : List KeyedIndex) : Type 0 where
  pub schema : IsSchema (record { fields = slots.fields; keys = keys_of indexes })
  pub kept : AllByRecursion (IsKept slots.held) indexes

-- they stand for this table
pub record StandFor (slots : Spread) (indexes : List KeyedIndex) (table : Table) : Type 0 where
  pub standing : IsStanding slots indexes
  pub same : standing_table slots indexes ≡ table

-- the rows at some places, one after another
abbrev pub rows_at : List (ℕ × List Value) → List ℕ → List (List Value)
rows_at held places = map (λ place. unwrap_or (row_at held place) []) places

-- the rows in blocks, in order of their places
abbrev pub rows_in : List Field → List Tuples → List (List Value)
rows_in fields blocks = map (λ e. e.1) (held_from fields 0 (all_slots blocks))

-- blocks that have the rows of a table in some order, n rows at the first n places
pub record IsScanOf (table : Table) (scan : List Tuples) : Type 0 where
  pub rows : IsPermutation (rows_in table.schema.fields scan) table.rows
  pub packed : ArePacked (held_from table.schema.fields 0 (all_slots scan))
  pub tuples : AreTuples table.schema.fields (all_slots scan)

-- a row is at this place
abbrev pub IsHeldAt : List (ℕ × List Value) → ℕ → Type 0
IsHeldAt held place = IsSome (row_at held place)

-- the row at a place has this spelling in some columns
pub record IsRowOfKey (held : List (ℕ × List Value)) (columns key : List ℕ) (place : ℕ) : Type 0 where
  pub row : List Value
  pub there : row_at held place ≡ Some row
  pub has : has_key columns key row ≡ true
