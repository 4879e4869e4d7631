-- The database.
use Rattle.std.specs.Prelude.{◌≡◌, ℕ, true, false, List, [], map, zip, filter, slice_get, slice_set, unwrap_or, length}
use Rattle.std.specs.List.{list_any, list_all}
use Rattle.volt_catalog.specs.Rules.{Contents}
use Rattle.sql_plan.specs.Rows.{Cells}
use Rattle.sql_meaning.specs.Tables.{table_at, is_row, has_twins, unique_keys, rise, lies_in}

-- the rows of each table, by the tables' numbers
abbrev pub Database : Type 0
Database = List (List Cells)

abbrev pub rows_of : Database → ℕ → List Cells
rows_of db number = unwrap_or (slice_get db number) []

-- a table has these rows
abbrev pub set_rows : Database → ℕ → List Cells → Database
set_rows db number rows = slice_set db number rows

-- a table's rows fit its columns, are in the order of the primary key, and no two of them agree on a unique key
pub record AreRows (catalog : Contents) (number : ℕ) (rows : List Cells) : Type 0 where
  pub fit : list_all (is_row (table_at catalog number)) rows ≡ true
  pub ordered : rise (table_at catalog number) rows ≡ true
  pub unique : list_any (λ key. has_twins key rows) (unique_keys catalog number) ≡ false

pub record IsDatabase (catalog : Contents) (db : Database) : Type 0 where
  pub tables : length db ≡ length catalog.tables
  pub each : (number : ℕ) → AreRows catalog number (rows_of db number)

-- a partition's share: of a partitioned table the rows that lie in it, of each other one all rows
abbrev pub share : ℕ → Contents → ℕ → Database → Database
share parts catalog part db = map (λ t. filter (lies_in parts part t.0) t.1) (zip catalog.tables db)
