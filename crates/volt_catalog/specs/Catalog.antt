-- What a catalog holds meets the rules, and what its calls put into it.
use Rattle.std.specs.Prelude.{◌≡◌, ℕ, ◌≤◌, Bool, true, not, ◌==◌, ◌&&◌, List, [], ◌∷◌, ◌++◌, length, map, position, slice_get, slice_set, Option, Some, None}
use Rattle.std.specs.List.{list_all}
use Rattle.volt_catalog.specs.declared.table.Table.{Table}
use Rattle.volt_catalog.specs.declared.table.IndexDef.{IndexDef}
use Rattle.volt_catalog.specs.Names.{same_name, differ}
use Rattle.volt_catalog.specs.Rules.{Contents, most_tables, most_indexes, within_limits, has_columns, is_table_with, lack_part, part_column_of}

-- a catalog without tables and indexes
abbrev pub empty_catalog : Contents
empty_catalog = record { tables = []; indexes = [] }

-- one more table, or one more index, at the end
abbrev pub with_table : Contents → Table → Contents
with_table catalog table = record catalog { tables = catalog.tables ++ table ∷ [] }

abbrev pub with_index : Contents → IndexDef → Contents
with_index catalog index = record catalog { indexes = catalog.indexes ++ index ∷ [] }

-- a table that is there, partitioned on a column of it
abbrev pub put_part : List Table → ℕ → ℕ → Option Table → List Table
put_part tables number column None = tables
put_part tables number column (Some table) = slice_set tables number (record table { part = Some column })

abbrev pub with_part : Contents → ℕ → ℕ → Contents
with_part catalog number column = record catalog { tables = put_part catalog.tables number column (slice_get catalog.tables number) }

-- the number of the table of a name
abbrev pub table_of : Contents → List ℕ → Option ℕ
table_of catalog name = position (λ table. same_name name table.name) catalog.tables

-- ---- the rules, of what is there

-- the partitioning column, where there is one, is in the key; so it takes no NULL
abbrev pub has_part_in_key : Table → Bool
has_part_in_key table = not (lack_part table.key table.part)

-- a table has a primary key of its own columns, in which its partitioning column is; the columns have names of their own and keep within the limits
abbrev pub is_table : Table → Bool
is_table table = differ (map (λ column. column.name) table.columns) && has_columns table.columns table.key && not (length table.key == 0) && within_limits table.columns && has_part_in_key table

-- an index is of one or more columns of a table; a unique one of a partitioned table has the partitioning column
abbrev pub is_index : List Table → IndexDef → Bool
is_index tables index =
    let table = slice_get tables index.table in
    is_table_with index.columns table && not (index.unique && lack_part index.columns (part_column_of table))

pub record IsCatalog (catalog : Contents) : Type 0 where
  pub few_tables : length catalog.tables ≤ most_tables
  pub few_indexes : length catalog.indexes ≤ most_indexes
  pub table_names : differ (map (λ table. table.name) catalog.tables) ≡ true
  pub index_names : differ (map (λ index. index.name) catalog.indexes) ≡ true
  pub tables : list_all is_table catalog.tables ≡ true
  pub indexes : list_all (is_index catalog.tables) catalog.indexes ≡ true
