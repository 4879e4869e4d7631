-- The rules of tables, indexes and partitioning, each in its order.
use Rattle.std.specs.Prelude.{ℕ, ◌+◌, Bool, true, false, not, ◌==◌, ◌&&◌, ◌||◌, nat_lt, nat_le, if◌then◌else◌, List, [], ◌∷◌, length, map, sum_by, slice_get, Option, Some, None, is_some}
use Rattle.std.specs.List.{list_any, list_all}
use Rattle.volt_value.specs.declared.column.ColType.{ColType}
use Rattle.volt_value.specs.declared.column.ColType.TheVariants.{Varchar}
use Rattle.volt_catalog.specs.declared.column.Column.{Column}
use Rattle.volt_catalog.specs.declared.table.Table.{Table}
use Rattle.volt_catalog.specs.declared.table.IndexDef.{IndexDef}
use Rattle.volt_catalog.specs.declared.fault.CatalogFault.{CatalogFault}
use Rattle.volt_catalog.specs.declared.fault.CatalogFault.TheVariants.{DuplicateName, NoSuchName, NoPrimaryKey, NullablePartitionColumn, KeyLacksPartitionColumn, TooMany}
use Rattle.volt_catalog.specs.Names.{same_name, differ}

-- what a catalog holds: tables and indexes, each in order of definition and numbered from 0
pub record Contents : Type 0 where
  pub tables : List Table
  pub indexes : List IndexDef

-- the fault of the first rule that is broken
abbrev pub first_fault : List (Bool × CatalogFault) → Option CatalogFault
first_fault [] = None
first_fault (rule ∷ rules) = if rule.0 then Some rule.1 else first_fault rules

-- ---- limits

-- how many tables, indexes and columns of a table there may be
abbrev pub most_tables : ℕ
most_tables = 32

abbrev pub most_indexes : ℕ
most_indexes = 64

abbrev pub most_columns : ℕ
most_columns = 32

-- how many bytes a text of a VARCHAR, and a row, may have
abbrev pub most_text : ℕ
most_text = 2048

abbrev pub most_row : ℕ
most_row = 8192

-- a VARCHAR's length is one that it may have
abbrev pub has_length : ColType → Bool
has_length (Varchar most) = nat_le 1 most && nat_le most most_text
has_length _ = true

-- the bytes that a column counts in a row: nine for an integer, for a text five more than its length
abbrev pub width_of : ColType → ℕ
width_of (Varchar most) = most + 5
width_of _ = 9

abbrev pub row_width : List Column → ℕ
row_width columns = sum_by (λ column. width_of column.kind) columns

-- columns that a table may have
abbrev pub within_limits : List Column → Bool
within_limits columns = nat_le (length columns) most_columns && list_all (λ column. has_length column.kind) columns && nat_le (row_width columns) most_row

-- ---- tables

-- a table of this name is there
abbrev pub has_table : Contents → List ℕ → Bool
has_table catalog name = list_any (λ table. same_name name table.name) catalog.tables

-- Each number is that of a column. No rule is against a number that is there twice, in a key or in an index.
abbrev pub has_columns : List Column → List ℕ → Bool
has_columns columns numbers = list_all (λ number. nat_lt number (length columns)) numbers

-- the table's name is taken, or two of its columns have one name
abbrev pub repeats_a_name : Contents → Table → Bool
repeats_a_name catalog table = has_table catalog table.name || not (differ (map (λ column. column.name) table.columns))

-- there are as many tables as there may be, or these columns pass a limit
abbrev pub passes_a_limit : Contents → List Column → Bool
passes_a_limit catalog columns = nat_le most_tables (length catalog.tables) || not (within_limits columns)

abbrev pub fault_of_table : Contents → Table → Option CatalogFault
fault_of_table catalog table = first_fault (
    (repeats_a_name catalog table, DuplicateName)
    ∷ (not (has_columns table.columns table.key), NoSuchName)
    ∷ (length table.key == 0, NoPrimaryKey)
    ∷ (passes_a_limit catalog table.columns, TooMany)
    ∷ [])

-- ---- indexes

-- an index of this name is there
abbrev pub has_index : Contents → List ℕ → Bool
has_index catalog name = list_any (λ index. same_name name index.name) catalog.indexes

-- the table is there, and these are numbers of columns of it, one or more
abbrev pub is_table_with : List ℕ → Option Table → Bool
is_table_with numbers None = false
is_table_with numbers (Some table) = not (length numbers == 0) && has_columns table.columns numbers

-- these columns are without the partitioning column, where there is one
abbrev pub lack_part : List ℕ → Option ℕ → Bool
lack_part numbers None = false
lack_part numbers (Some part) = not (list_any (λ number. number == part) numbers)

-- the partitioning column of a table, where the table is there and has one
abbrev pub part_column_of : Option Table → Option ℕ
part_column_of None = None
part_column_of (Some table) = table.part

abbrev pub fault_of_index : Contents → IndexDef → Option CatalogFault
fault_of_index catalog index =
    let table = slice_get catalog.tables index.table in
    first_fault (
    (has_index catalog index.name, DuplicateName)
    ∷ (not (is_table_with index.columns table), NoSuchName)
    ∷ (index.unique && lack_part index.columns (part_column_of table), KeyLacksPartitionColumn)
    ∷ (nat_le most_indexes (length catalog.indexes), TooMany)
    ∷ [])

-- ---- partitioning

-- a column is there, and written NOT NULL
abbrev pub is_not_null : Option Column → Bool
is_not_null None = false
is_not_null (Some column) = column.not_null

-- a column of this number may be NULL: it is neither written NOT NULL nor in the primary key
abbrev pub may_be_null : Table → ℕ → Bool
may_be_null table column = lack_part table.key (Some column) && not (is_not_null (slice_get table.columns column))

-- a unique index of a table is without a column
abbrev pub is_unique_without : ℕ → ℕ → IndexDef → Bool
is_unique_without table column index = (index.table == table) && index.unique && lack_part index.columns (Some column)

-- partitioning of a table that is there
abbrev pub fault_of_part : List IndexDef → ℕ → ℕ → Table → Option CatalogFault
fault_of_part indexes number column table = first_fault (
    (is_some table.part, DuplicateName)
    ∷ (nat_le (length table.columns) column, NoSuchName)
    ∷ (may_be_null table column, NullablePartitionColumn)
    ∷ (lack_part table.key (Some column) || list_any (is_unique_without number column) indexes, KeyLacksPartitionColumn)
    ∷ [])

-- the same of a table that may not be there
abbrev pub fault_of_part_in : List IndexDef → ℕ → ℕ → Option Table → Option CatalogFault
fault_of_part_in indexes number column None = Some NoSuchName
fault_of_part_in indexes number column (Some table) = fault_of_part indexes number column table

abbrev pub fault_of_partition : Contents → ℕ → ℕ → Option CatalogFault
fault_of_partition catalog number column = fault_of_part_in catalog.indexes number column (slice_get catalog.tables number)
