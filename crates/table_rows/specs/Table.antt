-- A table: what its columns and keys are, and its rows in the order of the primary key.
use Rattle.std.specs.Prelude.{◌≡◌, ℕ, Bool, true, false, nat_lt, ◌&&◌, ◌||◌, if◌then◌else◌, List, [], ◌∷◌, length, map, filter, is_some, Option, Some, None}
use Rattle.std.specs.List.{list_all, list_any, AllByRecursion}
use Rattle.std.specs.BTreeSet.{insert_key}
use Rattle.std.specs.Set.{remove_key}
use Rattle.std.specs.Str.{bytes_eq}
use Rattle.volt_value.specs.declared.value.Value.{Value}
use Rattle.volt_index.specs.Index.{is_from, is_before}
use Rattle.row_codec.specs.declared.field.Field.{Field}
use Rattle.row_codec.specs.declared.fault.RowFault.{RowFault}
use Rattle.row_codec.specs.declared.fault.RowFault.TheVariants.{Duplicate}
use Rattle.row_codec.specs.Faults.{columns_fault}
use Rattle.row_codec.specs.Packing.{CanPack, IsRow}
use Rattle.table_rows.specs.Order.{row_cmp, agree, row_key, in_order}

-- a table's columns, and its keys: a list of columns each, in which no two rows may agree. The first key is the primary one.
pub record Schema : Type 0 where
  pub fields : List Field
  pub keys : List (List ℕ)

pub record Table : Type 0 where
  pub schema : Schema
  pub rows : List (List Value)

-- a table without rows
abbrev pub no_rows : Schema → Table
no_rows schema = record { schema = schema; rows = [] }

-- columns of a table
abbrev pub has_columns : List Field → List ℕ → Bool
has_columns fields columns = list_all (λ column. nat_lt column (length fields)) columns

abbrev pub first_of : List (List ℕ) → List ℕ
first_of [] = []
first_of (key ∷ keys) = key

-- the columns of the primary key
abbrev pub primary_key : Schema → List ℕ
primary_key schema = first_of schema.keys

pub record IsSchema (schema : Schema) : Type 0 where
  pub can_pack : CanPack schema.fields
  pub columns : list_all (has_columns schema.fields) schema.keys ≡ true
  pub some : nat_lt 0 (length schema.keys) ≡ true

-- ---- rows that agree

-- a row agrees with one of these in some columns
abbrev pub agrees_with_one : List ℕ → List Value → List (List Value) → Bool
agrees_with_one columns row rows = list_any (agree columns row) rows

-- two of these rows agree in some columns
abbrev pub has_twins : List ℕ → List (List Value) → Bool
has_twins columns [] = false
has_twins columns (row ∷ rows) = agrees_with_one columns row rows || has_twins columns rows

-- a row agrees with one of these in the columns of a key
abbrev pub clashes : List (List ℕ) → List Value → List (List Value) → Bool
clashes keys row rows = list_any (λ columns. agrees_with_one columns row rows) keys

-- two of these rows agree in the columns of a key
abbrev pub has_duplicates : List (List ℕ) → List (List Value) → Bool
has_duplicates keys rows = list_any (λ columns. has_twins columns rows) keys

-- the first of two faults, where there are any
abbrev pub first_fault : Option RowFault → Option RowFault → Option RowFault
first_fault None other = other
first_fault (Some fault) other = Some fault

-- a duplicate is a fault
abbrev pub duplicate_if : Bool → Option RowFault
duplicate_if duplicate = if duplicate then Some Duplicate else None

-- a row of the table has the values of this one in the columns of a key
abbrev pub has_like : Table → List Value → Bool
has_like table row = clashes table.schema.keys row table.rows

-- why a row can't stand in a table: the least fault of its values in their columns, and then a duplicate
abbrev pub row_fault : Table → List Value → Option RowFault
row_fault table row = first_fault (columns_fault table.schema.fields row) (duplicate_if (has_like table row))

-- ---- what is done to a table

-- a row's values in some columns have a spelling
abbrev pub has_key : List ℕ → List ℕ → List Value → Bool
has_key columns key row = bytes_eq key (row_key columns row)

-- a row more
abbrev pub inserted : Table → List Value → Table
inserted table row = record table { rows = insert_key (row_cmp (primary_key table.schema)) table.rows row }

-- without the row whose primary key has a spelling
abbrev pub deleted : Table → List ℕ → Table
deleted table key = record table { rows = remove_key (has_key (primary_key table.schema) key) table.rows }

-- a row in the place of the one that has its primary key
abbrev pub updated : Table → List Value → Table
updated table row = inserted (deleted table (row_key (primary_key table.schema) row)) row

-- ---- what is read

-- the first row that passes a test
abbrev pub find_row : (List Value → Bool) → List (List Value) → Option (List Value)
find_row test [] = None
find_row test (row ∷ rows) = if test row then Some row else find_row test rows

-- the row whose primary key has a spelling
abbrev pub row_of_key : Table → List ℕ → Option (List Value)
row_of_key table key = find_row (has_key (primary_key table.schema) key) table.rows

-- a row can be put in
pub record CanInsert (table : Table) (row : List Value) : Type 0 where
  pub count : length row ≡ length table.schema.fields
  pub fault : row_fault table row ≡ None

-- a row can be put in the place of the one that has its primary key
pub record CanUpdate (table : Table) (row : List Value) : Type 0 where
  pub held : is_some (row_of_key table (row_key (primary_key table.schema) row)) ≡ true
  pub rest : CanInsert (deleted table (row_key (primary_key table.schema) row)) row

-- the rows whose keys are in a range, in order of that key's columns
abbrev pub rows_between : List ℕ → Option (List ℕ) → Option (List ℕ) → Table → List (List Value)
rows_between columns from to table = filter (λ row. is_from from (row_key columns row) && is_before to (row_key columns row)) (in_order columns table.rows)

-- each row fits its columns, they stand in the order of the primary key, and no two agree in the columns of a key
pub record IsTable (table : Table) : Type 0 where
  pub schema : IsSchema table.schema
  pub rows : AllByRecursion (IsRow table.schema.fields) table.rows
  pub sorted : in_order (primary_key table.schema) table.rows ≡ table.rows
  pub unique : has_duplicates table.schema.keys table.rows ≡ false
