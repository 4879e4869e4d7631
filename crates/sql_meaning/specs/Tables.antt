-- Rows of a table: which it may have, their keys, and the partition that each lies in.
use Rattle.std.specs.Prelude.{ℕ, ◌==◌, Bool, true, false, not, ◌&&◌, ◌||◌, if◌then◌else◌, List, [], ◌∷◌, map, zip, slice_get, unwrap_or, length, filter, Option, Some, None, option_map, Result, Ok, Err, is_ok}
use Rattle.std.specs.List.{list_any, list_all, enumerate_from}
use Rattle.std.specs.Ordering.{is_eq, is_lt}
use Rattle.volt_value.specs.declared.value.Value.{Value}
use Rattle.volt_value.specs.declared.value.Value.TheVariants.{Null}
use Rattle.volt_value.specs.declared.column.Misfit.{Misfit}
use Rattle.volt_value.specs.declared.column.Misfit.TheVariants as misfit
use Rattle.volt_value.specs.Columns.{value_fits}
use Rattle.volt_value.specs.Spelling.{value_bytes}
use Rattle.volt_catalog.specs.declared.column.Column.{Column}
use Rattle.volt_catalog.specs.declared.table.Table.{Table}
use Rattle.volt_catalog.specs.Rules.{Contents}
use Rattle.partition_ring.specs.Buckets.{partition_of}
use Rattle.sql_plan.specs.declared.fault.Fault.{Fault}
use Rattle.sql_plan.specs.declared.fault.Fault.TheVariants as fault
use Rattle.sql_plan.specs.Rows.{Cells, row_cmp}
use Rattle.sql_meaning.specs.Judged.{with, collected}
use Rattle.sql_meaning.specs.Values.{at}

-- ---- the tables of a catalog

abbrev pub no_table : Table
no_table = record { name = []; columns = []; key = []; part = None }

-- the table of a number; where there is none, one without columns
abbrev pub table_at : Contents → ℕ → Table
table_at catalog number = unwrap_or (slice_get catalog.tables number) no_table

-- ---- which values a column takes

-- NULL: not where NOT NULL is written, nor in the primary key
abbrev pub takes_null : Table → ℕ → Column → Bool
takes_null table number column = not column.not_null && not (list_any (λ key. key == number) table.key)

-- a value that a type was asked for. Of a statement that was checked no value is of a wrong class.
abbrev pub if_fits : Value → Result (Unit {0}) Misfit → Result Value Fault
if_fits x (Ok fits) = Ok x
if_fits x (Err misfit.OutOfRange) = Err fault.OutOfRange
if_fits x (Err misfit.TooLong) = Err fault.TooLong
if_fits x (Err misfit.WrongClass) = Err fault.OutOfRange

-- the value, or why the column of this number doesn't take it
abbrev pub taken : Table → ℕ → Column → Value → Result Value Fault
taken table number column Null = if takes_null table number column then Ok Null else Err fault.NullInColumn
taken table number column x = if_fits x (value_fits x column.kind)

-- the columns with their numbers, each with what stands in it
abbrev pub in_columns : {A : Type 0} → Table → List A → List ((ℕ × Column) × A)
in_columns table xs = zip (enumerate_from 0 table.columns) xs

-- a row of these values: the least fault of all values and columns. A column whose value faulted isn't judged.
abbrev pub new_row : Table → List (Result Value Fault) → Result Cells Fault
new_row table values = collected (map (λ c. with c.1 (taken table c.0.0 c.0.1)) (in_columns table values))

-- whether a table may have a row: a value for each column, which takes it
abbrev pub is_row : Table → Cells → Bool
is_row table row =
    (length row == length table.columns) && list_all (λ c. is_ok (taken table c.0.0 c.0.1 c.1)) (in_columns table row)

-- ---- keys

-- the values of a row at columns
abbrev pub picked : List ℕ → Cells → Cells
picked columns row = map (at row) columns

-- the columns of the primary key, and those of each unique index of a table
abbrev pub unique_keys : Contents → ℕ → List (List ℕ)
unique_keys catalog number =
    (table_at catalog number).key
    ∷ map (λ index. index.columns) (filter (λ index. index.unique && (index.table == number)) catalog.indexes)

-- whether two rows agree on columns: NULL agrees with NULL
abbrev pub agree : List ℕ → Cells → Cells → Bool
agree columns a b = is_eq (row_cmp (picked columns a) (picked columns b))

-- whether two of the rows agree on columns
abbrev pub has_twins : List ℕ → List Cells → Bool
has_twins columns [] = false
has_twins columns (row ∷ rows) = list_any (agree columns row) rows || has_twins columns rows

-- the rows of a table, if no two of them agree on a unique key
abbrev pub without_twins : Contents → ℕ → List Cells → Result (List Cells) Fault
without_twins catalog number rows =
    if list_any (λ key. has_twins key rows) (unique_keys catalog number) then Err fault.Duplicate else Ok rows

-- whether a row comes before another by the primary key
abbrev pub comes_before : Table → Cells → Cells → Bool
comes_before table a b = is_lt (row_cmp (picked table.key a) (picked table.key b))

-- rows in the order of the primary key, with one more row at its place
abbrev pub with_row : Table → Cells → List Cells → List Cells
with_row table new [] = new ∷ []
with_row table new (row ∷ rows) =
    if comes_before table row new then row ∷ with_row table new rows else new ∷ row ∷ rows

-- the same with more rows
abbrev pub with_rows : Table → List Cells → List Cells → List Cells
with_rows table [] rows = rows
with_rows table (new ∷ more) rows = with_rows table more (with_row table new rows)

-- rows in the order of the primary key, of which no two agree on it
abbrev pub rise : Table → List Cells → Bool
rise table [] = true
rise table (row ∷ rows) = list_all (comes_before table row) rows && rise table rows

-- ---- partitions

-- the partition that a value lies in, of so many
abbrev pub part_of_value : ℕ → Value → ℕ
part_of_value parts x = partition_of (value_bytes x) parts

-- the partition that a row lies in: that of its value in the partitioning column. A row of a table
-- without one lies in all partitions.
abbrev pub part_of_row : ℕ → Table → Cells → Option ℕ
part_of_row parts table row = option_map (λ column. part_of_value parts (at row column)) table.part

abbrev pub is_part : ℕ → Option ℕ → Bool
is_part part None = true
is_part part (Some other) = other == part

abbrev pub lies_in : ℕ → ℕ → Table → Cells → Bool
lies_in parts part table row = is_part part (part_of_row parts table row)
