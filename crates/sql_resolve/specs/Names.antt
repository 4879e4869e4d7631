-- What the names of columns stand for.
use Rattle.std.specs.Prelude.{ℕ, ◌+◌, Bool, true, if◌then◌else◌, List, [], ◌∷◌, ◌++◌, length, Option, Some, None}
use Rattle.volt_value.specs.Columns.{class_of}
use Rattle.volt_catalog.specs.declared.column.Column.{Column}
use Rattle.volt_catalog.specs.Names.{same_name}
use Rattle.expr_parse.specs.declared.expression.ColumnName.{ColumnName}
use Rattle.sql_resolve.specs.declared.bound.Bound.{Bound}
use Rattle.sql_resolve.specs.declared.bound.Given.{Given}
use Rattle.sql_resolve.specs.declared.bound.Given.TheVariants.{Unbound}
use Rattle.sql_resolve.specs.Bound as bound
use Rattle.sql_resolve.specs.Named.{Named, Tables}
use Rattle.sql_resolve.specs.declared.names.FoundColumn.{FoundColumn}
use Rattle.sql_resolve.specs.declared.names.Fitting.{Fitting}
use Rattle.sql_resolve.specs.declared.names.Fitting.TheVariants.{Nothing, One, Several}

-- the columns of a name, where the first one has a number
abbrev pub among : ℕ → List ℕ → List Column → List FoundColumn
among number name [] = []
among number name (column ∷ columns) = (if same_name name column.name then record { number = number; class = class_of column.kind } ∷ [] else []) ++ among (number + 1) name columns

-- a column that is written with the name of a table can be one of that table alone
abbrev pub goes_by : Option (List ℕ) → List ℕ → Bool
goes_by None table = true
goes_by (Some name) table = same_name name table

abbrev pub with_fitting : Fitting → FoundColumn → Fitting
with_fitting Nothing column = One column
with_fitting _ column = Several

abbrev pub with_all : Fitting → List FoundColumn → Fitting
with_all found [] = found
with_all found (column ∷ columns) = with_all (with_fitting found column) columns

-- the columns of a table that a name fits, behind so many columns of a table before it
abbrev pub columns_in : ℕ → ColumnName → Option Named → List FoundColumn
columns_in before name None = []
columns_in before name (Some table) = if goes_by name.table table.name then among before name.column table.table.columns else []

-- how many columns a table has
abbrev pub width : Option Named → ℕ
width None = 0
width (Some table) = length table.table.columns

-- the one of a list
abbrev pub only : List FoundColumn → Option FoundColumn
only (column ∷ []) = Some column
only _ = None

-- the column that a name stands for: the only one of both tables that it fits
abbrev pub column_of : Tables → ColumnName → Option FoundColumn
column_of tables name = only (columns_in 0 name tables.left ++ columns_in (width tables.left) name tables.right)

abbrev pub found_in : Fitting → Option FoundColumn
found_in (One column) = Some column
found_in _ = None

-- ---- names of a program, which a statement outside of programs has none of

abbrev pub variable_in : Option Bound → List ℕ → Given
variable_in None name = Unbound
variable_in (Some b) name = bound.variable b name

abbrev pub row_column_in : Option Bound → List ℕ → List ℕ → Given
row_column_in None row column = Unbound
row_column_in (Some b) row column = bound.row_column b row column

abbrev pub rows_in : Option Bound → List ℕ → Given
rows_in None name = Unbound
rows_in (Some b) name = bound.rows b name

abbrev pub first_in : Option Bound → List ℕ → List ℕ → Given
first_in None name column = Unbound
first_in (Some b) name column = bound.first b name column
