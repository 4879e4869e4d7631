-- What is wrong in a statement that changes a table.
use Rattle.std.specs.Prelude.{ℕ, ◌+◌, Bool, ◌==◌, if◌then◌else◌, List, [], ◌∷◌, ◌++◌, length, slice_get, drop, is_some, Option, Some, None}
use Rattle.volt_value.specs.declared.column.Class.{Class}
use Rattle.volt_value.specs.declared.column.Class.TheVariants as class
use Rattle.volt_catalog.specs.declared.column.Column.{Column}
use Rattle.volt_catalog.specs.declared.table.Table.{Table}
use Rattle.expr_parse.specs.declared.expression.Expr.{Expr}
use Rattle.sql_parse.specs.declared.statement.Assignment.{Assignment}
use Rattle.sql_parse.specs.declared.statement.Delete.{Delete}
use Rattle.sql_parse.specs.declared.statement.Insert.{Insert}
use Rattle.sql_parse.specs.declared.statement.Update.{Update}
use Rattle.sql_resolve.specs.Named.{Tables}
use Rattle.sql_resolve.specs.Tables.{number_of, class_at}
use Rattle.sql_check.specs.Columns.{place_of, is_among}
use Rattle.sql_complaints.specs.declared.complaints.About.TheVariants as about
use Rattle.sql_complaints.specs.declared.complaints.Complaint.{Complaint}
use Rattle.sql_complaints.specs.declared.complaints.Part.{Part}
use Rattle.sql_complaints.specs.declared.complaints.Part.TheVariants.{Columns, Values, Sets, Where}
use Rattle.sql_complaints.specs.declared.complaints.Wanted.TheVariants as wanted
use Rattle.sql_complaints.specs.Complaints.{complaint}
use Rattle.sql_complaints.specs.Expressions.{complaints}

-- ---- columns that are named

-- a name that no column has, or one that stands before it
abbrev pub unplaced : Part → List Column → List ℕ → Complaint
unplaced part columns name = complaint part (if is_some (number_of columns name) then about.Twice name else about.NoTarget name)

abbrev pub target : Part → List Column → List ℕ → Option ℕ → List Complaint
target part columns name None = unplaced part columns name ∷ []
target part columns name (Some n) = []

abbrev pub with_place : List ℕ → Option ℕ → List ℕ
with_place earlier None = earlier
with_place earlier (Some n) = earlier ++ n ∷ []

-- the names of an INSERT
abbrev pub targets : List Column → List ℕ → List (List ℕ) → List Complaint
targets columns earlier [] = []
targets columns earlier (name ∷ names) =
    let place = place_of columns earlier name in
    target Columns columns name place ++ targets columns (with_place earlier place) names

-- the columns that they stand for
abbrev pub places : List Column → List ℕ → List (List ℕ) → List ℕ
places columns earlier [] = earlier
places columns earlier (name ∷ names) = places columns (with_place earlier (place_of columns earlier name)) names

-- ---- values

-- the class that a value must have for a column, where there is one for it
abbrev pub class_for : List Column → Option ℕ → Class
class_for columns None = class.Int
class_for columns (Some n) = class_at columns n

-- the values of an INSERT, each for its column
abbrev pub values : Tables → List Column → List ℕ → List Expr → List Complaint
values names columns places [] = []
values names columns places (e ∷ es) =
    complaints Values names (wanted.Value (class_for columns (slice_get places 0))) e ++ values names columns (drop 1 places) es

-- the same where the names of columns aren't written
abbrev pub values_from : Tables → List Column → ℕ → List Expr → List Complaint
values_from names columns n [] = []
values_from names columns n (e ∷ es) =
    complaints Values names (wanted.Value (class_at columns n)) e ++ values_from names columns (n + 1) es

-- as many values as columns
abbrev pub counted : ℕ → ℕ → List Complaint
counted columns values = if columns == values then [] else complaint Values (about.Counts columns values) ∷ []

abbrev pub insert : Tables → Table → List Expr → Option (List (List ℕ)) → List Complaint
insert names table es None = counted (length table.columns) (length es) ++ values_from names table.columns 0 es
insert names table es (Some listed) =
    let to = places table.columns [] listed in
    targets table.columns [] listed ++ counted (length to) (length es) ++ values names table.columns to es

-- ---- SET

-- a column of the primary key may not be set
abbrev pub keyed : List ℕ → List ℕ → Option ℕ → List Complaint
keyed key name None = []
keyed key name (Some n) = if is_among key n then complaint Sets (about.KeyColumn name) ∷ [] else []

abbrev pub set_one : Tables → Table → Assignment → Option ℕ → List Complaint
set_one names table set place =
    target Sets table.columns set.column place ++ keyed table.key set.column place
    ++ complaints Sets names (wanted.Value (class_for table.columns place)) set.value

abbrev pub set_all : Tables → Table → List ℕ → List Assignment → List Complaint
set_all names table earlier [] = []
set_all names table earlier (set ∷ sets) =
    let place = place_of table.columns earlier set.column in
    set_one names table set place ++ set_all names table (with_place earlier place) sets

-- ---- WHERE

abbrev pub condition : Part → Tables → Option Expr → List Complaint
condition part names None = []
condition part names (Some e) = complaints part names wanted.Truth e

abbrev pub update : Tables → Table → Update → List Complaint
update names table u = set_all names table [] u.sets ++ condition Where names u.filter
