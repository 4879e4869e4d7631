-- Statements that change a table.
use Rattle.std.specs.Prelude.{ℕ, ◌==◌, if◌then◌else◌, List, [], ◌∷◌, ◌++◌, length, map, slice_get, slice_set, drop, Option, Some, None}
use Rattle.std.specs.List.{range_with_len}
use Rattle.volt_value.specs.declared.value.Value.TheVariants as v
use Rattle.volt_value.specs.declared.column.Class.TheVariants as class
use Rattle.volt_catalog.specs.declared.column.Column.{Column}
use Rattle.volt_catalog.specs.declared.table.Table.{Table}
use Rattle.expr_parse.specs.declared.expression.Expr.{Expr}
use Rattle.sql_parse.specs.declared.statement.Insert.{Insert}
use Rattle.sql_parse.specs.declared.statement.Update.{Update}
use Rattle.sql_parse.specs.declared.statement.Delete.{Delete}
use Rattle.sql_parse.specs.declared.statement.Assignment.{Assignment}
use Rattle.sql_plan.specs.declared.expression.Scalar.{Scalar}
use Rattle.sql_plan.specs.declared.expression.Scalar.TheVariants as s
use Rattle.sql_plan.specs.declared.expression.Cond.{Cond}
use Rattle.sql_plan.specs.declared.expression.Cond.TheVariants as c
use Rattle.sql_plan.specs.declared.prepared.Action.{Action}
use Rattle.sql_plan.specs.declared.prepared.Action.TheVariants as action
use Rattle.sql_resolve.specs.declared.fault.CheckFault.TheVariants.{NoSuchName, TypeMismatch, ChangesKey}
use Rattle.sql_resolve.specs.declared.notes.Notes.{Notes}
use Rattle.sql_check.specs.declared.writes.NewRow.{NewRow}
use Rattle.sql_resolve.specs.Named.{Tables}
use Rattle.sql_resolve.specs.Notes.{blamed}
use Rattle.sql_resolve.specs.Expressions.{with, scalar_in, cond_in, meaning_of}
use Rattle.sql_resolve.specs.Tables.{class_at}
use Rattle.sql_check.specs.Columns.{place_of, is_among, columns_to, numbers_to}

-- a name of a column behind those that were named before
abbrev pub listed_one : List ℕ → Option ℕ → Notes → Notes × List ℕ
listed_one earlier None notes = (blamed NoSuchName notes, earlier)
listed_one earlier (Some n) notes = (notes, earlier ++ n ∷ [])

abbrev pub listed : List Column → List (List ℕ) → List ℕ → Notes → Notes × List ℕ
listed columns [] earlier notes = (notes, earlier)
listed columns (name ∷ names) earlier notes = with (listed_one earlier (place_of columns earlier name) notes) (listed columns names)

-- the columns into which an INSERT puts values
abbrev pub places_of : List Column → Option (List (List ℕ)) → Notes → Notes × List ℕ
places_of columns None notes = (notes, numbers_to (length columns))
places_of columns (Some names) notes = listed columns names [] notes

-- a row of so many NULL
abbrev pub nulls : ℕ → List Scalar
nulls count = map (λ n. s.Literal v.Null) (range_with_len 0 count)

-- a value that is put into no column, which is a fault elsewhere
abbrev pub unplaced : Tables → Expr → Notes → Notes
unplaced tables e notes = (scalar_in (meaning_of tables e) class.Int notes).0

-- a value is put into its column, where there is one for it
abbrev pub put_at : Tables → List Column → Expr → List Scalar → Option ℕ → Notes → Notes × List Scalar
put_at tables columns e row None notes = (unplaced tables e notes, row)
put_at tables columns e row (Some n) notes = with (scalar_in (meaning_of tables e) (class_at columns n) notes) (λ x notes. (notes, slice_set row n x))

unfoldable pub filled_one : Tables → List Column → Option ℕ → Expr → List Scalar → Notes → Notes × List Scalar
filled_one tables columns place e row notes = put_at tables columns e row place notes

-- each value is put into its column
abbrev pub filled : Tables → List Column → List ℕ → List Expr → List Scalar → Notes → Notes × List Scalar
filled tables columns places [] row notes = (notes, row)
filled tables columns places (e ∷ es) row notes = with (filled_one tables columns (slice_get places 0) e row notes) (filled tables columns (drop 1 places) es)

-- as many values as columns
abbrev pub counted : List ℕ → List Expr → Notes → Notes
counted places values notes = if length places == length values then notes else blamed TypeMismatch notes

abbrev pub inserted : Tables → ℕ → Table → Insert → Notes → Notes × Action
inserted tables number table insert notes =
    with (places_of table.columns insert.columns notes) (λ places notes.
    with (filled tables table.columns places insert.values (nulls (length table.columns)) (counted places insert.values notes)) (λ row notes.
    (notes, action.Insert (record { table = number; values = row }))))

-- ---- UPDATE

-- a column of the primary key may not be set
abbrev pub key_noted : List ℕ → ℕ → Notes → Notes
key_noted key n notes = if is_among key n then blamed ChangesKey notes else notes

-- what one part of a SET does
abbrev pub set_at : Tables → Table → Expr → Option ℕ → NewRow → Notes → Notes × NewRow
set_at names table value None row notes = (unplaced names value (blamed NoSuchName notes), row)
set_at names table value (Some n) row notes =
    with (scalar_in (meaning_of names value) (class_at table.columns n) (key_noted table.key n notes)) (λ x notes.
    (notes, record { places = row.places ++ n ∷ []; values = slice_set row.values n x }))

unfoldable pub set_one : Tables → Table → Assignment → NewRow → Notes → Notes × NewRow
set_one names table assignment row notes = set_at names table assignment.value (place_of table.columns row.places assignment.column) row notes

abbrev pub set_all : Tables → Table → List Assignment → NewRow → Notes → Notes × NewRow
set_all names table [] row notes = (notes, row)
set_all names table (assignment ∷ assignments) row notes = with (set_one names table assignment row notes) (set_all names table assignments)

-- WHERE, which is true where it isn't written
abbrev pub filtered : Tables → Option Expr → Notes → Notes × Cond
filtered names None notes = (notes, c.And [])
filtered names (Some e) notes = cond_in (meaning_of names e) notes

abbrev pub updated : Tables → ℕ → Table → Update → Notes → Notes × Action
updated names number table update notes =
    with (set_all names table update.sets (record { places = []; values = columns_to (length table.columns) }) notes) (λ row notes.
    with (filtered names update.filter notes) (λ filter notes.
    (notes, action.Update (record { table = number; values = row.values; filter = filter }))))

-- ---- DELETE

abbrev pub deleted : Tables → ℕ → Delete → Notes → Notes × Action
deleted names number delete notes =
    with (filtered names delete.filter notes) (λ filter notes. (notes, action.Delete (record { table = number; filter = filter })))
