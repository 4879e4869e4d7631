-- What a SELECT gives.
use Rattle.std.specs.Prelude.{ℕ, Bool, true, false, nat_le, if◌then◌else◌, List, [], ◌∷◌, ◌++◌, map, flat_map, filter_map, take, length, pos, Option, Some, None, Result, Ok, Err}
use Rattle.std.specs.List.{enumerate_from}
use Rattle.volt_value.specs.declared.value.Value.{Value}
use Rattle.volt_value.specs.declared.value.Value.TheVariants.{Int}
use Rattle.sql_plan.specs.declared.fault.Fault.{Fault}
use Rattle.sql_plan.specs.declared.fault.Fault.TheVariants.{OutOfRange, TooManyRows}
use Rattle.sql_plan.specs.declared.expression.Scalar.{Scalar}
use Rattle.sql_plan.specs.declared.select.Aggregated.{Aggregated}
use Rattle.sql_plan.specs.declared.select.GroupOutput.{GroupOutput}
use Rattle.sql_plan.specs.declared.select.GroupOutput.TheVariants as output
use Rattle.sql_plan.specs.declared.select.JoinPlan.{JoinPlan}
use Rattle.sql_plan.specs.declared.select.Order.{Order}
use Rattle.sql_plan.specs.declared.select.OrderBy.{OrderBy}
use Rattle.sql_plan.specs.declared.select.OrderBy.TheVariants as by
use Rattle.sql_plan.specs.declared.select.RowLimit.{RowLimit}
use Rattle.sql_plan.specs.declared.select.RowLimit.TheVariants as limit
use Rattle.sql_plan.specs.declared.select.SelectPlan.{SelectPlan}
use Rattle.sql_plan.specs.declared.select.Shape.{Shape}
use Rattle.sql_plan.specs.declared.select.Shape.TheVariants as shape
use Rattle.sql_plan.specs.declared.row_key.Directed.{Directed}
use Rattle.sql_plan.specs.declared.row_key.Directed.TheVariants.{Ascending, Descending}
use Rattle.sql_plan.specs.declared.partial.Gathered.{Gathered}
use Rattle.sql_plan.specs.Keys.{key_cmp}
use Rattle.sql_plan.specs.Rows.{Cells}
use Rattle.sql_meaning.specs.Judged.{with, collected, both}
use Rattle.sql_meaning.specs.Values.{at}
use Rattle.sql_meaning.specs.Expressions.{Reads, scalar_of, holds}
use Rattle.sql_meaning.specs.Tables.{picked}
use Rattle.sql_meaning.specs.Database.{Database, rows_of}
use Rattle.sql_meaning.specs.Maps.{put_all, latest}
use Rattle.sql_meaning.specs.Groups.{arguments_of, all_gathered_of, value_of, by_key}

-- ---- the rows of FROM, and which of them are kept

-- each row of the left table with each of the right one behind it
abbrev pub product : List Cells → List Cells → List Cells
product lefts rights = flat_map (λ left. map (λ right. left ++ right) rights) lefts

abbrev pub joined_with : List Cells → Option JoinPlan → Database → List Cells
joined_with lefts None db = lefts
joined_with lefts (Some join) db = product lefts (rows_of db join.table)

abbrev pub from_rows : SelectPlan → Database → List Cells
from_rows select db = joined_with (rows_of db select.left) select.right db

abbrev pub meets_on : Option JoinPlan → Reads Bool
meets_on None row args = Ok true
meets_on (Some join) row args = holds join.on row args

-- a row is kept where ON is true and then WHERE: a row that ON doesn't keep isn't judged by WHERE
abbrev pub is_kept : SelectPlan → Reads Bool
is_kept select row args =
    with (meets_on select.right row args) (λ meets. if meets then holds select.filter row args else Ok false)

-- what a row gives where it is kept
abbrev pub if_kept : {A : Type 0} → SelectPlan → Reads A → Reads (Option A)
if_kept select gives row args =
    with (is_kept select row args) (λ kept. if kept then with (gives row args) (λ x. Ok (Some x)) else Ok None)

-- what all rows that are kept give, or the least of all faults
abbrev pub all_kept : {A : Type 0} → SelectPlan → Reads A → Cells → Database → Result (List A) Fault
all_kept select gives args db =
    with (collected (map (λ row. if_kept select gives row args) (from_rows select db))) (λ given.
    Ok (filter_map (λ x. x) given))

-- ---- LIMIT

-- NULL and a number below 0 are out of range
abbrev pub limit_value : Value → Result (Option ℕ) Fault
limit_value (Int (pos n)) = Ok (Some n)
limit_value _ = Err OutOfRange

-- how many rows there are at most, where LIMIT is written
abbrev pub limit_of : Option RowLimit → Cells → Result (Option ℕ) Fault
limit_of None args = Ok None
limit_of (Some (limit.Number z)) args = limit_value (Int z)
limit_of (Some (limit.Param n)) args = limit_value (at args n)

-- the first rows
abbrev pub within : Option ℕ → List Cells → List Cells
within None rows = rows
within (Some n) rows = take n rows

-- ---- order

abbrev pub directed : Bool → Value → Directed
directed false x = Ascending x
directed true x = Descending x

-- the value that a row is put in order by: an output, or a column
abbrev pub ordered_by : Cells → Cells → OrderBy → Value
ordered_by outputs columns (by.Output n) = at outputs n
ordered_by outputs columns (by.Column n) = at columns n

-- what a row is put in order by, with the row
abbrev pub keyed : List Order → Cells → Cells → List Directed × Cells
keyed order columns outputs = (map (λ o. directed o.descending (ordered_by outputs columns o.by)) order, outputs)

-- rows in the order of their keys. A key ends with the columns that tell all rows apart.
abbrev pub in_order : List (List Directed × Cells) → List Cells
in_order rows = map (λ entry. entry.1) (put_all key_cmp latest [] rows)

-- ---- rows of a result

abbrev pub most_rows : ℕ
most_rows = 10000

-- not too many
abbrev pub if_few : {A : Type 0} → List A → Result (List A) Fault
if_few xs = if nat_le (length xs) most_rows then Ok xs else Err TooManyRows

-- ---- without groups

-- a row of the result, with what it is put in order by
abbrev pub output_row : List Scalar → List Order → Reads (List Directed × Cells)
output_row outputs order row args =
    with (collected (map (λ e. scalar_of e row args) outputs)) (λ shown. Ok (keyed order row shown))

-- the rows in order, the first ones of LIMIT, and not too many of these
abbrev pub finished_rows : Option ℕ → List (List Directed × Cells) → Result (List Cells) Fault
finished_rows limit rows = if_few (within limit (in_order rows))

-- ---- with groups

-- an output: a column of GROUP BY, or an aggregate
abbrev pub output_of : Cells → Cells → GroupOutput → Value
output_of key aggregated (output.Column n) = at key n
output_of key aggregated (output.Aggregate n) = at aggregated n

-- a row of the result, of what was gathered of a group, with what it is put in order by
abbrev pub group_row : List GroupOutput → List Order → Cells × List Gathered → Result (List Directed × Cells) Fault
group_row outputs order group =
    with (collected (map value_of group.1)) (λ aggregated.
    Ok (keyed order group.0 (map (output_of group.0 aggregated) outputs)))

-- the sums are judged, then the number of groups; then come order and LIMIT
abbrev pub finished_groups : List GroupOutput → List Order → Option ℕ → List (Cells × List Gathered) → Result (List Cells) Fault
finished_groups outputs order limit groups =
    with (collected (map (group_row outputs order) groups)) (λ rows.
    with (if_few rows) (λ few. Ok (within limit (in_order few))))

-- all aggregates, in their order
abbrev pub aggregates_in_order : List Aggregated → List GroupOutput
aggregates_in_order aggregates = map (λ a. output.Aggregate a.0) (enumerate_from 0 aggregates)

-- a row's columns of GROUP BY, and the values that the aggregates take of it
abbrev pub group_entry : List ℕ → List Aggregated → Reads (Cells × Cells)
group_entry columns aggregates row args = with (arguments_of aggregates row args) (λ taken. Ok (picked columns row, taken))

-- ---- the whole

-- faults of rows and of LIMIT come first, the least of all
abbrev pub selected_rows : SelectPlan → List Scalar → List Order → Cells → Database → Result (List Cells) Fault
selected_rows select outputs order args db =
    with (both (all_kept select (output_row outputs order) args db) (limit_of select.limit args)) (λ given.
    finished_rows given.1 given.0)

-- one group of all rows that are kept, also of none
abbrev pub selected_total : SelectPlan → List Aggregated → Cells → Database → Result (List Cells) Fault
selected_total select aggregates args db =
    with (both (all_kept select (arguments_of aggregates) args db) (limit_of select.limit args)) (λ given.
    finished_groups (aggregates_in_order aggregates) [] given.1 (([], all_gathered_of aggregates given.0) ∷ []))

-- a group for each choice of values in the columns of GROUP BY
abbrev pub selected_groups : SelectPlan → List ℕ → List Aggregated → List GroupOutput → List Order → Cells → Database → Result (List Cells) Fault
selected_groups select columns aggregates outputs order args db =
    with (both (all_kept select (group_entry columns aggregates) args db) (limit_of select.limit args)) (λ given.
    finished_groups outputs order given.1 (map (λ g. (g.0, all_gathered_of aggregates g.1)) (by_key given.0)))

abbrev pub selected_by : SelectPlan → Shape → Cells → Database → Result (List Cells) Fault
selected_by select (shape.Rows outputs order) = selected_rows select outputs order
selected_by select (shape.Total aggregates) = selected_total select aggregates
selected_by select (shape.Groups columns aggregates outputs order) = selected_groups select columns aggregates outputs order

abbrev pub selected : SelectPlan → Cells → Database → Result (List Cells) Fault
selected select = selected_by select select.shape
