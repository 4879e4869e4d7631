-- What a statement means on one partition, and what the partitions' parts come to.
use Rattle.std.specs.Prelude.{ℕ, ◌+◌, ℤ, if◌then◌else◌, List, [], ◌∷◌, map, flat_map, sum_by, take, Option, None, Result, Ok, Err}
use Rattle.std.specs.List.{range_with_len}
use Rattle.volt_value.specs.declared.value.Value.{Value}
use Rattle.volt_value.specs.declared.value.Value.TheVariants.{Null}
use Rattle.volt_catalog.specs.Rules.{Contents}
use Rattle.sql_plan.specs.declared.fault.Fault.{Fault}
use Rattle.sql_plan.specs.declared.fault.Fault.TheVariants.{WrongPartition}
use Rattle.sql_plan.specs.declared.expression.Scalar.{Scalar}
use Rattle.sql_plan.specs.declared.partial.Gathered.{Gathered}
use Rattle.sql_plan.specs.declared.partial.Gathered.TheVariants as gathered
use Rattle.sql_plan.specs.declared.partial.Group.{Group}
use Rattle.sql_plan.specs.declared.partial.KeyedRow.{KeyedRow}
use Rattle.sql_plan.specs.declared.partial.Partial.{Partial}
use Rattle.sql_plan.specs.declared.partial.Partial.TheVariants as partial
use Rattle.sql_plan.specs.declared.prepared.Action.{Action}
use Rattle.sql_plan.specs.declared.prepared.Action.TheVariants.{Insert, Update, Delete, Select}
use Rattle.sql_plan.specs.declared.prepared.InsertPlan.{InsertPlan}
use Rattle.sql_plan.specs.declared.prepared.Prepared.{Prepared}
use Rattle.sql_plan.specs.declared.prepared.Scope.{Scope}
use Rattle.sql_plan.specs.declared.prepared.Scope.TheVariants.{OnePartition, Replicated}
use Rattle.sql_plan.specs.declared.row_key.Directed.{Directed}
use Rattle.sql_plan.specs.declared.select.Aggregated.{Aggregated}
use Rattle.sql_plan.specs.declared.select.Aggregated.TheVariants as agg
use Rattle.sql_plan.specs.declared.select.Order.{Order}
use Rattle.sql_plan.specs.declared.select.SelectPlan.{SelectPlan}
use Rattle.sql_plan.specs.declared.select.Shape.{Shape}
use Rattle.sql_plan.specs.declared.select.Shape.TheVariants as shape
use Rattle.sql_plan.specs.Rows.{Cells, row_cmp}
use Rattle.sql_meaning.specs.Judged.{with, both, collected}
use Rattle.sql_meaning.specs.Expressions.{Reads}
use Rattle.sql_meaning.specs.Tables.{table_at, lies_in}
use Rattle.sql_meaning.specs.Database.{Database, rows_of, set_rows}
use Rattle.sql_meaning.specs.Maps.{put_all}
use Rattle.sql_meaning.specs.Changes.{Fate, inserted_row, inserted, updated, deleted, changed, counted}
use Rattle.sql_meaning.specs.Groups.{sum_of_two, min_of_two, max_of_two, arguments_of, all_gathered_of, by_key}
use Rattle.sql_meaning.specs.Selects.{all_kept, limit_of, output_row, group_entry, finished_rows, finished_groups, aggregates_in_order}

-- ---- on one partition: its share changed, and its part of the rows

-- A row goes into the partition where it lies. In a procedure on one partition it lies in no other.
abbrev pub elsewhere : Scope → Database → Result (Database × Partial) Fault
elsewhere OnePartition db = Err WrongPartition
elsewhere _ db = Ok (db, partial.Count 0)

abbrev pub part_of_insert : ℕ → Contents → ℕ → Scope → InsertPlan → Cells → Database → Result (Database × Partial) Fault
part_of_insert parts catalog part scope insert args db =
    with (inserted_row catalog insert args) (λ row.
    if lies_in parts part (table_at catalog insert.table) row
    then with (inserted catalog insert.table (rows_of db insert.table) row) (λ rows.
    Ok (set_rows db insert.table rows, partial.Count 1))
    else elsewhere scope db)

abbrev pub part_of_change : Contents → ℕ → Reads Fate → Cells → Database → Result (Database × Partial) Fault
part_of_change catalog number fate args db =
    with (changed catalog number fate args (rows_of db number)) (λ made.
    Ok (set_rows db number made.0, partial.Count made.1))

-- the rows that are kept, each with what it is put in order by
abbrev pub keyed_row : List Directed × Cells → KeyedRow
keyed_row entry = record { key = entry.0; row = entry.1 }

abbrev pub part_of_rows : SelectPlan → List Scalar → List Order → Cells → Database → Result Partial Fault
part_of_rows select outputs order args db =
    with (both (all_kept select (output_row outputs order) args db) (limit_of select.limit args)) (λ given.
    Ok (partial.Rows (map keyed_row given.0) given.1))

-- what was gathered of each group
abbrev pub group_of : Cells × List Gathered → Group
group_of group = record { key = group.0; gathered = group.1 }

abbrev pub part_of_total : SelectPlan → List Aggregated → Cells → Database → Result Partial Fault
part_of_total select aggregates args db =
    with (both (all_kept select (arguments_of aggregates) args db) (limit_of select.limit args)) (λ given.
    Ok (partial.Groups (group_of ([], all_gathered_of aggregates given.0) ∷ []) given.1))

abbrev pub part_of_groups : SelectPlan → List ℕ → List Aggregated → Cells → Database → Result Partial Fault
part_of_groups select columns aggregates args db =
    with (both (all_kept select (group_entry columns aggregates) args db) (limit_of select.limit args)) (λ given.
    Ok (partial.Groups (map (λ g. group_of (g.0, all_gathered_of aggregates g.1)) (by_key given.0)) given.1))

abbrev pub part_by_shape : SelectPlan → Shape → Cells → Database → Result Partial Fault
part_by_shape select (shape.Rows outputs order) = part_of_rows select outputs order
part_by_shape select (shape.Total aggregates) = part_of_total select aggregates
part_by_shape select (shape.Groups columns aggregates outputs order) = part_of_groups select columns aggregates

abbrev pub part_of_action : ℕ → Contents → ℕ → Scope → Action → Cells → Database → Result (Database × Partial) Fault
part_of_action parts catalog part scope (Insert insert) args db = part_of_insert parts catalog part scope insert args db
part_of_action parts catalog part scope (Update update) args db = part_of_change catalog update.table (updated catalog update) args db
part_of_action parts catalog part scope (Delete delete) args db = part_of_change catalog delete.table (deleted delete) args db
part_of_action parts catalog part scope (Select select) args db = with (part_by_shape select select.shape args db) (λ part. Ok (db, part))

-- what a statement means on the share of a partition: its share changed, and its part
abbrev pub part_means : ℕ → Contents → ℕ → Prepared → Cells → Database → Result (Database × Partial) Fault
part_means parts catalog part statement args db = part_of_action parts catalog part statement.scope statement.action args db

-- ---- all parts put together

abbrev pub all_parts : ℕ → List ℕ
all_parts parts = range_with_len 0 parts

abbrev pub count_in : Partial → ℕ
count_in (partial.Count n) = n
count_in _ = 0

abbrev pub rows_in : Partial → List (List Directed × Cells)
rows_in (partial.Rows rows limit) = map (λ r. (r.key, r.row)) rows
rows_in _ = []

abbrev pub groups_in : Partial → List (Cells × List Gathered)
groups_in (partial.Groups groups limit) = map (λ g. (g.key, g.gathered)) groups
groups_in _ = []

-- the value of LIMIT, which is the same in all parts
abbrev pub limit_in : Partial → Option ℕ
limit_in (partial.Rows rows limit) = limit
limit_in (partial.Groups groups limit) = limit
limit_in _ = None

abbrev pub first_limit : List Partial → Option ℕ
first_limit [] = None
first_limit (part ∷ parts) = limit_in part

-- counts are added, sums are added exactly, of the least values the least counts, of the greatest the greatest
abbrev pub number_of : Gathered → ℕ
number_of (gathered.Count n) = n
number_of _ = 0

abbrev pub sum_in : Gathered → Option ℤ
sum_in (gathered.Sum z) = z
sum_in _ = None

abbrev pub value_in : Gathered → Value
value_in (gathered.Min x) = x
value_in (gathered.Max x) = x
value_in _ = Null

abbrev pub joined : Aggregated → Gathered → Gathered → Gathered
joined agg.CountRows a b = gathered.Count (number_of a + number_of b)
joined (agg.Count e) a b = gathered.Count (number_of a + number_of b)
joined (agg.Sum e) a b = gathered.Sum (sum_of_two (sum_in a) (sum_in b))
joined (agg.Min e) a b = gathered.Min (min_of_two (value_in a) (value_in b))
joined (agg.Max e) a b = gathered.Max (max_of_two (value_in a) (value_in b))

abbrev pub all_joined : List Aggregated → List Gathered → List Gathered → List Gathered
all_joined (aggregate ∷ aggregates) (a ∷ as') (b ∷ bs) = joined aggregate a b ∷ all_joined aggregates as' bs
all_joined _ _ _ = []

-- the groups of all parts, those with one key put together
abbrev pub joined_groups : List Aggregated → List Partial → List (Cells × List Gathered)
joined_groups aggregates parts = put_all row_cmp (all_joined aggregates) [] (flat_map groups_in parts)

abbrev pub merged_by : Shape → List Partial → Result (List Cells) Fault
merged_by (shape.Rows outputs order) parts = finished_rows (first_limit parts) (flat_map rows_in parts)
merged_by (shape.Total aggregates) parts =
    finished_groups (aggregates_in_order aggregates) [] (first_limit parts) (joined_groups aggregates parts)
merged_by (shape.Groups columns aggregates outputs order) parts =
    finished_groups outputs order (first_limit parts) (joined_groups aggregates parts)

abbrev pub merged_action : Action → List Partial → Result (List Cells) Fault
merged_action (Select select) parts = merged_by select.shape parts
merged_action _ parts = Ok (counted (sum_by count_in parts))

-- where no partitioned table is named, all partitions have the same part, and it counts once
abbrev pub parts_that_count : Scope → List Partial → List Partial
parts_that_count Replicated parts = take 1 parts
parts_that_count _ parts = parts

-- the rows of a statement: a sum that is out of range, or too many rows or groups, is judged here
abbrev pub merged : Prepared → List Partial → Result (List Cells) Fault
merged statement parts = merged_action statement.action (parts_that_count statement.scope parts)

-- the rows that a statement gives where each partition makes its part on its own database
abbrev pub given_by_parts : ℕ → Contents → Prepared → Cells → (ℕ → Database) → Result (List Cells) Fault
given_by_parts parts catalog statement args own =
    with (collected (map (λ part. with (part_means parts catalog part statement args (own part)) (λ made. Ok made.1)) (all_parts parts)))
    (merged statement)
