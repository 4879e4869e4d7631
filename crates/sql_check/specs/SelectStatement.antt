-- What a SELECT is checked to be.
use Rattle.std.specs.Prelude.{ℕ, ◌+◌, Bool, true, false, ◌==◌, ◌||◌, not, if◌then◌else◌, List, [], ◌++◌, length, map, Option, Some, None}
use Rattle.std.specs.List.{list_any, range_with_len}
use Rattle.volt_catalog.specs.Rules.{Contents}
use Rattle.sql_parse.specs.declared.statement.Output.{Output}
use Rattle.sql_parse.specs.declared.statement.Outputs.{Outputs}
use Rattle.sql_parse.specs.declared.statement.Outputs.TheVariants.{All, Listed}
use Rattle.sql_parse.specs.declared.statement.Select.{Select}
use Rattle.sql_parse.specs.declared.statement.SortKey.{SortKey}
use Rattle.sql_plan.specs.declared.expression.Cond.{Cond}
use Rattle.sql_plan.specs.declared.expression.Scalar.{Scalar}
use Rattle.sql_plan.specs.declared.prepared.Action.{Action}
use Rattle.sql_plan.specs.declared.prepared.Action.TheVariants as action
use Rattle.sql_plan.specs.declared.select.JoinPlan.{JoinPlan}
use Rattle.sql_plan.specs.declared.select.Order.{Order}
use Rattle.sql_plan.specs.declared.select.Shape.{Shape}
use Rattle.sql_plan.specs.declared.select.Shape.TheVariants as shape
use Rattle.sql_resolve.specs.declared.bound.Bound.{Bound}
use Rattle.sql_resolve.specs.declared.fault.CheckFault.TheVariants.{NoSuchName, NotDistributable}
use Rattle.sql_check.specs.declared.examined.Examined.{Examined}
use Rattle.sql_check.specs.declared.groups.Grouping.{Grouping}
use Rattle.sql_resolve.specs.declared.notes.Notes.{Notes}
use Rattle.sql_check.specs.Distribution.{tell_parts}
use Rattle.sql_resolve.specs.Expressions.{with}
use Rattle.sql_check.specs.From.{FromTable, FromTables, from_tables, tables_from, part_in, names_partitioned, on_of}
use Rattle.sql_resolve.specs.Named.{Tables, columns_of, key_of, in_program}
use Rattle.sql_resolve.specs.Names.{width}
use Rattle.sql_resolve.specs.Notes.{nothing, blamed}
use Rattle.sql_check.specs.Selects.{Heads, heads_from, heads_of_columns, row_outputs, group_columns, group_outputs, no_outputs, is_aggregate, ordered, ascending, limited_to}
use Rattle.sql_check.specs.Statements.{finished}
use Rattle.sql_check.specs.Columns.{columns_to}
use Rattle.sql_check.specs.Writes.{filtered}

-- rows come in the order of ORDER BY, and then in that of the primary keys, of the left table first
abbrev pub with_keys : Tables → List Order → List Order
with_keys tables order = order ++ map (λ n. ascending (0 + n)) (key_of tables.left) ++ map (λ n. ascending (width tables.left + n)) (key_of tables.right)

abbrev pub rows_of : Tables → Heads → List SortKey → List Scalar → Notes → Notes × Shape
rows_of tables heads keys outputs notes =
    with (ordered tables heads false keys [] notes) (λ order notes. (notes, shape.Rows outputs (with_keys tables order)))

abbrev pub groups_of : List ℕ → Grouping → List Order → Shape
groups_of by grouping order =
    if length by == 0 then shape.Total grouping.aggregates
    else shape.Groups by grouping.aggregates grouping.outputs (order ++ map ascending (range_with_len 0 (length by)))

abbrev pub grouped_of : Tables → Heads → Select → List Output → Notes → Notes × Shape
grouped_of tables heads select outputs notes =
    with (group_columns tables select.groups [] notes) (λ by notes.
    with (group_outputs tables by outputs no_outputs notes) (λ grouping notes.
    with (ordered tables heads true select.order [] notes) (λ order notes. (notes, groups_of by grouping order))))

-- with an aggregate or GROUP BY there are groups
abbrev pub has_groups : Select → List Output → Bool
has_groups select outputs = not (length select.groups == 0) || list_any (λ output. is_aggregate output.value) outputs

abbrev pub listed_shape : Tables → Heads → Select → List Output → Bool → Notes → Notes × Shape
listed_shape tables heads select outputs true notes = grouped_of tables heads select outputs notes
listed_shape tables heads select outputs false notes = with (row_outputs tables outputs notes) (rows_of tables heads select.order)

-- `*` may not stand beside GROUP BY
abbrev pub ungrouped : Select → Notes → Notes
ungrouped select notes = if length select.groups == 0 then notes else blamed NoSuchName notes

abbrev pub shape_of : Tables → Heads → Select → Outputs → Notes → Notes × Shape
shape_of tables heads select All notes = rows_of tables heads select.order (columns_to (length (columns_of tables.left) + length (columns_of tables.right))) (ungrouped select notes)
shape_of tables heads select (Listed outputs) notes = listed_shape tables heads select outputs (has_groups select outputs) notes

abbrev pub heads_given : Tables → Outputs → Heads
heads_given tables All = heads_of_columns (columns_of tables.left) ++ heads_of_columns (columns_of tables.right)
heads_given tables (Listed outputs) = heads_from tables 1 outputs

-- a join of two partitioned tables is one that each partition can make by itself
abbrev pub distributed_by : Option ℕ → Option ℕ → ℕ → Cond → Cond → Notes → Notes
distributed_by (Some left) (Some right) before on filter notes = if tell_parts left (before + right) on filter then notes else blamed NotDistributable notes
distributed_by _ _ before on filter notes = notes

abbrev pub distributed : FromTables → Cond → Cond → Notes → Notes
distributed from = distributed_by from.left.named.table.part (part_in from.right) (length from.left.named.table.columns)

abbrev pub join_of : Option FromTable → Cond → Option JoinPlan
join_of None on = None
join_of (Some table) on = Some (record { table = table.number; on = on })

abbrev pub selected : Tables → FromTables → Heads → Select → Notes → Notes × Action
selected tables from heads select notes =
    with (shape_of tables heads select select.outputs notes) (λ shape notes.
    with (filtered tables (on_of select.second) notes) (λ on notes.
    with (filtered tables select.filter notes) (λ filter notes.
    with (limited_to tables select.limit notes) (λ limit notes.
    (distributed from on filter notes, action.Select (record { left = from.left.number; right = join_of from.right on; filter = filter; shape = shape; limit = limit }))))))

abbrev pub examined_from : Option Bound → Option FromTables → Select → Bool → Option Examined
examined_from program None select single = None
examined_from program (Some from) select single =
    let tables = in_program program (tables_from from) in
    let heads = heads_given tables select.outputs in
    let done = selected tables from heads select nothing in
    Some (finished program single (names_partitioned from) heads done.0 done.1)

abbrev pub examined_select : Contents → Option Bound → Select → Bool → Option Examined
examined_select catalog program select single = examined_from program (from_tables catalog select.first select.second) select single
