-- SELECT.
use Rattle.std.specs.Prelude.{ℕ, ◌+◌, Bool, true, false, ◌==◌, List, [], ◌∷◌, ◌++◌, length, map, position, decimal, codes, is_some, Option, Some, None}
use Rattle.volt_value.specs.declared.column.Class.{Class}
use Rattle.volt_value.specs.declared.column.Class.TheVariants as class
use Rattle.volt_value.specs.Columns.{class_of}
use Rattle.volt_catalog.specs.declared.column.Column.{Column}
use Rattle.volt_catalog.specs.Names.{same_name}
use Rattle.expr_parse.specs.declared.expression.ColumnName.{ColumnName}
use Rattle.expr_parse.specs.declared.expression.Expr.{Expr, fold-Expr}
use Rattle.expr_parse.specs.declared.expression.Expr.TheOpen.{Expr-F as e}
use Rattle.sql_parse.specs.declared.statement.Aggregate.{Aggregate}
use Rattle.sql_parse.specs.declared.statement.Aggregate.TheVariants as kind
use Rattle.sql_parse.specs.declared.statement.Limit.{Limit}
use Rattle.sql_parse.specs.declared.statement.Limit.TheVariants as limit
use Rattle.sql_parse.specs.declared.statement.Output.{Output}
use Rattle.sql_parse.specs.declared.statement.OutputValue.{OutputValue}
use Rattle.sql_parse.specs.declared.statement.OutputValue.TheVariants as value
use Rattle.sql_parse.specs.declared.statement.SortKey.{SortKey}
use Rattle.sql_plan.specs.declared.expression.Scalar.{Scalar}
use Rattle.sql_plan.specs.declared.expression.Scalar.TheVariants as s
use Rattle.sql_plan.specs.declared.select.Aggregated.{Aggregated}
use Rattle.sql_plan.specs.declared.select.Aggregated.TheVariants as agg
use Rattle.sql_plan.specs.declared.select.GroupOutput.TheVariants as given
use Rattle.sql_plan.specs.declared.select.Order.{Order}
use Rattle.sql_plan.specs.declared.select.OrderBy.{OrderBy}
use Rattle.sql_plan.specs.declared.select.OrderBy.TheVariants as by
use Rattle.sql_plan.specs.declared.select.RowLimit.{RowLimit}
use Rattle.sql_plan.specs.declared.select.RowLimit.TheVariants as row_limit
use Rattle.sql_resolve.specs.declared.fault.CheckFault.TheVariants.{NoSuchName, TypeMismatch}
use Rattle.sql_resolve.specs.declared.names.FoundColumn.{FoundColumn}
use Rattle.sql_resolve.specs.declared.notes.Notes.{Notes}
use Rattle.sql_check.specs.declared.groups.Grouping.{Grouping}
use Rattle.sql_resolve.specs.Named.{Named, Tables}
use Rattle.sql_resolve.specs.Names.{column_of, variable_in}
use Rattle.sql_resolve.specs.Notes.{blamed}
use Rattle.sql_resolve.specs.Expressions.{with, question, taken, scalar_in, alone_in, noted_alone, own_class, meaning_of, sort_of}

-- the name and the class of each column of the rows that a statement gives
abbrev pub Heads : Type 0
Heads = List (List ℕ × Class)

-- ---- names and classes of outputs

-- the column that an expression is, in parentheses or not
abbrev pub column_step : e (Option ColumnName) → Option ColumnName
column_step (e.Column name) = Some name
column_step (e.Parenthesized inner) = inner
column_step _ = None

abbrev pub column_written : Expr → Option ColumnName
column_written = fold-Expr (Option ColumnName) column_step

abbrev pub value_column : OutputValue → Option ColumnName
value_column (value.Expr e) = column_written e
value_column _ = None

-- an output that isn't named is named after its column, and else by its place from 1
abbrev pub name_without : ℕ → Option ColumnName → List ℕ
name_without place None = codes "C" ++ decimal place
name_without place (Some name) = name.column

abbrev pub name_with : ℕ → OutputValue → Option (List ℕ) → List ℕ
name_with place value None = name_without place (value_column value)
name_with place value (Some name) = name

abbrev pub name_of : ℕ → Output → List ℕ
name_of place output = name_with place output.value output.name

abbrev pub class_given : Tables → OutputValue → Class
class_given tables (value.Expr e) = own_class (sort_of tables e)
class_given tables value.CountRows = class.Int
class_given tables (value.Aggregate kind.Min e) = own_class (sort_of tables e)
class_given tables (value.Aggregate kind.Max e) = own_class (sort_of tables e)
class_given tables (value.Aggregate _ e) = class.Int

abbrev pub heads_from : Tables → ℕ → List Output → Heads
heads_from tables place [] = []
heads_from tables place (output ∷ outputs) = (name_of place output, class_given tables output.value) ∷ heads_from tables (place + 1) outputs

-- those of all columns of a table
abbrev pub heads_of_columns : List Column → Heads
heads_of_columns columns = map (λ column. (column.name, class_of column.kind)) columns

-- ---- rows

abbrev pub row_output : Tables → OutputValue → Notes → Notes × Scalar
row_output tables (value.Expr e) notes = alone_in (meaning_of tables e) notes
row_output tables _ notes = (notes, s.Column 0)

abbrev pub row_outputs : Tables → List Output → Notes → Notes × List Scalar
row_outputs tables [] notes = (notes, [])
row_outputs tables (output ∷ outputs) notes =
    with (row_output tables output.value notes) (λ x notes. with (row_outputs tables outputs notes) (λ xs notes. (notes, x ∷ xs)))

-- ---- groups

-- the number of a column of GROUP BY
abbrev pub group_one : List ℕ → Option FoundColumn → Notes → Notes × List ℕ
group_one by None notes = (blamed NoSuchName notes, by)
group_one by (Some column) notes = (notes, by ++ column.number ∷ [])

abbrev pub group_columns : Tables → List ColumnName → List ℕ → Notes → Notes × List ℕ
group_columns tables [] by notes = (notes, by)
group_columns tables (name ∷ names) by notes = with (group_one by (column_of tables name) notes) (group_columns tables names)

-- an aggregate of what an expression gives; a sum is one of integers
abbrev pub aggregated : Tables → Aggregate → Expr → Notes → Notes × Aggregated
aggregated tables kind.Count e notes = with (alone_in (meaning_of tables e) notes) (λ x notes. (notes, agg.Count x))
aggregated tables kind.Sum e notes = with (scalar_in (meaning_of tables e) class.Int (noted_alone (sort_of tables e) notes)) (λ x notes. (notes, agg.Sum x))
aggregated tables kind.Min e notes = with (alone_in (meaning_of tables e) notes) (λ x notes. (notes, agg.Min x))
aggregated tables kind.Max e notes = with (alone_in (meaning_of tables e) notes) (λ x notes. (notes, agg.Max x))

abbrev pub no_outputs : Grouping
no_outputs = record { aggregates = []; outputs = [] }

-- an output behind earlier ones
abbrev pub with_group_column : Grouping → Option ℕ → Notes → Notes × Grouping
with_group_column so_far None notes = (blamed NoSuchName notes, so_far)
with_group_column so_far (Some place) notes = (notes, record so_far { outputs = so_far.outputs ++ given.Column place ∷ [] })

abbrev pub with_aggregate : Grouping → Aggregated → Grouping
with_aggregate so_far a = record { aggregates = so_far.aggregates ++ a ∷ []; outputs = so_far.outputs ++ given.Aggregate (length so_far.aggregates) ∷ [] }

-- the place of a column in GROUP BY
abbrev pub group_place : List ℕ → Option FoundColumn → Option ℕ
group_place by None = None
group_place by (Some column) = position (λ n. n == column.number) by

-- an expression in a SELECT with groups is a column of GROUP BY, and no other
abbrev pub group_expr : Tables → List ℕ → Expr → Option ColumnName → Grouping → Notes → Notes × Grouping
group_expr tables by e (Some name) so_far notes = with_group_column so_far (group_place by (column_of tables name)) notes
group_expr tables by e None so_far notes = with (alone_in (meaning_of tables e) (blamed TypeMismatch notes)) (λ x notes. (notes, so_far))

abbrev pub group_output : Tables → List ℕ → OutputValue → Grouping → Notes → Notes × Grouping
group_output tables by (value.Expr e) so_far notes = group_expr tables by e (column_written e) so_far notes
group_output tables by value.CountRows so_far notes = (notes, with_aggregate so_far agg.CountRows)
group_output tables by (value.Aggregate kind e) so_far notes = with (aggregated tables kind e notes) (λ a notes. (notes, with_aggregate so_far a))

abbrev pub group_outputs : Tables → List ℕ → List Output → Grouping → Notes → Notes × Grouping
group_outputs tables by [] so_far notes = (notes, so_far)
group_outputs tables by (output ∷ outputs) so_far notes = with (group_output tables by output.value so_far notes) (group_outputs tables by outputs)

abbrev pub is_aggregate : OutputValue → Bool
is_aggregate (value.Expr e) = false
is_aggregate _ = true

-- ---- ORDER BY and LIMIT

abbrev pub column_by : Option FoundColumn → Option OrderBy
column_by None = None
column_by (Some column) = Some (by.Column column.number)

-- an output of a name stands before a column of it, which may stand where there are no groups
abbrev pub order_column : Tables → Bool → ColumnName → Option OrderBy
order_column tables true name = None
order_column tables false name = column_by (column_of tables name)

abbrev pub or_column : Tables → Bool → ColumnName → Option ℕ → Option OrderBy
or_column tables grouped name (Some place) = Some (by.Output place)
or_column tables grouped name None = order_column tables grouped name

abbrev pub output_named : Heads → ColumnName → Option (List ℕ) → Option ℕ
output_named heads name None = position (λ head. same_name name.column head.0) heads
output_named heads name (Some table) = None

abbrev pub order_by : Tables → Heads → Bool → ColumnName → Option OrderBy
order_by tables heads grouped name = or_column tables grouped name (output_named heads name name.table)

abbrev pub order_one : List Order → Bool → Option OrderBy → Notes → Notes × List Order
order_one so_far descending None notes = (blamed NoSuchName notes, so_far)
order_one so_far descending (Some by) notes = (notes, so_far ++ record { by = by; descending = descending } ∷ [])

abbrev pub ordered : Tables → Heads → Bool → List SortKey → List Order → Notes → Notes × List Order
ordered tables heads grouped [] so_far notes = (notes, so_far)
ordered tables heads grouped (key ∷ keys) so_far notes =
    with (order_one so_far key.descending (order_by tables heads grouped key.column) notes) (ordered tables heads grouped keys)

abbrev pub ascending : ℕ → Order
ascending n = record { by = by.Column n; descending = false }

-- the columns of a primary key, of a table behind so many columns
abbrev pub key_order : ℕ → Option Named → List Order
key_order before None = []
key_order before (Some named) = map (λ n. ascending (before + n)) named.table.key

abbrev pub limit_at : Option ℕ → Option RowLimit
limit_at None = None
limit_at (Some n) = Some (row_limit.Param n)

abbrev pub limited_by : Option ℕ → Notes → Notes × Option RowLimit
limited_by n notes = (notes, limit_at n)

abbrev pub limited_to : Tables → Option Limit → Notes → Notes × Option RowLimit
limited_to tables None notes = (notes, None)
limited_to tables (Some (limit.Number z)) notes = (notes, Some (row_limit.Number z))
limited_to tables (Some limit.Parameter) notes = with (question (is_some tables.program) class.Int notes) limited_by
limited_to tables (Some (limit.Variable v)) notes = with (taken (variable_in tables.program v) class.Int notes) limited_by
