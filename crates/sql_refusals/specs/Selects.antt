-- What is wrong in a SELECT.
use Rattle.std.specs.Prelude.{ℕ, Bool, true, false, ◌==◌, if◌then◌else◌, List, [], ◌∷◌, ◌++◌, length, flat_map, filter_map, option_map, is_some, Option, Some, None}
use Rattle.volt_value.specs.declared.column.Class.TheVariants as class
use Rattle.volt_catalog.specs.Rules.{Contents}
use Rattle.volt_catalog.specs.Names.{same_name}
use Rattle.expr_parse.specs.declared.expression.ColumnName.{ColumnName}
use Rattle.expr_parse.specs.declared.expression.Expr.{Expr}
use Rattle.sql_parse.specs.declared.statement.Limit.{Limit}
use Rattle.sql_parse.specs.declared.statement.Limit.TheVariants as row
use Rattle.sql_parse.specs.declared.statement.Output.{Output}
use Rattle.sql_parse.specs.declared.statement.OutputValue.{OutputValue}
use Rattle.sql_parse.specs.declared.statement.OutputValue.TheVariants as value
use Rattle.sql_parse.specs.declared.statement.Aggregate.{Aggregate}
use Rattle.sql_parse.specs.declared.statement.Aggregate.TheVariants as kind
use Rattle.sql_parse.specs.declared.statement.Outputs.{Outputs}
use Rattle.sql_parse.specs.declared.statement.Outputs.TheVariants.{All, Listed}
use Rattle.sql_parse.specs.declared.statement.SecondTable.{SecondTable}
use Rattle.sql_parse.specs.declared.statement.Select.{Select}
use Rattle.sql_parse.specs.declared.statement.SortKey.{SortKey}
use Rattle.sql_parse.specs.declared.statement.TableName.{TableName}
use Rattle.sql_plan.specs.declared.select.OrderBy.{OrderBy}
use Rattle.sql_resolve.specs.declared.names.FoundColumn.{FoundColumn}
use Rattle.sql_resolve.specs.Named.{Tables}
use Rattle.sql_resolve.specs.Names.{column_of, variable_in}
use Rattle.sql_check.specs.From.{known_as, second_name, on_of}
use Rattle.sql_resolve.specs.Tables.{table_named}
use Rattle.sql_check.specs.SelectStatement.{has_groups, heads_given}
use Rattle.sql_check.specs.Selects.{Heads, column_written, group_place, order_by}
use Rattle.sql_complaints.specs.declared.complaints.About.TheVariants as about
use Rattle.sql_complaints.specs.declared.complaints.Complaint.{Complaint}
use Rattle.sql_complaints.specs.declared.complaints.Part.{Part}
use Rattle.sql_complaints.specs.declared.complaints.Part.TheVariants.{Tables as InTables, Outputs as InOutputs, On, Where, GroupBy, OrderBy as InOrderBy, Limit as InLimit}
use Rattle.sql_complaints.specs.declared.complaints.Wanted.TheVariants as wanted
use Rattle.sql_complaints.specs.Complaints.{complaint}
use Rattle.sql_complaints.specs.Expressions.{complaints, if_found, where_wanted, question, given, read}
use Rattle.sql_refusals.specs.Writes.{condition}

-- ---- outputs

-- with groups an output that is a column is one of GROUP BY
abbrev pub if_grouped : Tables → ColumnName → Option ℕ → List Complaint
if_grouped names name (Some place) = []
if_grouped names name None = if is_some (column_of names name) then complaint InOutputs (about.NotGrouped name) ∷ [] else complaint InOutputs (about.NoColumn name) ∷ []

abbrev pub grouped_expr : Tables → List ℕ → Expr → Option ColumnName → List Complaint
grouped_expr names by e (Some name) = if_grouped names name (group_place by (column_of names name))
grouped_expr names by e None = complaint InOutputs about.NoAggregate ∷ complaints InOutputs names wanted.Alone e

-- an aggregate is of a value by itself, and a sum is one of integers
abbrev pub aggregate : Tables → Aggregate → Expr → List Complaint
aggregate names kind.Sum e = (read InOutputs names e).own wanted.Alone ++ complaints InOutputs names (wanted.Value class.Int) e
aggregate names _ e = complaints InOutputs names wanted.Alone e

abbrev pub expression : Tables → Bool → List ℕ → Expr → List Complaint
expression names true by e = grouped_expr names by e (column_written e)
expression names false by e = complaints InOutputs names wanted.Alone e

abbrev pub output : Tables → Bool → List ℕ → OutputValue → List Complaint
output names grouped by (value.Expr e) = expression names grouped by e
output names grouped by value.CountRows = []
output names grouped by (value.Aggregate kind e) = aggregate names kind e

-- the numbers of the columns of GROUP BY
abbrev pub grouped_by : Tables → List ColumnName → List ℕ
grouped_by names columns = filter_map (λ name. option_map (λ column. column.number) (column_of names name)) columns

abbrev pub listed : Tables → Bool → List ℕ → List Output → List Complaint
listed names grouped by outputs = flat_map (λ o. output names grouped by o.value) outputs

abbrev pub outputs : Tables → Select → Outputs → List Complaint
outputs names select All = if length select.groups == 0 then [] else complaint InOutputs about.AllGrouped ∷ []
outputs names select (Listed all) = listed names (has_groups select all) (grouped_by names select.groups) all

-- ---- GROUP BY, ORDER BY and LIMIT

abbrev pub grouped : Tables → ColumnName → List Complaint
grouped names name = if_found GroupBy name (column_of names name)

abbrev pub groups : Tables → List ColumnName → List Complaint
groups names columns = flat_map (grouped names) columns

-- whether ORDER BY may name outputs alone
abbrev pub orders_outputs : Select → Outputs → Bool
orders_outputs select All = false
orders_outputs select (Listed listed) = has_groups select listed

abbrev pub if_ordered : ColumnName → Option OrderBy → List Complaint
if_ordered name None = complaint InOrderBy (about.NoOrder name) ∷ []
if_ordered name (Some by) = []

abbrev pub sorted : Tables → Heads → Bool → SortKey → List Complaint
sorted names heads grouped key = if_ordered key.column (order_by names heads grouped key.column)

abbrev pub orders : Tables → Heads → Bool → List SortKey → List Complaint
orders names heads grouped keys = flat_map (sorted names heads grouped) keys

-- a name of a program, where an integer is wanted
abbrev pub variable : Part → Tables → List ℕ → List Complaint
variable part names v = where_wanted (wanted.Value class.Int) (given part (about.Unbound v) (about.Unbound v) (variable_in names.program v))

abbrev pub limit : Tables → Option Limit → List Complaint
limit names None = []
limit names (Some (row.Number z)) = []
limit names (Some row.Parameter) = (question InLimit (is_some names.program)).inner
limit names (Some (row.Variable v)) = variable InLimit names v

-- ---- the whole, part by part

abbrev pub select : Tables → Select → List Complaint
select names s =
    outputs names s s.outputs ++ condition On names (on_of s.second) ++ condition Where names s.filter
    ++ groups names s.groups ++ orders names (heads_given names s.outputs) (orders_outputs s s.outputs) s.order ++ limit names s.limit

-- ---- the tables of a FROM

abbrev pub if_there : Contents → List ℕ → List Complaint
if_there catalog name = if is_some (table_named catalog name) then [] else complaint InTables (about.NoTable name) ∷ []

-- both tables go by different names
abbrev pub if_apart : TableName → TableName → List Complaint
if_apart first second = if same_name (known_as first) (known_as second) then complaint InTables (about.SameName (known_as second)) ∷ [] else []

-- the tables of a FROM, each by itself and then both
abbrev pub sources : Contents → TableName → Option SecondTable → List Complaint
sources catalog first None = if_there catalog first.table
sources catalog first (Some second) =
    let other = second_name second in
    if_there catalog first.table ++ if_there catalog other.table
    ++ if_apart first other
