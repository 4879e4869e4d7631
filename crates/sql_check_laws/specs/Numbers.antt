-- Which numbers a statement's tree may hold.
use Rattle.std.specs.Prelude.{Bool, true, ◌&&◌, Option, Some, None}
use Rattle.std.specs.List.{list_all}
use Rattle.volt_value.specs.Values.{is_bigint}
use Rattle.expr_parse.specs.declared.expression.Expr.{Expr, fold-Expr}
use Rattle.expr_parse.specs.declared.expression.Expr.TheOpen.{Expr-F as e}
use Rattle.sql_parse.specs.declared.statement.Stmt.{Stmt}
use Rattle.sql_parse.specs.declared.statement.Stmt.TheVariants.{Insert, Update, Delete, Select}
use Rattle.sql_parse.specs.declared.statement.OutputValue.{OutputValue}
use Rattle.sql_parse.specs.declared.statement.OutputValue.TheVariants as value
use Rattle.sql_parse.specs.declared.statement.Outputs.{Outputs}
use Rattle.sql_parse.specs.declared.statement.Outputs.TheVariants as outputs
use Rattle.sql_check.specs.From.{on_of}

-- each number that is written in an expression is one of BIGINT
abbrev pub has_bigints_step : e Bool → Bool
has_bigints_step (e.Number z) = is_bigint z
has_bigints_step (e.Text t) = true
has_bigints_step e.Null = true
has_bigints_step e.Parameter = true
has_bigints_step (e.Column name) = true
has_bigints_step (e.Parenthesized inner) = inner
has_bigints_step (e.Variable v) = true
has_bigints_step (e.RowColumn r c) = true
has_bigints_step (e.Rows r) = true
has_bigints_step (e.First r c) = true
has_bigints_step (e.Negate x) = x
has_bigints_step (e.Calculate op x y) = x && y
has_bigints_step (e.Compare op x y) = x && y
has_bigints_step (e.IsNull x negated) = x
has_bigints_step (e.Between x low high negated) = x && low && high
has_bigints_step (e.In x items negated) = x && list_all (λ item. item) items
has_bigints_step (e.Not x) = x
has_bigints_step (e.And x y) = x && y
has_bigints_step (e.Or x y) = x && y

abbrev pub has_bigints : Expr → Bool
has_bigints = fold-Expr Bool has_bigints_step

abbrev pub has_bigints_if : Option Expr → Bool
has_bigints_if None = true
has_bigints_if (Some e) = has_bigints e

abbrev pub output_has_bigints : OutputValue → Bool
output_has_bigints (value.Expr e) = has_bigints e
output_has_bigints value.CountRows = true
output_has_bigints (value.Aggregate kind e) = has_bigints e

abbrev pub outputs_have_bigints : Outputs → Bool
outputs_have_bigints outputs.All = true
outputs_have_bigints (outputs.Listed listed) = list_all (λ output. output_has_bigints output.value) listed

-- the same of all expressions of a statement
abbrev pub statement_has_bigints : Stmt → Bool
statement_has_bigints (Insert insert) = list_all has_bigints insert.values
statement_has_bigints (Update update) = list_all (λ set. has_bigints set.value) update.sets && has_bigints_if update.filter
statement_has_bigints (Delete delete) = has_bigints_if delete.filter
statement_has_bigints (Select select) =
    outputs_have_bigints select.outputs && has_bigints_if (on_of select.second) && has_bigints_if select.filter
