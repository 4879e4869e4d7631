-- What checking gives of the example's statements.
use Rattle.std.proofs.Common.{◌≡◌, true, Ok, sym, ap, ◌∙◌}
use Rattle.expr_parse.specs.declared.expression.ColumnName.{ColumnName}
use Rattle.expr_parse.specs.declared.expression.Comparison.{Comparison}
use Rattle.expr_parse.specs.declared.expression.Expr.{Expr}
use Rattle.expr_parse.specs.declared.expression.Expr.TheOpen.{Expr-F, Expr-F as e}
use Rattle.expr_parse.specs.declared.expression.Expr.TheFolds.{fold-Expr, fold-roll-Expr}
use Rattle.expr_parse.specs.declared.expression.Expr.TheVariants as expr
use Rattle.sql_plan.specs.declared.prepared.Scope.TheVariants.{OnePartition}
use Rattle.sql_resolve.specs.Expressions.{Meaning, meaning_step, sort_of, sort_of_found}
use Rattle.sql_resolve.specs.Named.{Tables}
use Rattle.sql_resolve.specs.Names.{column_of}
use Rattle.sql_check.specs.Checked.{examined, answered, checked}
use Rattle.sql_check.specs.Writes.{filled_one}
use Rattle.sql_meaning.specs.Starter.{catalog, put_row, balance_of}
use Rattle.sql_check_laws.specs.Examples.{put, get}
use Rattle.sql_check_laws.specs.Numbers.{statement_has_bigints}

module _ (A : Type 0) (step : Expr-F A → A) where
  fold_Column : (name : ColumnName) → fold-Expr A step (expr.Column name) ≡ step (e.Column name)
  fold_Column name = ap (fold-Expr A step) (sym (expr.rolls-Column name)) ∙ fold-roll-Expr A step (e.Column name)

  fold_Parameter : fold-Expr A step expr.Parameter ≡ step e.Parameter
  fold_Parameter = ap (fold-Expr A step) (sym expr.rolls-Parameter) ∙ fold-roll-Expr A step e.Parameter

  fold_Compare : (op : Comparison) (a b : Expr) → fold-Expr A step (expr.Compare op a b) ≡ step (e.Compare op (fold-Expr A step a) (fold-Expr A step b))
  fold_Compare op a b = ap (fold-Expr A step) (sym (expr.rolls-Compare op a b)) ∙ fold-roll-Expr A step (e.Compare op a b)

sort_of_Column : (names : Tables) (name : ColumnName) → sort_of names (expr.Column name) ≡ sort_of_found (column_of names name)
sort_of_Column names name = ap (λ (m : Meaning). m.sort) (fold_Column Meaning (meaning_step names) name)

pub put-numbers : statement_has_bigints put ≡ true
put-numbers = simp (fold_Parameter)

pub get-numbers : statement_has_bigints get ≡ true
get-numbers = simp (fold_Column, fold_Parameter, fold_Compare)

pub put-accepted : checked catalog put true ≡ Ok put_row
unfolding examined answered filled_one
put-accepted = simp (fold_Parameter)

pub get-accepted : checked catalog get true ≡ Ok (balance_of OnePartition)
unfolding examined answered
get-accepted = simp (sort_of_Column, fold_Column, fold_Parameter, fold_Compare)
