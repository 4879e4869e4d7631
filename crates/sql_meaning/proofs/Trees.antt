-- What a fold gives of each variant of a tree.
use Rattle.std.proofs.Common.{◌≡◌, ℕ, List, map, Option, sym, ap, ◌∙◌}
use Rattle.volt_value.specs.declared.value.Value.{Value}
use Rattle.expr_parse.specs.declared.expression.Arithmetic.{Arithmetic}
use Rattle.expr_parse.specs.declared.expression.Comparison.{Comparison}
use Rattle.sql_plan.specs.declared.expression.Scalar.{Scalar}
use Rattle.sql_plan.specs.declared.expression.Scalar.TheOpen.{Scalar-F, Scalar-F as s}
use Rattle.sql_plan.specs.declared.expression.Scalar.TheFolds.{fold-Scalar, fold-roll-Scalar}
use Rattle.sql_plan.specs.declared.expression.Scalar.TheVariants as scalar
use Rattle.sql_plan.specs.declared.expression.Cond.{Cond}
use Rattle.sql_plan.specs.declared.expression.Cond.TheOpen.{Cond-F, Cond-F as c}
use Rattle.sql_plan.specs.declared.expression.Cond.TheFolds.{fold-Cond, fold-roll-Cond}
use Rattle.sql_plan.specs.declared.expression.Cond.TheVariants as cond
use Rattle.sql_plan.specs.declared.program.ProgramStep.{ProgramStep}
use Rattle.sql_plan.specs.declared.program.ProgramStep.TheOpen.{ProgramStep-F, ProgramStep-F as p}
use Rattle.sql_plan.specs.declared.program.ProgramStep.TheFolds.{fold-ProgramStep, fold-roll-ProgramStep}
use Rattle.sql_plan.specs.declared.program.ProgramStep.TheVariants as program
use Rattle.sql_plan.specs.declared.program.ProgramValue.{ProgramValue}
use Rattle.sql_plan.specs.declared.program.Returned.{Returned}

module _ (A : Type 0) (step : Scalar-F A → A) where
  pub fold_Literal : (x : Value) → fold-Scalar A step (scalar.Literal x) ≡ step (s.Literal x)
  fold_Literal x = ap (fold-Scalar A step) (sym (scalar.rolls-Literal x)) ∙ fold-roll-Scalar A step (s.Literal x)

  pub fold_Column : (n : ℕ) → fold-Scalar A step (scalar.Column n) ≡ step (s.Column n)
  fold_Column n = ap (fold-Scalar A step) (sym (scalar.rolls-Column n)) ∙ fold-roll-Scalar A step (s.Column n)

  pub fold_Param : (n : ℕ) → fold-Scalar A step (scalar.Param n) ≡ step (s.Param n)
  fold_Param n = ap (fold-Scalar A step) (sym (scalar.rolls-Param n)) ∙ fold-roll-Scalar A step (s.Param n)

  pub fold_Negate : (e : Scalar) → fold-Scalar A step (scalar.Negate e) ≡ step (s.Negate (fold-Scalar A step e))
  fold_Negate e = ap (fold-Scalar A step) (sym (scalar.rolls-Negate e)) ∙ fold-roll-Scalar A step (s.Negate e)

  pub fold_Chain : (e : Scalar) (es : List (Arithmetic × Scalar)) → fold-Scalar A step (scalar.Chain e es) ≡ step (s.Chain (fold-Scalar A step e) (map (λ x. (x.0, fold-Scalar A step x.1)) es))
  fold_Chain e es = ap (fold-Scalar A step) (sym (scalar.rolls-Chain e es)) ∙ fold-roll-Scalar A step (s.Chain e es)

module _ (A : Type 0) (step : Cond-F A → A) where
  pub fold_Unknown : fold-Cond A step cond.Unknown ≡ step c.Unknown
  fold_Unknown = ap (fold-Cond A step) (sym cond.rolls-Unknown) ∙ fold-roll-Cond A step c.Unknown

  pub fold_Compare : (op : Comparison) (a b : Scalar) → fold-Cond A step (cond.Compare op a b) ≡ step (c.Compare op a b)
  fold_Compare op a b = ap (fold-Cond A step) (sym (cond.rolls-Compare op a b)) ∙ fold-roll-Cond A step (c.Compare op a b)

  pub fold_IsNull : (a : Scalar) → fold-Cond A step (cond.IsNull a) ≡ step (c.IsNull a)
  fold_IsNull a = ap (fold-Cond A step) (sym (cond.rolls-IsNull a)) ∙ fold-roll-Cond A step (c.IsNull a)

  pub fold_Between : (a b d : Scalar) → fold-Cond A step (cond.Between a b d) ≡ step (c.Between a b d)
  fold_Between a b d = ap (fold-Cond A step) (sym (cond.rolls-Between a b d)) ∙ fold-roll-Cond A step (c.Between a b d)

  pub fold_In : (a : Scalar) (bs : List Scalar) → fold-Cond A step (cond.In a bs) ≡ step (c.In a bs)
  fold_In a bs = ap (fold-Cond A step) (sym (cond.rolls-In a bs)) ∙ fold-roll-Cond A step (c.In a bs)

  pub fold_Not : (x : Cond) → fold-Cond A step (cond.Not x) ≡ step (c.Not (fold-Cond A step x))
  fold_Not x = ap (fold-Cond A step) (sym (cond.rolls-Not x)) ∙ fold-roll-Cond A step (c.Not x)

  pub fold_And : (xs : List Cond) → fold-Cond A step (cond.And xs) ≡ step (c.And (map (fold-Cond A step) xs))
  fold_And xs = ap (fold-Cond A step) (sym (cond.rolls-And xs)) ∙ fold-roll-Cond A step (c.And xs)

  pub fold_Or : (xs : List Cond) → fold-Cond A step (cond.Or xs) ≡ step (c.Or (map (fold-Cond A step) xs))
  fold_Or xs = ap (fold-Cond A step) (sym (cond.rolls-Or xs)) ∙ fold-roll-Cond A step (c.Or xs)

module _ (A : Type 0) (step : ProgramStep-F A → A) where
  pub fold_Let : (n : ℕ) (args : List ProgramValue) (e : Scalar) → fold-ProgramStep A step (program.Let n args e) ≡ step (p.Let n args e)
  fold_Let n args e = ap (fold-ProgramStep A step) (sym (program.rolls-Let n args e)) ∙ fold-roll-ProgramStep A step (p.Let n args e)

  pub fold_Sql : (n : ℕ) (args : List ProgramValue) (result : Option ℕ) → fold-ProgramStep A step (program.Sql n args result) ≡ step (p.Sql n args result)
  fold_Sql n args result = ap (fold-ProgramStep A step) (sym (program.rolls-Sql n args result)) ∙ fold-roll-ProgramStep A step (p.Sql n args result)

  pub fold_If : (args : List ProgramValue) (condition : Cond) (xs ys : List ProgramStep) → fold-ProgramStep A step (program.If args condition xs ys) ≡ step (p.If args condition (map (fold-ProgramStep A step) xs) (map (fold-ProgramStep A step) ys))
  fold_If args condition xs ys = ap (fold-ProgramStep A step) (sym (program.rolls-If args condition xs ys)) ∙ fold-roll-ProgramStep A step (p.If args condition xs ys)

  pub fold_For : (row result : ℕ) (xs : List ProgramStep) → fold-ProgramStep A step (program.For row result xs) ≡ step (p.For row result (map (fold-ProgramStep A step) xs))
  fold_For row result xs = ap (fold-ProgramStep A step) (sym (program.rolls-For row result xs)) ∙ fold-roll-ProgramStep A step (p.For row result xs)

  pub fold_Abort : (text : List ℕ) → fold-ProgramStep A step (program.Abort text) ≡ step (p.Abort text)
  fold_Abort text = ap (fold-ProgramStep A step) (sym (program.rolls-Abort text)) ∙ fold-roll-ProgramStep A step (p.Abort text)

  pub fold_Return : (what : Returned) → fold-ProgramStep A step (program.Return what) ≡ step (p.Return what)
  fold_Return what = ap (fold-ProgramStep A step) (sym (program.rolls-Return what)) ∙ fold-roll-ProgramStep A step (p.Return what)

pub ruleset trees = (fold_Literal, fold_Column, fold_Param, fold_Negate, fold_Chain, fold_Unknown, fold_Compare, fold_IsNull, fold_Between, fold_In, fold_Not, fold_And, fold_Or, fold_Let, fold_Sql, fold_If, fold_For, fold_Abort, fold_Return)
