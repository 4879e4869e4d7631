-- Whether classes fit, variant by variant.
use Rattle.std.proofs.Common.{◌≡◌, ℕ, suc, Bool, true, List, [], ◌∷◌, map, length, refl, ap}
use Rattle.std.proofs.lemmas.Bool.{and_parts}
use Rattle.volt_value.specs.declared.value.Value.{Value}
use Rattle.volt_value.specs.declared.column.Class.{Class}
use Rattle.expr_parse.specs.declared.expression.Arithmetic.{Arithmetic}
use Rattle.expr_parse.specs.declared.expression.Comparison.{Comparison}
use Rattle.sql_plan.specs.declared.expression.Scalar.{Scalar}
use Rattle.sql_plan.specs.declared.expression.Scalar.TheOpen.{Scalar-F as s}
use Rattle.sql_plan.specs.declared.expression.Scalar.TheVariants as scalar
use Rattle.sql_plan.specs.declared.expression.Cond.{Cond}
use Rattle.sql_plan.specs.declared.expression.Cond.TheOpen.{Cond-F as c}
use Rattle.sql_plan.specs.declared.expression.Cond.TheVariants as cond
use Rattle.sql_meaning.specs.WellFormed.{gives_step, gives, give_each, fits_step, fits}
use Rattle.sql_meaning.proofs.Trees.{fold_Literal, fold_Column, fold_Param, fold_Negate, fold_Chain, fold_Unknown, fold_Compare, fold_IsNull, fold_Between, fold_In, fold_Not, fold_And, fold_Or}

module _ (columns params : List Class) (wanted : Class) where
  pub gives_Literal : (x : Value) → gives columns params (scalar.Literal x) wanted ≡ gives_step columns params (s.Literal x) wanted
  gives_Literal x = ap (λ f. f wanted) (fold_Literal (Class → Bool) (gives_step columns params) x)

  pub gives_Column : (n : ℕ) → gives columns params (scalar.Column n) wanted ≡ gives_step columns params (s.Column n) wanted
  gives_Column n = ap (λ f. f wanted) (fold_Column (Class → Bool) (gives_step columns params) n)

  pub gives_Param : (n : ℕ) → gives columns params (scalar.Param n) wanted ≡ gives_step columns params (s.Param n) wanted
  gives_Param n = ap (λ f. f wanted) (fold_Param (Class → Bool) (gives_step columns params) n)

  pub gives_Negate : (e : Scalar) → gives columns params (scalar.Negate e) wanted ≡ gives_step columns params (s.Negate (gives columns params e)) wanted
  gives_Negate e = ap (λ f. f wanted) (fold_Negate (Class → Bool) (gives_step columns params) e)

  pub gives_Chain : (e : Scalar) (es : List (Arithmetic × Scalar)) → gives columns params (scalar.Chain e es) wanted ≡ gives_step columns params (s.Chain (gives columns params e) (map (λ x. (x.0, gives columns params x.1)) es)) wanted
  gives_Chain e es = ap (λ f. f wanted) (fold_Chain (Class → Bool) (gives_step columns params) e es)

module _ (columns params : List Class) where
  pub fits_Unknown : fits columns params cond.Unknown ≡ fits_step columns params c.Unknown
  fits_Unknown = fold_Unknown Bool (fits_step columns params)

  pub fits_Compare : (op : Comparison) (a b : Scalar) → fits columns params (cond.Compare op a b) ≡ fits_step columns params (c.Compare op a b)
  fits_Compare op a b = fold_Compare Bool (fits_step columns params) op a b

  pub fits_IsNull : (a : Scalar) → fits columns params (cond.IsNull a) ≡ fits_step columns params (c.IsNull a)
  fits_IsNull a = fold_IsNull Bool (fits_step columns params) a

  pub fits_Between : (a b d : Scalar) → fits columns params (cond.Between a b d) ≡ fits_step columns params (c.Between a b d)
  fits_Between a b d = fold_Between Bool (fits_step columns params) a b d

  pub fits_In : (a : Scalar) (bs : List Scalar) → fits columns params (cond.In a bs) ≡ fits_step columns params (c.In a bs)
  fits_In a bs = fold_In Bool (fits_step columns params) a bs

  pub fits_Not : (x : Cond) → fits columns params (cond.Not x) ≡ fits_step columns params (c.Not (fits columns params x))
  fits_Not x = fold_Not Bool (fits_step columns params) x

  pub fits_And : (xs : List Cond) → fits columns params (cond.And xs) ≡ fits_step columns params (c.And (map (fits columns params) xs))
  fits_And xs = fold_And Bool (fits_step columns params) xs

  pub fits_Or : (xs : List Cond) → fits columns params (cond.Or xs) ≡ fits_step columns params (c.Or (map (fits columns params) xs))
  fits_Or xs = fold_Or Bool (fits_step columns params) xs

-- as many expressions as classes
pub give_each-length : (columns params : List Class) (es : List Scalar) (cs : List Class) → give_each columns params es cs ≡ true → length es ≡ length cs
give_each-length columns params [] [] e = refl
give_each-length columns params [] (c ∷ cs) e = absurd (cc)
give_each-length columns params (x ∷ es) [] e = absurd (cc)
give_each-length columns params (x ∷ es) (c ∷ cs) e = ap (λ (k : ℕ). suc k) (give_each-length columns params es cs (and_parts _ (give_each columns params es cs) e).1)
