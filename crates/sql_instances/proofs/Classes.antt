-- Whether steps and their classes fit, variant by variant.
use Rattle.std.proofs.Common.{◌≡◌, ℕ, Bool, List, map, Option, ap}
use Rattle.volt_value.specs.declared.column.Class.{Class}
use Rattle.sql_plan.specs.declared.expression.Scalar.{Scalar}
use Rattle.sql_plan.specs.declared.expression.Cond.{Cond}
use Rattle.sql_plan.specs.declared.prepared.Prepared.{Prepared}
use Rattle.sql_plan.specs.declared.program.ProgramStep.{ProgramStep}
use Rattle.sql_plan.specs.declared.program.ProgramStep.TheOpen.{ProgramStep-F as p}
use Rattle.sql_plan.specs.declared.program.ProgramStep.TheVariants as program
use Rattle.sql_plan.specs.declared.program.ProgramValue.{ProgramValue}
use Rattle.sql_plan.specs.declared.program.Returned.{Returned}
use Rattle.sql_meaning.specs.Plans.{Names, fits_step, step_fits}
use Rattle.sql_meaning.proofs.Classes.{gives_Literal, gives_Column, gives_Param, gives_Chain}
use Rattle.sql_meaning.proofs.Trees.{fold_Let, fold_Sql, fold_If, fold_Abort, fold_Return, trees}

abbrev Fits : Type 0
Fits = List (List Class) → Bool

module _ (names : Names) (statements : List Prepared) (rows : List (List Class)) where
  pub fits_Let : (n : ℕ) (args : List ProgramValue) (e : Scalar) → step_fits names statements (program.Let n args e) rows ≡ fits_step names statements (p.Let n args e) rows
  fits_Let n args e = ap (λ f. f rows) (fold_Let Fits (fits_step names statements) n args e)

  pub fits_Sql : (n : ℕ) (args : List ProgramValue) (result : Option ℕ) → step_fits names statements (program.Sql n args result) rows ≡ fits_step names statements (p.Sql n args result) rows
  fits_Sql n args result = ap (λ f. f rows) (fold_Sql Fits (fits_step names statements) n args result)

  pub fits_If : (args : List ProgramValue) (condition : Cond) (xs ys : List ProgramStep)
      → step_fits names statements (program.If args condition xs ys) rows ≡ fits_step names statements (p.If args condition (map (step_fits names statements) xs) (map (step_fits names statements) ys)) rows
  fits_If args condition xs ys = ap (λ f. f rows) (fold_If Fits (fits_step names statements) args condition xs ys)

  pub fits_Abort : (text : List ℕ) → step_fits names statements (program.Abort text) rows ≡ fits_step names statements (p.Abort text) rows
  fits_Abort text = ap (λ f. f rows) (fold_Abort Fits (fits_step names statements) text)

  pub fits_Return : (what : Returned) → step_fits names statements (program.Return what) rows ≡ fits_step names statements (p.Return what) rows
  fits_Return what = ap (λ f. f rows) (fold_Return Fits (fits_step names statements) what)

pub ruleset classes = (gives_Literal, gives_Column, gives_Param, gives_Chain, fits_Let, fits_Sql, fits_If, fits_Abort, fits_Return, trees)
