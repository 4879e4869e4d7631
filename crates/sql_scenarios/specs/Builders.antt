-- Short forms for rows, expressions and statements, and what is said of a statement.
use Rattle.std.specs.Prelude.{◌≡◌, ℕ, Bool, List, [], ◌∷◌, map, pos, None, Ok, Err}
use Rattle.volt_value.specs.declared.value.Value.{Value}
use Rattle.volt_value.specs.declared.value.Value.TheVariants.{Null, Int}
use Rattle.volt_value.specs.declared.column.Class.TheVariants as class
use Rattle.volt_catalog.specs.Rules.{Contents}
use Rattle.expr_parse.specs.declared.expression.Arithmetic.TheVariants.{Multiply, Divide}
use Rattle.sql_plan.specs.declared.fault.Fault.{Fault}
use Rattle.sql_plan.specs.declared.expression.Scalar.{Scalar}
use Rattle.sql_plan.specs.declared.expression.Scalar.TheVariants.{Literal, Chain}
use Rattle.sql_plan.specs.declared.prepared.Action.{Action}
use Rattle.sql_plan.specs.declared.prepared.Prepared.{Prepared}
use Rattle.sql_plan.specs.declared.prepared.Scope.{Scope}
use Rattle.sql_plan.specs.declared.prepared.Scope.TheVariants.{AllPartitions}
use Rattle.sql_plan.specs.declared.select.Order.{Order}
use Rattle.sql_plan.specs.declared.select.OrderBy.TheVariants.{Output}
use Rattle.sql_plan.specs.Rows.{Cells}
use Rattle.sql_meaning.specs.Database.{Database, share}
use Rattle.sql_meaning.specs.Statements.{means}
use Rattle.sql_meaning.specs.Parts.{given_by_parts}
use Rattle.sql_meaning.specs.WellFormed.{modified_tuples}

-- ---- rows

abbrev pub int : ℕ → Value
int n = Int (pos n)

-- rows of one number each
abbrev pub ids : List ℕ → List Cells
ids ns = map (λ n. int n ∷ []) ns

-- the row of a statement that changes a table
abbrev pub counted : ℕ → List Cells
counted n = ids (n ∷ [])

-- ---- expressions

abbrev pub num : ℕ → Scalar
num n = Literal (Int (pos n))

abbrev pub null : Scalar
null = Literal Null

abbrev pub divided : Scalar → Scalar → Scalar
divided x y = Chain x ((Divide, y) ∷ [])

abbrev pub multiplied : Scalar → Scalar → Scalar
multiplied x y = Chain x ((Multiply, y) ∷ [])

-- out of range
abbrev pub too_great : Scalar
too_great = multiplied (num 9223372036854775807) (num 2)

-- ---- statements

-- a statement without parameters, on all partitions, whose columns are integers of these names
abbrev pub reading : List (List ℕ) → Action → Prepared
reading names action = record { scope = AllPartitions; params = []; columns = map (λ name. (name, class.Int)) names; action = action }

abbrev pub changing : Scope → Action → Prepared
changing scope action = record { scope = scope; params = []; columns = modified_tuples; action = action }

abbrev pub by_output : ℕ → Bool → Order
by_output n descending = record { by = Output n; descending = descending }

-- ---- what is said of a statement without arguments, on the whole database

-- it gives rows, and changes nothing
abbrev pub Gives : Contents → Prepared → Database → List Cells → Type 0
Gives catalog statement db rows = means 3 catalog None statement [] db ≡ Ok (db, rows)

-- it makes another database
abbrev pub Makes : Contents → Prepared → Database → Database → ℕ → Type 0
Makes catalog statement db new count = means 3 catalog None statement [] db ≡ Ok (new, counted count)

-- it has a fault
abbrev pub Fails : Contents → Prepared → Database → Fault → Type 0
Fails catalog statement db fault = means 3 catalog None statement [] db ≡ Err fault

-- the parts of so many partitions, put together
abbrev pub PartsGive : ℕ → Contents → Prepared → Database → List Cells → Type 0
PartsGive parts catalog statement db rows = given_by_parts parts catalog statement [] (λ part. share parts catalog part db) ≡ Ok rows

abbrev pub PartsFail : ℕ → Contents → Prepared → Database → Fault → Type 0
PartsFail parts catalog statement db fault = given_by_parts parts catalog statement [] (λ part. share parts catalog part db) ≡ Err fault
