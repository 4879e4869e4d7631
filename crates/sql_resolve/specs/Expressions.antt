-- What expressions stand for: values and truth values with each column by its number, and what is found
-- out about them from left to right.
use Rattle.std.specs.Prelude.{ℕ, Bool, true, false, if◌then◌else◌, List, [], ◌∷◌, ◌++◌, map, is_some, Option, Some, None}
use Rattle.volt_value.specs.declared.value.Value.TheVariants as v
use Rattle.volt_value.specs.declared.column.Class.{Class}
use Rattle.volt_value.specs.declared.column.Class.TheVariants as class
use Rattle.expr_parse.specs.declared.expression.Arithmetic.{Arithmetic}
use Rattle.expr_parse.specs.declared.expression.Arithmetic.TheVariants as op
use Rattle.expr_parse.specs.declared.expression.Comparison.{Comparison}
use Rattle.expr_parse.specs.declared.expression.Expr.{Expr, fold-Expr}
use Rattle.expr_parse.specs.declared.expression.Expr.TheOpen.{Expr-F as e}
use Rattle.sql_plan.specs.declared.expression.Scalar.{Scalar}
use Rattle.sql_plan.specs.declared.expression.Scalar.TheVariants as s
use Rattle.sql_plan.specs.declared.expression.Cond.{Cond}
use Rattle.sql_plan.specs.declared.expression.Cond.TheVariants as c
use Rattle.sql_resolve.specs.declared.bound.Given.{Given}
use Rattle.sql_resolve.specs.declared.bound.Given.TheVariants as g
use Rattle.sql_resolve.specs.declared.fault.CheckFault.TheVariants.{NoSuchName, TypeMismatch, UnboundName}
use Rattle.sql_resolve.specs.declared.names.FoundColumn.{FoundColumn}
use Rattle.sql_resolve.specs.declared.notes.Notes.{Notes}
use Rattle.sql_resolve.specs.declared.operands.Operator.{Operator}
use Rattle.sql_resolve.specs.declared.operands.Operator.TheVariants as operator
use Rattle.sql_resolve.specs.declared.resolved.Resolved.{Resolved}
use Rattle.sql_resolve.specs.declared.resolved.Resolved.TheVariants as r
use Rattle.sql_resolve.specs.declared.resolved.RightSide.{RightSide}
use Rattle.sql_resolve.specs.declared.resolved.RightSide.TheVariants as side
use Rattle.sql_resolve.specs.declared.sort.Sort.{Sort}
use Rattle.sql_resolve.specs.declared.sort.Sort.TheVariants.{Value, Null, Open, Truth}
use Rattle.sql_resolve.specs.Named.{Tables}
use Rattle.sql_resolve.specs.Names.{column_of, variable_in, row_column_in, rows_in, first_in}
use Rattle.sql_resolve.specs.Notes.{blamed, fitted, with_param, with_place, strayed}

-- ---- what an expression gives

-- a name that stands for no column is a fault, whatever it gives
abbrev pub sort_of_found : Option FoundColumn → Sort
sort_of_found None = Value class.Int
sort_of_found (Some column) = Value column.class

-- a name of a program that stands for nothing is a fault; beside that it fits everywhere, as NULL does
abbrev pub sort_of_given : Given → Sort
sort_of_given (g.Value x class) = Value class
sort_of_given _ = Null

-- the class of a value, where it has one
abbrev pub class_in : Sort → Option Class
class_in (Value class) = Some class
class_in _ = None

-- the class of a value that stands by itself: NULL is an integer
abbrev pub own_class : Sort → Class
own_class (Value class) = class
own_class _ = class.Int

-- a `?` and a truth value don't stand by themselves
abbrev pub stands_alone : Sort → Bool
stands_alone (Value class) = true
stands_alone Null = true
stands_alone _ = false

-- the class of values that are compared: that of the first one which has a class, and else integers
abbrev pub common : List Sort → Class
common [] = class.Int
common (Value class ∷ sorts) = class
common (_ ∷ sorts) = common sorts

-- ---- what an expression stands for

-- what was found, and then what is made of it
abbrev pub with : {A B : Type 0} → Notes × A → (A → Notes → Notes × B) → Notes × B
with found go = go found.1 found.0

-- where a value stands no truth value may
abbrev pub as_scalar : Resolved → Notes → Notes × Scalar
as_scalar r.Null notes = (notes, s.Literal v.Null)
as_scalar (r.Value x) notes = (notes, x)
as_scalar (r.Chain first rest) notes = (notes, s.Chain first rest)
as_scalar _ notes = (blamed TypeMismatch notes, s.Literal v.Null)

-- where a truth value stands no value may; NULL is the unknown one
abbrev pub as_cond : Resolved → Notes → Notes × Cond
as_cond r.Null notes = (notes, c.Unknown)
as_cond (r.Truth x) notes = (notes, x)
as_cond (r.And xs) notes = (notes, c.And xs)
as_cond (r.Or xs) notes = (notes, c.Or xs)
as_cond _ notes = (blamed TypeMismatch notes, c.Unknown)

-- an expression: what it gives, and what it stands for where a value of a class is wanted; and again what one stands
-- for that is no operator which groups to the left, and what a NOT or a test does, of which others say nothing
pub record Meaning : Type 0 where
  pub sort : Sort
  pub resolve : Class → Notes → Notes × Resolved
  pub single : Class → Notes → Notes × Resolved
  pub test : Notes → Notes × Resolved

abbrev pub says_nothing : Notes → Notes × Resolved
says_nothing notes = (notes, r.Null)

abbrev pub scalar_in : Meaning → Class → Notes → Notes × Scalar
scalar_in e class notes = with (e.resolve class notes) as_scalar

abbrev pub cond_in : Meaning → Notes → Notes × Cond
cond_in e notes = with (e.resolve class.Int notes) as_cond

abbrev pub noted_alone : Sort → Notes → Notes
noted_alone sort notes = if stands_alone sort then notes else blamed TypeMismatch notes

-- a value that stands by itself
abbrev pub alone_in : Meaning → Notes → Notes × Scalar
alone_in e notes = scalar_in e (own_class e.sort) (noted_alone e.sort notes)

-- values of one class
abbrev pub scalars_in : List Meaning → Class → Notes → Notes × List Scalar
scalars_in [] class notes = (notes, [])
scalars_in (e ∷ es) class notes =
    with (scalar_in e class notes) (λ x notes. with (scalars_in es class notes) (λ xs notes. (notes, x ∷ xs)))

-- a column by its number
abbrev pub column_found : Option FoundColumn → Class → Notes → Notes × Resolved
column_found None class notes = (blamed NoSuchName notes, r.Null)
column_found (Some column) class notes = (fitted column.class class notes, r.Value (s.Column column.number))

-- whether an operation is written as `+` and `-` are
abbrev pub is_sum : Arithmetic → Bool
is_sum op.Add = true
is_sum op.Subtract = true
is_sum _ = false

-- operations that group alike
abbrev pub group_alike : Arithmetic → List (Arithmetic × Scalar) → Bool
group_alike op [] = true
group_alike op (next ∷ rest) = if is_sum op then is_sum next.0 else (if is_sum next.0 then false else true)

-- an operation behind what stands on its left: one more of a chain, or the first of one
abbrev pub chained : Arithmetic → Resolved → Scalar → Notes → Notes × Resolved
chained op (r.Chain first rest) right notes =
    (notes, if group_alike op rest then r.Chain first (rest ++ (op, right) ∷ []) else r.Chain (s.Chain first rest) ((op, right) ∷ []))
chained op left right notes = with (as_scalar left notes) (λ x notes. (notes, r.Chain x ((op, right) ∷ [])))

abbrev pub conjoined : Resolved → Cond → Notes → Notes × Resolved
conjoined (r.And conditions) right notes = (notes, r.And (conditions ++ right ∷ []))
conjoined left right notes = with (as_cond left notes) (λ x notes. (notes, r.And (x ∷ right ∷ [])))

abbrev pub disjoined : Resolved → Cond → Notes → Notes × Resolved
disjoined (r.Or conditions) right notes = (notes, r.Or (conditions ++ right ∷ []))
disjoined left right notes = with (as_cond left notes) (λ x notes. (notes, r.Or (x ∷ right ∷ [])))

abbrev pub negated_if : Bool → Cond → Cond
negated_if true condition = c.Not condition
negated_if false condition = condition

-- an operator with its right operand
abbrev pub right_side : Operator → Meaning → Notes → Notes × RightSide
right_side (operator.Calculate op) right notes = with (scalar_in right class.Int notes) (λ x notes. (notes, side.Calculate op x))
right_side operator.And right notes = with (cond_in right notes) (λ x notes. (notes, side.And x))
right_side operator.Or right notes = with (cond_in right notes) (λ x notes. (notes, side.Or x))

-- an operator with its right operand, behind what stands on its left
abbrev pub joined_to : Resolved → RightSide → Notes → Notes × Resolved
joined_to left (side.Calculate op x) = chained op left x
joined_to left (side.And x) = conjoined left x
joined_to left (side.Or x) = disjoined left x

abbrev pub joined : Operator → Meaning → Resolved → Notes → Notes × Resolved
joined operator right left notes = with (right_side operator right notes) (joined_to left)

abbrev pub joined_at : Operator → Meaning → Meaning → Notes → Notes × Resolved
joined_at operator left right notes = with (left.resolve class.Int notes) (joined operator right)

abbrev pub comparing : Comparison → Meaning → Meaning → Notes → Notes × Resolved
comparing op a b notes =
    let class = common (a.sort ∷ b.sort ∷ []) in
    with (scalar_in a class notes) (λ x notes. with (scalar_in b class notes) (λ y notes. (notes, r.Truth (c.Compare op x y))))

abbrev pub between : Meaning → Meaning → Meaning → Bool → Notes → Notes × Resolved
between e low high negated notes =
    let class = common (e.sort ∷ low.sort ∷ high.sort ∷ []) in
    with (scalar_in e class notes) (λ x notes. with (scalar_in low class notes) (λ y notes. with (scalar_in high class notes) (λ z notes.
    (notes, r.Truth (negated_if negated (c.Between x y z))))))

abbrev pub contained : Meaning → List Meaning → Bool → Notes → Notes × Resolved
contained e items negated notes =
    let class = common (e.sort ∷ map (λ item. item.sort) items) in
    with (scalar_in e class notes) (λ x notes. with (scalars_in items class notes) (λ xs notes. (notes, r.Truth (negated_if negated (c.In x xs)))))

abbrev pub operand : Sort → (Class → Notes → Notes × Resolved) → Meaning
operand sort resolve = record { sort = sort; resolve = resolve; single = resolve; test = says_nothing }

abbrev pub value : Class → (Class → Notes → Notes × Resolved) → Meaning
value class = operand (Value class)

abbrev pub operation : Sort → (Class → Notes → Notes × Resolved) → Meaning
operation sort resolve = record { sort = sort; resolve = resolve; single = λ wanted. says_nothing; test = says_nothing }

abbrev pub test : (Notes → Notes × Resolved) → Meaning
test resolve = record { sort = Truth; resolve = λ wanted. resolve; single = λ wanted. resolve; test = resolve }

-- the number of the parameter that a `?` is, where a value of a class is wanted; in a program it is none
abbrev pub question : Bool → Class → Notes → Notes × Option ℕ
question true wanted notes = (strayed notes, None)
question false wanted notes = with (with_param wanted notes) (λ n notes. (notes, Some n))

-- the number of the place that takes a value of a program, where one of a class is wanted
abbrev pub taken : Given → Class → Notes → Notes × Option ℕ
taken g.Unbound wanted notes = (blamed UnboundName notes, None)
taken g.NoColumn wanted notes = (blamed NoSuchName notes, None)
taken (g.Value x class) wanted notes = with (with_place x class (fitted class wanted notes)) (λ n notes. (notes, Some n))

abbrev pub param_at : Option ℕ → Resolved
param_at None = r.Null
param_at (Some n) = r.Value (s.Param n)

abbrev pub as_param : Option ℕ → Notes → Notes × Resolved
as_param n notes = (notes, param_at n)

-- a value of a program
abbrev pub given : Given → Meaning
given x = operand (sort_of_given x) (λ wanted notes. with (taken x wanted notes) as_param)

-- an expression whose operands have their meaning already
abbrev pub meaning_step : Tables → e Meaning → Meaning
meaning_step names (e.Number z) = value class.Int (λ wanted notes. (fitted class.Int wanted notes, r.Value (s.Literal (v.Int z))))
meaning_step names (e.Text t) = value class.Text (λ wanted notes. (fitted class.Text wanted notes, r.Value (s.Literal (v.Text t))))
meaning_step names e.Null = operand Null (λ wanted notes. (notes, r.Null))
meaning_step names e.Parameter = operand Open (λ wanted notes. with (question (is_some names.program) wanted notes) as_param)
meaning_step names (e.Column name) = operand (sort_of_found (column_of names name)) (column_found (column_of names name))
meaning_step names (e.Parenthesized inner) = operand inner.sort inner.resolve
meaning_step names (e.Variable v) = given (variable_in names.program v)
meaning_step names (e.RowColumn r c) = given (row_column_in names.program r c)
meaning_step names (e.Rows r) = given (rows_in names.program r)
meaning_step names (e.First r c) = given (first_in names.program r c)
meaning_step names (e.Negate x) = value class.Int (λ wanted notes. with (scalar_in x class.Int (fitted class.Int wanted notes)) (λ x notes. (notes, r.Value (s.Negate x))))
meaning_step names (e.Calculate op x y) = operation (Value class.Int) (λ wanted notes. joined_at (operator.Calculate op) x y (fitted class.Int wanted notes))
meaning_step names (e.Compare op x y) = test (comparing op x y)
meaning_step names (e.IsNull x negated) = test (λ notes. with (alone_in x notes) (λ x notes. (notes, r.Truth (negated_if negated (c.IsNull x)))))
meaning_step names (e.Between x low high negated) = test (between x low high negated)
meaning_step names (e.In x items negated) = test (contained x items negated)
meaning_step names (e.Not x) = test (λ notes. with (cond_in x notes) (λ x notes. (notes, r.Truth (negated_if true x))))
meaning_step names (e.And x y) = operation Truth (λ wanted. joined_at operator.And x y)
meaning_step names (e.Or x y) = operation Truth (λ wanted. joined_at operator.Or x y)

abbrev pub meaning_of : Tables → Expr → Meaning
meaning_of names = fold-Expr Meaning (meaning_step names)

abbrev pub sort_of : Tables → Expr → Sort
sort_of names expr = (meaning_of names expr).sort
