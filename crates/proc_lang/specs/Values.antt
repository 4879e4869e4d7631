-- Expressions of steps. They are over no table, and a value of the program may stand in them.
use Rattle.std.specs.Prelude.{Bool, true, false, List, [], ◌∷◌, Some}
use Rattle.volt_value.specs.declared.value.Value.TheVariants as v
use Rattle.expr_parse.specs.declared.expression.Expr.{Expr}
use Rattle.sql_plan.specs.declared.expression.Scalar.{Scalar}
use Rattle.sql_plan.specs.declared.expression.Scalar.TheVariants as s
use Rattle.sql_plan.specs.declared.expression.Cond.{Cond}
use Rattle.sql_plan.specs.declared.expression.Cond.TheVariants as c
use Rattle.sql_resolve.specs.declared.bound.Bound.{Bound}
use Rattle.sql_resolve.specs.declared.notes.Notes.{Notes}
use Rattle.sql_resolve.specs.declared.sort.Sort.{Sort}
use Rattle.sql_resolve.specs.declared.sort.Sort.TheVariants.{Null, Truth}
use Rattle.sql_resolve.specs.Expressions.{Meaning, with, meaning_of, alone_in, cond_in}
use Rattle.sql_resolve.specs.Named.{Tables, no_tables, in_program}

abbrev pub names_of : Bound → Tables
names_of bound = in_program (Some bound) no_tables

abbrev pub is_truth : Sort → Bool
is_truth Truth = true
is_truth _ = false

-- NULL is a truth value too
abbrev pub may_be_truth : Sort → Bool
may_be_truth Truth = true
may_be_truth Null = true
may_be_truth _ = false

-- nothing, in place of a truth value where a value stands, which is a fault elsewhere
abbrev pub no_value : Cond → Notes → Notes × Scalar
no_value condition notes = (notes, s.Literal v.Null)

abbrev pub value_by : Bool → Meaning → Notes → Notes × Scalar
value_by true e notes = with (cond_in e notes) no_value
value_by false e notes = alone_in e notes

-- the value of a LET. That a truth value is none is told by `is_truth`.
abbrev pub value_in : Meaning → Notes → Notes × Scalar
value_in e = value_by (is_truth e.sort) e

-- unknown, in place of a value where a condition stands, which is a fault elsewhere
abbrev pub no_condition : Scalar → Notes → Notes × Cond
no_condition value notes = (notes, c.Unknown)

abbrev pub condition_by : Bool → Meaning → Notes → Notes × Cond
condition_by true e notes = cond_in e notes
condition_by false e notes = with (alone_in e notes) no_condition

-- the condition of an IF. That a value is none is told by `may_be_truth`.
abbrev pub condition_in : Meaning → Notes → Notes × Cond
condition_in e = condition_by (may_be_truth e.sort) e

-- the values of a RETURN, from left to right
abbrev pub values_in : Tables → List Expr → Notes → Notes × List Scalar
values_in names [] notes = (notes, [])
values_in names (e ∷ es) notes =
    with (alone_in (meaning_of names e) notes) (λ x notes. with (values_in names es notes) (λ xs notes. (notes, x ∷ xs)))
