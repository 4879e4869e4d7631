-- Which joins of two partitioned tables each partition can make by itself.
use Rattle.std.specs.Prelude.{ℕ, Bool, true, false, ◌&&◌, ◌||◌, ◌==◌, if◌then◌else◌, List, [], ◌∷◌}
use Rattle.std.specs.List.{list_all}
use Rattle.expr_parse.specs.declared.expression.Comparison.{Comparison}
use Rattle.expr_parse.specs.declared.expression.Comparison.TheVariants as compare
use Rattle.sql_plan.specs.declared.expression.Scalar.{Scalar, fold-Scalar}
use Rattle.sql_plan.specs.declared.expression.Scalar.TheOpen.{Scalar-F as s}
use Rattle.sql_plan.specs.declared.expression.Cond.{Cond, fold-Cond}
use Rattle.sql_plan.specs.declared.expression.Cond.TheOpen.{Cond-F as c}
use Rattle.sql_check.specs.declared.distribution.Told.{Told}
use Rattle.sql_check.specs.declared.distribution.Told.TheVariants.{Yes, No, NotYet}

-- an expression without arithmetic
abbrev pub is_plain_step : s Bool → Bool
is_plain_step (s.Negate operand) = false
is_plain_step (s.Chain first rest) = false
is_plain_step _ = true

abbrev pub is_plain : Scalar → Bool
is_plain = fold-Scalar Bool is_plain_step

abbrev pub is_column_step : ℕ → s Bool → Bool
is_column_step n (s.Column m) = m == n
is_column_step n _ = false

abbrev pub is_column : ℕ → Scalar → Bool
is_column n = fold-Scalar Bool (is_column_step n)

abbrev pub is_equality : Comparison → Bool
is_equality compare.Equal = true
is_equality _ = false

-- the equality of two columns, in either order
abbrev pub equates : ℕ → ℕ → Comparison → Scalar → Scalar → Bool
equates left right op a b = is_equality op && ((is_column left a && is_column right b) || (is_column right a && is_column left b))

-- a condition: whether it is without arithmetic, and what its conjuncts tell behind those before them
pub record Part : Type 0 where
  pub plain : Bool
  pub tells : Told → Told

-- what a conjunct tells: the equality decides, unless one with arithmetic stands before it
abbrev pub told : Bool → Bool → Told → Told
told equal plain Yes = Yes
told equal plain No = No
told equal plain NotYet = if equal then Yes else (if plain then NotYet else No)

abbrev pub conjunct : Bool → Bool → Part
conjunct equal plain = record { plain = plain; tells = told equal plain }

abbrev pub all_plain : List Part → Bool
all_plain parts = list_all (λ part. part.plain) parts

-- conjuncts in their order
abbrev pub all_tell : List Part → Told → Told
all_tell [] so_far = so_far
all_tell (part ∷ parts) so_far = all_tell parts (part.tells so_far)

abbrev pub part_step : ℕ → ℕ → c Part → Part
part_step left right c.Unknown = conjunct false true
part_step left right (c.Compare op a b) = conjunct (equates left right op a b) (is_plain a && is_plain b)
part_step left right (c.IsNull value) = conjunct false (is_plain value)
part_step left right (c.Between value low high) = conjunct false (is_plain value && is_plain low && is_plain high)
part_step left right (c.In value items) = conjunct false (is_plain value && list_all is_plain items)
part_step left right (c.Not condition) = conjunct false condition.plain
part_step left right (c.And conditions) = record { plain = all_plain conditions; tells = all_tell conditions }
part_step left right (c.Or conditions) = conjunct false (all_plain conditions)

abbrev pub part_of : ℕ → ℕ → Cond → Part
part_of left right = fold-Cond Part (part_step left right)

abbrev pub is_yes : Told → Bool
is_yes Yes = true
is_yes _ = false

-- the conjuncts of ON followed by those of WHERE hold an equality of both columns which only conjuncts without arithmetic precede
abbrev pub tell_parts : ℕ → ℕ → Cond → Cond → Bool
tell_parts left right on filter = is_yes ((part_of left right filter).tells ((part_of left right on).tells NotYet))
