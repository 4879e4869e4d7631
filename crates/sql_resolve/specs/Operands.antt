-- Operators that group to the left, from the leftmost operand on.
use Rattle.std.specs.Prelude.{ℕ, ◌<◌, Bool, true, false, List, [], ◌∷◌}
use denote.Ref.{Bor}
use Rattle.expr_parse.specs.declared.expression.Expr.{Expr, fold-Expr, size-Expr}
use Rattle.expr_parse.specs.declared.expression.Expr.TheOpen.{Expr-F as e}
use Rattle.sql_resolve.specs.declared.notes.Notes.{Notes}
use Rattle.sql_resolve.specs.declared.operands.Operator.{Operator}
use Rattle.sql_resolve.specs.declared.resolved.Resolved.{Resolved}
use Rattle.sql_resolve.specs.Named.{Tables}
use Rattle.sql_resolve.specs.Expressions.{with, joined, meaning_of}

-- whether an expression is an operator that groups to the left, with its operands
abbrev pub is_operator_step : e Bool → Bool
is_operator_step (e.Calculate op left right) = true
is_operator_step (e.And left right) = true
is_operator_step (e.Or left right) = true
is_operator_step _ = false

abbrev pub is_operator : Expr → Bool
is_operator = fold-Expr Bool is_operator_step

-- operators with their right operands, the last one of the text first, behind what stands on the left of all
abbrev pub joined_all : Tables → Notes × Resolved → List (Operator × Bor Expr) → Notes × Resolved
joined_all names found [] = found
joined_all names found (next ∷ rest) = with (joined_all names found rest) (joined next.0 (meaning_of names next.1.now))

-- each right operand is of a size below n
abbrev pub AreBelow : ℕ → List (Operator × Bor Expr) → Type 0
AreBelow n [] = Unit {0}
AreBelow n (next ∷ rest) = (size-Expr next.1.now < n) × AreBelow n rest
