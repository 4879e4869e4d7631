-- Operators that group to the left, with the first one of the text taken off or put on.
use Rattle.std.proofs.Common.{◌≡◌, refl, ℕ, ◌<◌, List, [], ◌∷◌, ◌++◌}
use denote.Ref.{Bor}
use Rattle.expr_parse.specs.declared.expression.Expr.{Expr, size-Expr}
use Rattle.sql_resolve.specs.declared.notes.Notes.{Notes}
use Rattle.sql_resolve.specs.declared.operands.Operator.{Operator}
use Rattle.sql_resolve.specs.declared.resolved.Resolved.{Resolved}
use Rattle.sql_resolve.specs.Expressions.{with, joined, meaning_of}
use Rattle.sql_resolve.specs.Named.{Tables}
use Rattle.sql_resolve.specs.Operands.{joined_all, AreBelow}

pub joined_all_append : (names : Tables) (found : Notes × Resolved) (xs : List (Operator × Bor Expr)) (x : Operator × Bor Expr)
    → joined_all names found (xs ++ x ∷ []) ≡ joined_all names (with found (joined x.0 (meaning_of names x.1.now))) xs
joined_all_append names found [] x = refl
joined_all_append names found (y ∷ xs) x = λ i. with (joined_all_append names found xs x i) (joined y.0 (meaning_of names y.1.now))

pub AreBelow_append : (n : ℕ) (xs : List (Operator × Bor Expr)) (x : Operator × Bor Expr) → AreBelow n xs → size-Expr x.1.now < n → AreBelow n (xs ++ x ∷ [])
AreBelow_append n [] x h p = (p, tt)
AreBelow_append n (y ∷ xs) x h p = (h.0, AreBelow_append n xs x h.1 p)

pub AreBelow_front : (n : ℕ) (xs : List (Operator × Bor Expr)) (x : Operator × Bor Expr) → AreBelow n (xs ++ x ∷ []) → AreBelow n xs
AreBelow_front n [] x h = tt
AreBelow_front n (y ∷ xs) x h = (h.0, AreBelow_front n xs x h.1)

pub AreBelow_last : (n : ℕ) (xs : List (Operator × Bor Expr)) (x : Operator × Bor Expr) → AreBelow n (xs ++ x ∷ []) → size-Expr x.1.now < n
AreBelow_last n [] x h = h.0
AreBelow_last n (y ∷ xs) x h = AreBelow_last n xs x h.1
