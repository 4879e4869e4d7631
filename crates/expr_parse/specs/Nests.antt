-- A function value that reads what nests in an expression.
use Rattle.std.specs.Prelude.{◌<◌, ℕ, ◌-◌, List, Result}
use Rattle.std.specs.declared.alloc.Global.{Global}
use denote.Ref.{MutBor}
use Rattle.sql_grammar.specs.Grammar.{Tok, parse}
use Rattle.expr_parse.specs.declared.expression.Expr.{Expr}
use Rattle.expr_parse.specs.declared.fault.Fault.{Fault}
use Rattle.expr_parse.specs.declared.levels.Level.{Level}
use Rattle.expr_parse.specs.Reads.{Reads}
use Rattle.expr_parse.specs.Expressions.{deeper}

-- it may be called for each level of one nesting further in, and reads by its rule
pub record Nests (depth : ℕ) (pre : Global → MutBor (List Tok) → ℕ → Level → Type 0)
    (post : Global → MutBor (List Tok) → ℕ → Level → Result Expr Fault → MutBor (List Tok) → Type 0) : Type 0 where
  pub callable : 0 < depth → (alloc : Global) (old : MutBor (List Tok)) (l : Level) → pre alloc old (depth - 1) l
  pub reads : 0 < depth → (alloc : Global) (old new : MutBor (List Tok)) (l : Level) (r : Result Expr Fault)
      → post alloc old (depth - 1) l r new → Reads (parse (deeper depth l) old.now) r new.now
