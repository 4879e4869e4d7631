-- A function value that reads the steps in a step.
use Rattle.std.specs.Prelude.{ℕ, List, Result}
use Rattle.std.specs.declared.alloc.Global.{Global}
use denote.Ref.{MutBor}
use Rattle.sql_grammar.specs.Grammar.{Tok, parse}
use Rattle.expr_parse.specs.declared.fault.Fault.{Fault}
use Rattle.ddl_parse.specs.declared.procedure.StepText.{StepText}
use Rattle.expr_parse.specs.Reads.{Reads}
use Rattle.ddl_parse.specs.Procedures.{steps}

-- it may be called where so many nestings are left, and reads steps by their rule
pub record NestsSteps (depth : ℕ) (pre : Global → MutBor (List Tok) → ℕ → Type 0)
    (post : Global → MutBor (List Tok) → ℕ → Result (List StepText) Fault → MutBor (List Tok) → Type 0) : Type 0 where
  pub callable : (alloc : Global) (old : MutBor (List Tok)) → pre alloc old depth
  pub reads : (alloc : Global) (old new : MutBor (List Tok)) (r : Result (List StepText) Fault)
      → post alloc old depth r new → Reads (parse (steps depth) old.now) r new.now
