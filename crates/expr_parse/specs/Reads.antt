-- What the code reads, beside what the grammar says.
use Rattle.std.specs.Prelude.{◌≡◌, ℕ, true, false, List, Result, Ok, Err, Option, Some, None}
use Rattle.sql_grammar.specs.Grammar.{G, Tok, Outcome, and_then, at, parse}
use Rattle.expr_parse.specs.declared.fault.ParseFault.{ParseFault}
use Rattle.expr_parse.specs.declared.fault.ParseFault.TheVariants as out
use Rattle.expr_parse.specs.declared.fault.Fault.{Fault}
use Rattle.expr_parse.specs.declared.fault.Fault.TheVariants as fault

-- what was read is this outcome: the value and the tokens that are left, or the tokens from the first one on that
-- doesn't fit. Of running out of memory nothing is said
abbrev pub Reads : {A : Type 0} → Outcome A → Result A Fault → List Tok → Type 0
Reads outcome (Ok a) new = outcome ≡ Ok (a, new)
Reads outcome (Err fault.Syntax) new = outcome ≡ Err new
Reads outcome (Err fault.NoMemory) new = Unit {0}

-- the outcome of a rule that makes something of this value
abbrev pub applied : {A B : Type 0} → A → Outcome (A → B) → Outcome B
applied value outcome = and_then outcome (λ f rest. Ok (f value, rest))

-- a rule of one token was read, or the next token doesn't begin it
abbrev pub Chooses : {A : Type 0} → G A → Option A → List Tok → List Tok → Type 0
Chooses g (Some x) old new = (at g old ≡ true) × (parse g old ≡ Ok (x, new))
Chooses g None old new = (at g old ≡ false) × (new ≡ old)

-- the answer where reading ended at this token
abbrev pub refused_at : Fault → ℕ → ParseFault
refused_at fault.Syntax place = out.Syntax place
refused_at fault.NoMemory place = out.NoMemory
