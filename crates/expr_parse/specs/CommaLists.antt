-- Lists with commas, whatever their items are.
use Rattle.std.specs.Prelude.{List, [], ◌∷◌, length, Result, Ok}
use Rattle.std.specs.declared.alloc.Global.{Global}
use denote.Ref.{MutBor}
use Rattle.sql_grammar.specs.declared.kind.Kind.TheVariants.{Comma}
use Rattle.sql_grammar.specs.Grammar.{Tok, Outcome, and_then, after_tok, loop, next_is, joined}
use Rattle.expr_parse.specs.declared.fault.Fault.{Fault}
use Rattle.expr_parse.specs.Reads.{Reads}

-- what calls of a function value answer and leave is read like this
abbrev pub IsReadBy : {A : Type 0} → (List Tok → Outcome A) → (Global → MutBor (List Tok) → Result A Fault → MutBor (List Tok) → Type 0) → Type 0
IsReadBy read post = (alloc : Global) (old new : MutBor (List Tok)) (r : Result _ Fault) → post alloc old r new → Reads (read old.now) r new.now

-- reads one or more items with commas between them, where an item is read like this: what `parse` does by the rule `listed`
abbrev pub comma_list : {A : Type 0} → (List Tok → Outcome A) → List Tok → Outcome (List A)
comma_list read ts =
    and_then (and_then (read ts) (λ x rest. Ok (x ∷ [], rest)))
    (λ xs rest. loop joined (next_is Comma) (after_tok Comma read) (length rest) xs rest)
