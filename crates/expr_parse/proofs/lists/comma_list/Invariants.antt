use Rattle.std.proofs.Common.{◌≡◌, ◌-◌, List}
use Rattle.sql_grammar.specs.Grammar.{Tok, Outcome}
use Rattle.expr_parse.specs.CommaLists.{IsReadBy, comma_list}
use Rattle.expr_parse.proofs.CommaLists.{Turns}
use Rattle.expr_parse.proofs.lists.comma_list.Given as goal

abbrev pub invariant-loop-turn : goal.invariant-loop-turn
invariant-loop-turn g l = (read : List Tok → Outcome _) → IsReadBy read (goal.F-post g l.item) → comma_list read l.fn.tokens ≡ Turns read (l._turn-end - l._turn) l.found l.tokens
