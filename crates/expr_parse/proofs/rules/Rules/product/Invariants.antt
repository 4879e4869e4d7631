use Rattle.std.proofs.Common.{◌≡◌, ◌-◌}
use Rattle.sql_grammar.specs.Grammar.{parse, loop, at, seq}
use Rattle.expr_parse.specs.Expressions.{product, signed, scaling, calculate, deeper}
use Rattle.expr_parse.proofs.rules.Rules.product.Given as goal

abbrev pub invariant-loop-turn : goal.invariant-loop-turn
invariant-loop-turn g l = parse (product l.self.depth (deeper l.self.depth)) l.fn.tokens ≡ loop calculate (at (seq scaling (signed l.self.depth (deeper l.self.depth)))) (parse (seq scaling (signed l.self.depth (deeper l.self.depth)))) (l._turn-end - l._turn) l.left l.tokens
