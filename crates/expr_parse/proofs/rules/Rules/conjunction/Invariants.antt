use Rattle.std.proofs.Common.{◌≡◌, ◌-◌}
use Rattle.sql_grammar.specs.declared.kind.Kind.TheVariants as k
use Rattle.sql_grammar.specs.Grammar.{parse, loop, at, skip}
use Rattle.expr_parse.specs.Expressions.{conjunction, negation, deeper}
use Rattle.expr_parse.specs.declared.expression.Expr.TheVariants.{And}
use Rattle.expr_parse.proofs.rules.Rules.conjunction.Given as goal

abbrev pub invariant-loop-turn : goal.invariant-loop-turn
invariant-loop-turn g l = parse (conjunction l.self.depth (deeper l.self.depth)) l.fn.tokens ≡ loop And (at (skip k.And (negation l.self.depth (deeper l.self.depth)))) (parse (skip k.And (negation l.self.depth (deeper l.self.depth)))) (l._turn-end - l._turn) l.left l.tokens
