use Rattle.std.proofs.Common.{◌≡◌, ◌-◌}
use Rattle.sql_grammar.specs.declared.kind.Kind.TheVariants as k
use Rattle.sql_grammar.specs.Grammar.{parse, loop, at, skip}
use Rattle.expr_parse.specs.Expressions.{disjunction, conjunction, deeper}
use Rattle.expr_parse.specs.declared.expression.Expr.TheVariants.{Or}
use Rattle.expr_parse.proofs.rules.Rules.disjunction.Given as goal

abbrev pub invariant-loop-turn : goal.invariant-loop-turn
invariant-loop-turn g l = parse (disjunction l.self.depth (deeper l.self.depth)) l.fn.tokens ≡ loop Or (at (skip k.Or (conjunction l.self.depth (deeper l.self.depth)))) (parse (skip k.Or (conjunction l.self.depth (deeper l.self.depth)))) (l._turn-end - l._turn) l.left l.tokens
