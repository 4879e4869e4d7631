use Rattle.std.proofs.Common.{◌≡◌, true, rules}
use Rattle.sql_grammar.specs.declared.kind.Kind.TheVariants as k
use Rattle.sql_grammar.specs.Grammar.{parse, at, skip}
use Rattle.expr_parse.specs.Expressions.{negation, deeper}
use Rattle.expr_parse.specs.declared.expression.Expr.TheVariants.{And}
use Rattle.expr_parse.proofs.Loops.{turned, eaten_at, eaten_read}
use Rattle.expr_parse.proofs.rules.Rules.conjunction.Goals as goal

pub loop-turn-preserved : goal.loop-turn-preserved
loop-turn-preserved g c =
    let h = negation c.args.self.now.depth (deeper c.args.self.now.depth) in
    let yes : c.eat.result ≡ true = search rules in
    turned And (at (skip k.And h)) (parse (skip k.And h)) _ _ c.loop-turn._turn c.loop-turn.left c.loop-turn.tokens c.in-Ok.right _ _
    c.loop-turn-test.true c.loop-turn.invariant (eaten_at k.And h c.loop-turn.tokens _ c.eat.result yes c.eat.ensures)
    (eaten_read k.And h c.loop-turn.tokens _ _ c.eat.result c.in-Ok.right yes c.eat.ensures c.in-Ok.ensures) c.in_ok-left-2.ensures
