use Rattle.sql_grammar.specs.Grammar.{parse, at, seq}
use Rattle.expr_parse.specs.Expressions.{adding, product, calculate, deeper}
use Rattle.expr_parse.proofs.Loops.{turned, seq_at, seq_read}
use Rattle.expr_parse.proofs.rules.Rules.sum.Goals as goal

pub loop-turn-preserved : goal.loop-turn-preserved
loop-turn-preserved g c =
    let h = product c.args.self.now.depth (deeper c.args.self.now.depth) in
    turned calculate (at (seq adding h)) (parse (seq adding h)) _ _ c.loop-turn._turn c.loop-turn.left c.loop-turn.tokens (c.in-Some.operator, c.in-Ok.right) _ _
    c.loop-turn-test.true c.loop-turn.invariant (seq_at adding h c.loop-turn.tokens c.in-Some.ensures.0)
    (seq_read adding h c.loop-turn.tokens _ _ c.in-Some.operator c.in-Ok.right c.in-Some.ensures.1 c.in-Ok.ensures) c.in_ok-left-2.ensures
