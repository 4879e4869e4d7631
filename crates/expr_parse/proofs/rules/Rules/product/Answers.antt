use Rattle.sql_grammar.specs.Grammar.{parse, at, seq}
use Rattle.expr_parse.specs.Expressions.{scaling, signed, calculate, deeper}
use Rattle.expr_parse.proofs.Loops.{turned, seq_at, seq_read}
use Rattle.expr_parse.proofs.rules.Rules.product.Goals as goal

pub loop-turn-preserved : goal.loop-turn-preserved
loop-turn-preserved g c =
    let h = signed c.args.self.now.depth (deeper c.args.self.now.depth) in
    turned calculate (at (seq scaling h)) (parse (seq scaling h)) _ _ c.loop-turn._turn c.loop-turn.left c.loop-turn.tokens (c.in-Some.operator, c.in-Ok.right) _ _
    c.loop-turn-test.true c.loop-turn.invariant (seq_at scaling h c.loop-turn.tokens c.in-Some.ensures.0)
    (seq_read scaling h c.loop-turn.tokens _ _ c.in-Some.operator c.in-Ok.right c.in-Some.ensures.1 c.in-Ok.ensures) c.in_ok-left-2.ensures
