use Rattle.std.proofs.Common.{◌≡◌, true, rules}
use Rattle.sql_grammar.specs.declared.kind.Kind.TheVariants as k
use Rattle.sql_grammar.specs.Grammar.{parse, at, skip}
use Rattle.expr_parse.specs.Expressions.{conjunction, deeper}
use Rattle.expr_parse.specs.declared.expression.Expr.TheVariants.{Or}
use Rattle.expr_parse.proofs.Loops.{turned, eaten_at, eaten_read}
use Rattle.expr_parse.proofs.rules.Rules.disjunction.Goals as goal

pub loop-turn-preserved : goal.loop-turn-preserved
loop-turn-preserved g c =
    let h = conjunction c.args.self.now.depth (deeper c.args.self.now.depth) in
    let yes : c.eat.result ≡ true = search rules in
    turned Or (at (skip k.Or h)) (parse (skip k.Or h)) _ _ c.loop-turn._turn c.loop-turn.left c.loop-turn.tokens c.in-Ok.right _ _
    c.loop-turn-test.true c.loop-turn.invariant (eaten_at k.Or h c.loop-turn.tokens _ c.eat.result yes c.eat.ensures)
    (eaten_read k.Or h c.loop-turn.tokens _ _ c.eat.result c.in-Ok.right yes c.eat.ensures c.in-Ok.ensures) c.in_ok-left-2.ensures
