use Rattle.sql_grammar.specs.declared.kind.Kind.TheVariants as k
use Rattle.sql_grammar.specs.Grammar.{alt, skip}
use Rattle.expr_parse.specs.Expressions.{tested, contained, excluded, null_test, deeper}
use Rattle.expr_parse.proofs.Loops.{passed}
use Rattle.expr_parse.proofs.rules.Rules.tested.Goals as goal

pub returns : goal.returns
unfolding tested
returns g c =
    let d = c.args.self.now.depth in
    passed c.args.value k.Is (null_test d (deeper d)) (alt (skip k.Not (excluded d (deeper d))) (contained d (deeper d))) c.args.tokens.now _ _ c.eat.result _ c.if-eat.false c.eat.ensures
    (passed c.args.value k.Not (excluded d (deeper d)) (contained d (deeper d)) _ _ _ c.eat-2.result _ c.if-eat-2.false c.eat-2.ensures c.contained.ensures)
