use Rattle.std.proofs.Common.{false}
use Rattle.sql_grammar.specs.declared.kind.Kind.TheVariants as k
use Rattle.sql_grammar.specs.Grammar.{alt, skip}
use Rattle.expr_parse.specs.Expressions.{contained, between, among, compared, deeper}
use Rattle.expr_parse.proofs.Loops.{passed}
use Rattle.expr_parse.proofs.rules.Rules.contained.Goals as goal

pub returns : goal.returns
unfolding contained
returns g c =
    let d = c.args.self.now.depth in
    passed c.args.value k.Between (between d (deeper d) false) (alt (skip k.In (among d (deeper d) false)) (compared d (deeper d))) c.args.tokens.now _ _ c.eat.result _ c.if-eat.false c.eat.ensures
    (passed c.args.value k.In (among d (deeper d) false) (compared d (deeper d)) _ _ _ c.eat-2.result _ c.if-eat-2.false c.eat-2.ensures c.compared.ensures)
