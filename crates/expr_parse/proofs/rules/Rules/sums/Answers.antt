use Rattle.std.proofs.Common.{rules}
use Rattle.sql_grammar.specs.Grammar.{parse}
use Rattle.expr_parse.specs.Expressions.{sums, deeper}
use Rattle.expr_parse.specs.declared.levels.Level.TheVariants.{Sum}
use Rattle.expr_parse.proofs.rules.Rules.sums.Goals as goal

pub returns : goal.returns
unfolding sums
returns g c = c.comma_list.ensures (parse (deeper c.args.self.now.depth Sum)) (λ alloc old new r post. search rules)
