use Rattle.std.proofs.Common.{rules}
use Rattle.sql_grammar.specs.Grammar.{parse}
use Rattle.expr_parse.specs.Expressions.{inner_expr}
use Rattle.sql_parse.specs.Statements.{inner_exprs}
use Rattle.sql_parse.proofs.writes.inner_exprs.Goals as goal

pub returns : goal.returns
unfolding inner_exprs
returns c = c.comma_list.ensures (parse (inner_expr c.args.depth)) (λ alloc old new r post. search rules)
