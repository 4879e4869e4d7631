use Rattle.std.proofs.Common.{rules}
use Rattle.sql_grammar.specs.Grammar.{parse}
use Rattle.expr_parse.specs.Expressions.{expr}
use Rattle.ddl_parse.specs.Procedures.{exprs}
use Rattle.ddl_parse.proofs.program.exprs.Goals as goal

pub returns : goal.returns
unfolding exprs
returns c = c.comma_list.ensures (parse (expr c.args.depth)) (λ alloc old new r post. search rules)
