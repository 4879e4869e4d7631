use Rattle.std.proofs.Common.{rules}
use Rattle.sql_grammar.specs.Grammar.{parse}
use Rattle.expr_parse.specs.Expressions.{column}
use Rattle.sql_parse.specs.Statements.{columns}
use Rattle.sql_parse.proofs.parts.columns.Goals as goal

pub returns : goal.returns
unfolding columns
returns c = c.comma_list.ensures (parse column) (λ alloc old new r post. search rules)
