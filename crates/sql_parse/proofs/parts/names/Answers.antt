use Rattle.std.proofs.Common.{rules}
use Rattle.sql_grammar.specs.Grammar.{parse}
use Rattle.expr_parse.specs.Expressions.{name}
use Rattle.sql_parse.specs.Statements.{names}
use Rattle.sql_parse.proofs.parts.names.Goals as goal

pub returns : goal.returns
unfolding names
returns c = c.comma_list.ensures (parse name) (λ alloc old new r post. search rules)
