use Rattle.std.proofs.Common.{rules}
use Rattle.sql_grammar.specs.Grammar.{parse}
use Rattle.sql_parse.specs.Statements.{keys, key}
use Rattle.sql_parse.proofs.parts.keys.Goals as goal

pub returns : goal.returns
unfolding keys
returns c = c.comma_list.ensures (parse key) (λ alloc old new r post. search rules)
