use Rattle.std.proofs.Common.{rules}
use Rattle.sql_grammar.specs.Grammar.{parse}
use Rattle.sql_parse.specs.Statements.{listed_outputs, output}
use Rattle.sql_parse.proofs.select.listed_outputs.Goals as goal

pub returns : goal.returns
unfolding listed_outputs
returns c = c.comma_list.ensures (parse (output c.args.depth)) (λ alloc old new r post. search rules)
