use Rattle.std.proofs.Common.{rules}
use Rattle.sql_grammar.specs.Grammar.{parse}
use Rattle.ddl_parse.specs.Procedures.{listed_parameters, parameter}
use Rattle.ddl_parse.proofs.definitions.listed_parameters.Goals as goal

pub returns : goal.returns
unfolding listed_parameters
returns c = c.comma_list.ensures (parse parameter) (λ alloc old new r post. search rules)
