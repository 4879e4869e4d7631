use Rattle.std.proofs.Common.{rules}
use Rattle.sql_grammar.specs.Grammar.{parse}
use Rattle.sql_parse.specs.Statements.{assignments, assignment}
use Rattle.sql_parse.proofs.writes.assignments.Goals as goal

pub returns : goal.returns
unfolding assignments
returns c = c.comma_list.ensures (parse (assignment c.args.depth)) (λ alloc old new r post. search rules)
