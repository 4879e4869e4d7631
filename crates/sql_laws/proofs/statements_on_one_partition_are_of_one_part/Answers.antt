use Rattle.sql_laws.proofs.Statements.{alone}
use Rattle.sql_laws.proofs.statements_on_one_partition_are_of_one_part.Goals as goal

pub returns : goal.returns
returns c = λ parts catalog part statement args own one. alone parts catalog part statement args own one
