use Rattle.sql_laws.proofs.Parts.{of_parts}
use Rattle.sql_laws.proofs.statements_are_of_their_parts.Goals as goal

pub returns : goal.returns
returns c = λ parts catalog statement args db some rules is prepared many. of_parts parts some catalog rules statement prepared many args db is
