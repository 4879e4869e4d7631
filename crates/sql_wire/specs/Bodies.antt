-- What an engine is asked, as bytes: a call, and a round of one. High bytes come first.
use Rattle.std.specs.Prelude.{ℕ, List, [], ◌++◌}
use Rattle.std.specs.Int.{w16, to_be_bytes}
use Rattle.sql_meaning.specs.Replies.{row_bytes}
use Rattle.sql_wire.specs.declared.bodies.CallBody.{CallBody}
use Rattle.sql_wire.specs.declared.bodies.StatementBody.{StatementBody}
use Rattle.sql_wire.specs.declared.bodies.RoundBody.{RoundBody}
use Rattle.sql_wire.specs.declared.bodies.RoundBody.TheVariants as round

-- the number of a procedure, and its arguments behind their number
abbrev pub call_bytes : CallBody → List ℕ
call_bytes call = to_be_bytes w16 call.procedure ++ row_bytes call.args

-- the numbers of a procedure and of one of its statements, and the arguments of that behind their number
abbrev pub statement_bytes : StatementBody → List ℕ
statement_bytes s = to_be_bytes w16 s.procedure ++ (to_be_bytes w16 s.statement ++ row_bytes s.args)

-- a round without a statement has no bytes
abbrev pub round_bytes : RoundBody → List ℕ
round_bytes round.Nothing = []
round_bytes (round.Statement s) = statement_bytes s
