-- A call as a body has it, and the part or fault of an answer.
use Rattle.std.specs.Prelude.{ℕ, List, [], ◌∷◌, Option, Some, option_map, Result}
use Rattle.sql_plan.specs.declared.fault.Fault.{Fault}
use Rattle.sql_plan.specs.declared.partial.Partial.{Partial}
use Rattle.sql_meaning.specs.Calls.{Call}
use Rattle.sql_wire.specs.declared.answers.Answer.{Answer}
use Rattle.sql_wire.specs.declared.answers.Answer.TheVariants as answer
use Rattle.sql_wire.specs.declared.bodies.CallBody.{CallBody}
use Rattle.sql_wire.specs.Whole.{call_of}

abbrev pub called_by : CallBody → Call
called_by body = record { proc = body.procedure; args = body.args }

abbrev pub body_of : Call → CallBody
body_of c = record { procedure = c.proc; args = c.args }

-- the call that a body is, if it is one
abbrev pub call_in : List ℕ → Option Call
call_in body = option_map called_by (call_of body)

-- the part or fault of an answer, if it has one
abbrev pub outcome_in : Option Answer → List (Result Partial Fault)
outcome_in (Some (answer.Outcome outcome)) = outcome ∷ []
outcome_in _ = []
