-- How a call on all partitions goes on, by what the partitions answered.
use Rattle.std.specs.Prelude.{ℕ, Bool, true, false, List, [], ◌∷◌, flat_map, slice_get, Option, Some, None, Result, Ok}
use Rattle.volt_base.specs.declared.coord.CoordStep.{CoordStep}
use Rattle.volt_base.specs.declared.coord.CoordStep.TheVariants.{Round, Finish}
use Rattle.volt_catalog.specs.declared.procedure.ProcDef.{ProcDef}
use Rattle.sql_plan.specs.declared.fault.Fault.{Fault}
use Rattle.sql_plan.specs.declared.partial.Partial.{Partial}
use Rattle.sql_plan.specs.declared.plan.Plan.{Plan}
use Rattle.sql_plan.specs.declared.prepared.Prepared.{Prepared}
use Rattle.sql_plan.specs.declared.program.Program.{Program}
use Rattle.sql_plan.specs.declared.reply.ProcReply.{ProcReply}
use Rattle.sql_plan.specs.declared.reply.ProcReply.TheVariants as reply
use Rattle.sql_plan.specs.Rows.{Cells}
use Rattle.sql_meaning.specs.Calls.{Call}
use Rattle.sql_meaning.specs.Judged.{with, collected}
use Rattle.sql_meaning.specs.Parts.{merged}
use Rattle.sql_meaning.specs.Programs.{Talk, Returns, Aborts, Asks, talk_of}
use Rattle.sql_meaning.specs.Replies.{reply_bytes, sized}
use Rattle.sql_wire.specs.declared.bodies.StatementBody.{StatementBody}
use Rattle.sql_wire.specs.Bodies.{statement_bytes}
use Rattle.sql_wire.specs.Whole.{answer_of}
use Rattle.engine_meaning.specs.Bodies.{call_in, outcome_in}

-- what a call does next: it asks a statement of all partitions, or ends
pub data Next : Type 0 where
  Wants : StatementBody → Next
  Ends : ProcReply → Next

-- the parts and faults among what the partitions answered
abbrev pub outcomes : List (List ℕ) → List (Result Partial Fault)
outcomes answers = flat_map (λ bytes. outcome_in (answer_of bytes)) answers

-- what a statement comes to
abbrev pub come_to : Option Prepared → List (List ℕ) → Result (List Cells) Fault
come_to None answers = Ok []
come_to (Some statement) answers = with (collected (outcomes answers)) (merged statement)

-- a program is told what was answered to its statements, one after another, and asks the next
abbrev pub told : ℕ → Program → Talk → List (List (List ℕ)) → Next
told number program (Returns rows) fed = Ends (sized (reply.Ok (record { rows = rows })))
told number program (Aborts cause) fed = Ends (sized (reply.Abort cause))
told number program (Asks statement args go) [] = Wants (record { procedure = number; statement = statement; args = args })
told number program (Asks statement args go) (answers ∷ fed) =
    told number program (go (come_to (slice_get program.statements statement) answers)) fed

-- a procedure that isn't there gives no rows
abbrev pub next_of : Call → Option (ProcDef × Program) → List (List (List ℕ)) → Next
next_of c None fed = Ends (reply.Ok (record { rows = [] }))
next_of c (Some proc) fed = told c.proc proc.1 (talk_of proc.1 c.args) fed

abbrev pub next : Plan → Call → List (List (List ℕ)) → Next
next plan c fed = next_of c (slice_get plan.procs c.proc) fed

-- ---- as the cluster sees it

-- a call that ends is kept unless it is aborted
abbrev pub is_kept : ProcReply → Bool
is_kept (reply.Ok rows) = true
is_kept (reply.Abort cause) = false

abbrev pub as_step : Next → CoordStep
as_step (Wants asked) = Round (statement_bytes asked)
as_step (Ends answer) = Finish (is_kept answer) (reply_bytes answer)

-- a body that is no call ends as a procedure that isn't there
abbrev pub next_of_body : Plan → Option Call → List (List (List ℕ)) → Next
next_of_body plan None fed = Ends (reply.Ok (record { rows = [] }))
next_of_body plan (Some c) fed = next plan c fed

abbrev pub asks : Plan → List ℕ → List (List (List ℕ)) → CoordStep
asks plan body fed = as_step (next_of_body plan (call_in body) fed)
