-- A program on all partitions, in rounds: each partition makes its part of each statement on its own share,
-- and what the parts come to is answered.
use Rattle.std.specs.Prelude.{ℕ, List, [], ◌∷◌, slice_get, Option, Some, None, Result, Ok, Err, if◌then◌else◌, ◌==◌}
use Rattle.volt_catalog.specs.declared.procedure.ProcDef.{ProcDef}
use Rattle.volt_catalog.specs.Rules.{Contents}
use Rattle.sql_plan.specs.declared.fault.Fault.{Fault}
use Rattle.sql_plan.specs.declared.partial.Partial.{Partial}
use Rattle.sql_plan.specs.declared.plan.Plan.{Plan}
use Rattle.sql_plan.specs.declared.prepared.Prepared.{Prepared}
use Rattle.sql_plan.specs.declared.program.Program.{Program}
use Rattle.sql_plan.specs.declared.reply.ProcReply.{ProcReply}
use Rattle.sql_plan.specs.declared.reply.ProcReply.TheVariants as reply
use Rattle.sql_plan.specs.Rows.{Cells}
use Rattle.sql_meaning.specs.Database.{Database}
use Rattle.sql_meaning.specs.Parts.{part_means, given_by_parts}
use Rattle.sql_meaning.specs.Programs.{Talk, Returns, Aborts, Asks, talk_of}
use Rattle.sql_meaning.specs.Replies.{sized}
use Rattle.sql_meaning.specs.Calls.{Call, kept, part_of_call, own_call}

-- a partition's share behind its part of a statement: as before where it faulted
abbrev pub share_after : Database → Result (Database × Partial) Fault → Database
share_after own (Ok made) = made.0
share_after own (Err fault) = own

abbrev pub round_answer : ℕ → Contents → Option Prepared → Cells → (ℕ → Database) → Result (List Cells) Fault
round_answer parts catalog None args own = Ok []
round_answer parts catalog (Some statement) args own = given_by_parts parts catalog statement args own

abbrev pub round_shares : ℕ → Contents → Option Prepared → Cells → (ℕ → Database) → ℕ → Database
round_shares parts catalog None args own part = own part
round_shares parts catalog (Some statement) args own part = share_after (own part) (part_means parts catalog part statement args (own part))

-- how a talk ends with the shares of all partitions, and what they have become
abbrev pub in_rounds : ℕ → Contents → Program → Talk → (ℕ → Database) → (ℕ → Database) × ProcReply
in_rounds parts catalog program (Returns rows) own = (own, reply.Ok (record { rows = rows }))
in_rounds parts catalog program (Aborts cause) own = (own, reply.Abort cause)
in_rounds parts catalog program (Asks statement args go) own =
    in_rounds parts catalog program (go (round_answer parts catalog (slice_get program.statements statement) args own))
    (round_shares parts catalog (slice_get program.statements statement) args own)

-- a call that runs in rounds: the share of each partition, and the reply
abbrev pub run_in_rounds : Plan → Program → Cells → (ℕ → Database) → (ℕ → Database) × ProcReply
run_in_rounds plan program args own =
    let end = in_rounds plan.parts plan.catalog program (talk_of program args) own in kept own end.0 (sized end.1)

abbrev pub call_in_rounds_of : Plan → Cells → (ℕ → Database) → Option (ProcDef × Program) → (ℕ → Database) × ProcReply
call_in_rounds_of plan args own None = (own, reply.Ok (record { rows = [] }))
call_in_rounds_of plan args own (Some proc) = run_in_rounds plan proc.1 args own

abbrev pub call_in_rounds : Plan → (ℕ → Database) → Call → (ℕ → Database) × ProcReply
call_in_rounds plan own c = call_in_rounds_of plan c.args own (slice_get plan.procs c.proc)

-- ---- calls where each partition has its share, and nothing has the whole database

-- the share of one partition changed
abbrev pub with_share : (ℕ → Database) → ℕ → Database → ℕ → Database
with_share own part new other = if other == part then new else own other

-- a call on one partition runs on its share alone, any other one in rounds
abbrev pub call_by_part : Plan → (ℕ → Database) → Call → Option ℕ → (ℕ → Database) × ProcReply
call_by_part plan own c None = call_in_rounds plan own c
call_by_part plan own c (Some part) = let end = own_call plan part (own part) c in (with_share own part end.0, end.1)

abbrev pub call_on_shares : Plan → (ℕ → Database) → Call → (ℕ → Database) × ProcReply
call_on_shares plan own c = call_by_part plan own c (part_of_call plan c)

-- calls one after another: the last shares, and the reply of each call
abbrev pub serial_on_shares : Plan → (ℕ → Database) → List Call → (ℕ → Database) × List ProcReply
serial_on_shares plan own [] = (own, [])
serial_on_shares plan own (c ∷ calls) =
    let first = call_on_shares plan own c in
    let rest = serial_on_shares plan first.0 calls in
    (rest.0, first.1 ∷ rest.1)
