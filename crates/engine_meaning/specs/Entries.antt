-- What the entries of a log do to an engine over SQL.
use Rattle.std.specs.Prelude.{ℕ, ◌+◌, ◌==◌, nat_lt, Bool, true, false, not, ◌&&◌, List, [], ◌∷◌, map, flat_map, zip, slice_get, Option, Some, None, option_and_then, is_some, is_ok, Result, Ok}
use Rattle.volt_base.specs.Semantics.{Semantics}
use Rattle.volt_base.specs.declared.entry.Entry.{Entry}
use Rattle.volt_base.specs.declared.entry.Entry.TheVariants.{Sp, Frag, Done}
use Rattle.volt_base.specs.declared.entry.Outcome.{Outcome}
use Rattle.volt_base.specs.declared.entry.Outcome.TheVariants.{Dropped, Kept, Aborted, Snapshot}
use Rattle.volt_value.specs.declared.column.ColType.{ColType}
use Rattle.volt_value.specs.Columns.{value_fits}
use Rattle.volt_catalog.specs.declared.procedure.ProcDef.{ProcDef}
use Rattle.volt_catalog.specs.declared.table.Table.{Table}
use Rattle.volt_report.specs.Report.{RowLine}
use Rattle.volt_report.specs.Spelling.{table_line}
use Rattle.sql_plan.specs.declared.fault.Fault.{Fault}
use Rattle.sql_plan.specs.declared.partial.Partial.{Partial}
use Rattle.sql_plan.specs.declared.plan.Plan.{Plan}
use Rattle.sql_plan.specs.declared.prepared.Prepared.{Prepared}
use Rattle.sql_plan.specs.declared.program.Program.{Program}
use Rattle.sql_plan.specs.Prepared.{are_arguments}
use Rattle.sql_plan.specs.Rows.{Cells}
use Rattle.sql_meaning.specs.Calls.{Call, own_call, part_of_call}
use Rattle.sql_meaning.specs.Database.{Database}
use Rattle.sql_meaning.specs.Judged.{with}
use Rattle.sql_meaning.specs.Parts.{part_means}
use Rattle.sql_meaning.specs.Replies.{reply_bytes}
use Rattle.sql_meaning.specs.Rounds.{share_after}
use Rattle.sql_wire.specs.declared.answers.Answer.{Answer}
use Rattle.sql_wire.specs.declared.answers.Answer.TheVariants as reply
use Rattle.sql_wire.specs.declared.bodies.RoundBody.{RoundBody}
use Rattle.sql_wire.specs.declared.bodies.RoundBody.TheVariants as round
use Rattle.sql_wire.specs.declared.bodies.StatementBody.{StatementBody}
use Rattle.sql_wire.specs.Parts.{answer_bytes}
use Rattle.sql_wire.specs.Whole.{round_of}
use Rattle.engine_meaning.specs.Bodies.{call_in}
use Rattle.engine_meaning.specs.State.{SqlState, Open, nothing_in, tables_before, noted}

-- ---- a whole call on one partition

-- each argument fits its parameter, and there are as many
abbrev pub fit_parameters : List ColType → Cells → Bool
fit_parameters [] [] = true
fit_parameters (kind ∷ kinds) (value ∷ values) = is_ok (value_fits value kind) && fit_parameters kinds values
fit_parameters _ _ = false

abbrev pub suits_procedure : Option (ProcDef × Program) → Cells → Bool
suits_procedure None args = false
suits_procedure (Some proc) args = fit_parameters proc.0.params args

abbrev pub is_part : ℕ → Option ℕ → Bool
is_part part None = false
is_part part (Some other) = part == other

-- a call of a procedure that runs on this partition
abbrev pub is_call_here : Plan → ℕ → Call → Bool
is_call_here plan part c = suits_procedure (slice_get plan.procs c.proc) c.args && is_part part (part_of_call plan c)

abbrev pub is_body_here : Plan → ℕ → Option Call → Bool
is_body_here plan part None = false
is_body_here plan part (Some c) = is_call_here plan part c

-- the share changes as the call means, which is noted
abbrev pub carried_out : Plan → ℕ → ℕ → ℕ → SqlState → Call → SqlState
carried_out plan call client point s c =
    let end = own_call plan s.part s.tables c in
    noted call client point (reply_bytes end.1) (record s { tables = end.0 })

abbrev pub after_call : Plan → ℕ → ℕ → ℕ → SqlState → Option Call → SqlState
after_call plan call client point s None = s
after_call plan call client point s (Some c) = carried_out plan call client point s c

abbrev pub answer_to_call : Plan → SqlState → Option Call → List ℕ
answer_to_call plan s None = []
answer_to_call plan s (Some c) = reply_bytes (own_call plan s.part s.tables c).1

-- ---- one round of a transaction on all partitions

-- the statement that a round runs, if its procedure has it
abbrev pub statement_of : Plan → StatementBody → Option Prepared
statement_of plan asked =
    option_and_then (λ (proc : ProcDef × Program). slice_get proc.1.statements asked.statement) (slice_get plan.procs asked.procedure)

abbrev pub runs_on_all : Option (ProcDef × Program) → Bool
runs_on_all None = false
runs_on_all (Some proc) = not (is_some proc.0.part)

abbrev pub takes : Option Prepared → Cells → Bool
takes None args = false
takes (Some statement) args = are_arguments args statement.params

-- a procedure that runs on all partitions has the statement, and the values are its arguments
abbrev pub is_round : Plan → Option RoundBody → Bool
is_round plan None = false
is_round plan (Some round.Nothing) = true
is_round plan (Some (round.Statement asked)) = runs_on_all (slice_get plan.procs asked.procedure) && takes (statement_of plan asked) asked.args

-- what the statement makes of the share, and its part of that
abbrev pub made : Plan → SqlState → Prepared → Cells → Result (Database × Partial) Fault
made plan s statement args = part_means plan.parts plan.catalog s.part statement args s.tables

abbrev pub part_made : Result (Database × Partial) Fault → Result Partial Fault
part_made x = with x (λ made. Ok made.1)

abbrev pub tables_behind : Plan → SqlState → Option Prepared → Cells → Database
tables_behind plan s None args = s.tables
tables_behind plan s (Some statement) args = share_after s.tables (made plan s statement args)

abbrev pub answer_to_statement : Plan → SqlState → Option Prepared → Cells → Answer
answer_to_statement plan s None args = reply.Nothing
answer_to_statement plan s (Some statement) args = reply.Outcome (part_made (made plan s statement args))

-- the tables behind a round, and the partition's answer
abbrev pub tables_behind_round : Plan → SqlState → Option RoundBody → Database
tables_behind_round plan s (Some (round.Statement asked)) = tables_behind plan s (statement_of plan asked) asked.args
tables_behind_round plan s _ = s.tables

abbrev pub answer_to_round : Plan → SqlState → Option RoundBody → Answer
answer_to_round plan s (Some (round.Statement asked)) = answer_to_statement plan s (statement_of plan asked) asked.args
answer_to_round plan s _ = reply.Nothing

abbrev pub after_round : Plan → ℕ → ℕ → SqlState → Option RoundBody → SqlState
after_round plan transaction number s body =
    record s {
      tables = tables_behind_round plan s body;
      under_way = Some (record { transaction = transaction; round = number; before = tables_before s });
    }

-- ---- the end of a transaction

-- nothing is open any more, and this was done last
abbrev pub closed : ℕ → Database → SqlState → SqlState
closed transaction tables s = record s { tables = tables; under_way = None; done = transaction }

abbrev pub after_done : ℕ → SqlState → Outcome → SqlState
after_done transaction s Dropped = closed transaction (tables_before s) s
after_done transaction s (Kept call client point reply) = noted call client point reply (closed transaction s.tables s)
after_done transaction s (Aborted call client point reply) = noted call client point reply (closed transaction (tables_before s) s)
after_done transaction s Snapshot = record s { done = transaction }

-- ---- which entry may come

abbrev pub is_next_round : ℕ → ℕ → ℕ → Option Open → Bool
is_next_round done transaction number None = (number == 1) && nat_lt done transaction
is_next_round done transaction number (Some now) = (transaction == now.transaction) && (number == now.round + 1)

abbrev pub is_open : ℕ → Option Open → Bool
is_open transaction None = false
is_open transaction (Some now) = transaction == now.transaction

abbrev pub may_end : ℕ → SqlState → Outcome → Bool
may_end transaction s Snapshot = not (is_some s.under_way) && nat_lt s.done transaction
may_end transaction s _ = is_open transaction s.under_way

-- ---- all entries

abbrev pub fits : Plan → SqlState → Entry → Bool
fits plan s (Sp call client point body) = not (is_some s.under_way) && is_body_here plan s.part (call_in body)
fits plan s (Frag transaction number body) = is_next_round s.done transaction number s.under_way && is_round plan (round_of body)
fits plan s (Done transaction outcome) = may_end transaction s outcome

abbrev pub after : Plan → SqlState → Entry → SqlState
after plan s (Sp call client point body) = after_call plan call client point s (call_in body)
after plan s (Frag transaction number body) = after_round plan transaction number s (round_of body)
after plan s (Done transaction outcome) = after_done transaction s outcome

abbrev pub answer : Plan → SqlState → Entry → List ℕ
answer plan s (Sp call client point body) = answer_to_call plan s (call_in body)
answer plan s (Frag transaction number body) = answer_bytes (answer_to_round plan s (round_of body))
answer plan s (Done transaction outcome) = []

-- ---- the tables as a report prints them

abbrev pub lines_of : Table × List Cells → List RowLine
lines_of t = map (λ row. record { table = t.0.name; row = row }) t.1

abbrev pub printed : Plan → Database → List ℕ
printed plan tables = flat_map table_line (flat_map lines_of (zip plan.catalog.tables tables))

-- an engine over the plan's tables, on any of its partitions
abbrev pub engine : Plan → Semantics
engine plan =
    record {
      State = SqlState;
      opening = nothing_in plan;
      fits = fits plan;
      after = after plan;
      answer = answer plan;
      rows = λ s. printed plan s.tables;
      applied = λ s. s.applied;
      replies = λ s. s.replies;
    }
