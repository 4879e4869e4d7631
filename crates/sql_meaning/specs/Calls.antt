-- What a call means: a database and a reply. And what many calls mean, one after another.
use Rattle.std.specs.Prelude.{ℕ, not, List, [], ◌∷◌, map, zip, filter, slice_get, Option, Some, None, option_map, option_and_then, Result, Ok, Err}
use Rattle.volt_catalog.specs.declared.procedure.ProcDef.{ProcDef}
use Rattle.volt_catalog.specs.declared.table.Table.{Table}
use Rattle.volt_catalog.specs.Rules.{Contents}
use Rattle.sql_plan.specs.declared.fault.Fault.{Fault}
use Rattle.sql_plan.specs.declared.plan.Plan.{Plan}
use Rattle.sql_plan.specs.declared.prepared.Prepared.{Prepared}
use Rattle.sql_plan.specs.declared.program.Program.{Program}
use Rattle.sql_plan.specs.declared.reply.ProcReply.{ProcReply}
use Rattle.sql_plan.specs.declared.reply.ProcReply.TheVariants as reply
use Rattle.sql_plan.specs.Rows.{Cells}
use Rattle.sql_meaning.specs.Values.{at}
use Rattle.sql_meaning.specs.Tables.{lies_in, with_rows, part_of_value}
use Rattle.sql_meaning.specs.Database.{Database, share}
use Rattle.sql_meaning.specs.Statements.{means}
use Rattle.sql_meaning.specs.Programs.{Talk, Returns, Aborts, Asks, talk_of}
use Rattle.sql_meaning.specs.Replies.{sized}

-- ---- a talk with a database

-- a new database and rows, or a fault, for the statement of a number with arguments
abbrev pub Answers : Type 0
Answers = ℕ → Cells → Database → Result (Database × List Cells) Fault

-- a talk goes on with the new database and the rows, or with the fault, which has changed nothing
abbrev pub after_answer : {A : Type 0} → Database → (Result (List Cells) Fault → Database → A) → Result (Database × List Cells) Fault → A
after_answer db go (Ok made) = go (Ok made.1) made.0
after_answer db go (Err fault) = go (Err fault) db

-- what a database is at the end of a talk, and the reply
abbrev pub settled : Answers → Talk → Database → Database × ProcReply
settled answers (Returns rows) db = (db, reply.Ok (record { rows = rows }))
settled answers (Aborts cause) db = (db, reply.Abort cause)
settled answers (Asks statement args go) db =
    after_answer db (λ answer later. settled answers (go answer) later) (answers statement args db)

-- the statements of a program. One that isn't there changes nothing and gives no rows.
abbrev pub statement_means : ℕ → Contents → Option ℕ → Option Prepared → Cells → Database → Result (Database × List Cells) Fault
statement_means parts catalog here None args db = Ok (db, [])
statement_means parts catalog here (Some statement) args db = means parts catalog here statement args db

abbrev pub answers_of : ℕ → Contents → Option ℕ → Program → Answers
answers_of parts catalog here program n args db = statement_means parts catalog here (slice_get program.statements n) args db

-- a program run with arguments on a database
abbrev pub ran : ℕ → Contents → Option ℕ → Program → Cells → Database → Database × ProcReply
ran parts catalog here program args db = settled (answers_of parts catalog here program) (talk_of program args) db

-- ---- a call

-- a procedure's number and arguments
pub record Call : Type 0 where
  pub proc : ℕ
  pub args : Cells

-- a partition's rows of a table put back: of the rows that were there those that lie in other partitions stay
abbrev pub put_back_rows : ℕ → ℕ → Table → List Cells → List Cells → List Cells
put_back_rows parts part table old new = with_rows table new (filter (λ row. not (lies_in parts part table row)) old)

abbrev pub put_back : ℕ → Contents → ℕ → Database → Database → Database
put_back parts catalog part db new = map (λ t. put_back_rows parts part t.0 t.1.0 t.1.1) (zip catalog.tables (zip db new))

-- an abort leaves what there is as it was
abbrev pub kept : {A : Type 0} → A → A → ProcReply → A × ProcReply
kept old new (reply.Ok rows) = (new, reply.Ok rows)
kept old new (reply.Abort cause) = (old, reply.Abort cause)

-- a call that runs on one database
abbrev pub run_call : Plan → Option ℕ → Program → Cells → Database → Database × ProcReply
run_call plan here program args db =
    let end = ran plan.parts plan.catalog here program args db in kept db end.0 (sized end.1)

-- a call on one partition runs on its share, whose changes are put back
abbrev pub on_part : Plan → Program → Cells → Database → ℕ → Database × ProcReply
on_part plan program args db part =
    let end = run_call plan (Some part) program args (share plan.parts plan.catalog part db) in
    kept db (put_back plan.parts plan.catalog part db end.0) end.1

-- the partition that a call's arguments choose, where its procedure runs on one
abbrev pub part_of_args : ℕ → ProcDef → Cells → Option ℕ
part_of_args parts def args = option_map (λ place. part_of_value parts (at args place.2)) def.part

-- any other call runs on the whole database
abbrev pub run_on : Plan → Program → Cells → Database → Option ℕ → Database × ProcReply
run_on plan program args db None = run_call plan None program args db
run_on plan program args db (Some part) = on_part plan program args db part

-- a procedure that isn't there changes nothing and gives no rows
abbrev pub call_of : Plan → Cells → Database → Option (ProcDef × Program) → Database × ProcReply
call_of plan args db None = (db, reply.Ok (record { rows = [] }))
call_of plan args db (Some proc) = run_on plan proc.1 args db (part_of_args plan.parts proc.0 args)

abbrev pub call : Plan → Database → Call → Database × ProcReply
call plan db c = call_of plan c.args db (slice_get plan.procs c.proc)

-- ---- a call on one partition, seen by the partition alone

-- the partition of a call whose procedure runs on one
abbrev pub part_of_call : Plan → Call → Option ℕ
part_of_call plan c = option_and_then (λ (proc : ProcDef × Program). part_of_args plan.parts proc.0 c.args) (slice_get plan.procs c.proc)

abbrev pub own_call_of : Plan → ℕ → Cells → Database → Option (ProcDef × Program) → Database × ProcReply
own_call_of plan part args own None = (own, reply.Ok (record { rows = [] }))
own_call_of plan part args own (Some proc) = run_call plan (Some part) proc.1 args own

-- what it makes of the partition's share, and its reply
abbrev pub own_call : Plan → ℕ → Database → Call → Database × ProcReply
own_call plan part own c = own_call_of plan part c.args own (slice_get plan.procs c.proc)

-- ---- calls one after another

-- the last database, and the reply of each call
abbrev pub serial : Plan → Database → List Call → Database × List ProcReply
serial plan db [] = (db, [])
serial plan db (c ∷ calls) =
    let first = call plan db c in
    let rest = serial plan first.0 calls in
    (rest.0, first.1 ∷ rest.1)
