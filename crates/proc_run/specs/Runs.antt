-- What a run stands for.
use Rattle.std.specs.Prelude.{◌≡◌, List, [], map, Option, Some, None, Result, Ok, Err}
use Rattle.sql_plan.specs.declared.fault.Fault.{Fault}
use Rattle.sql_plan.specs.declared.program.Program.{Program}
use Rattle.sql_plan.specs.declared.row.Rows.{Rows}
use Rattle.sql_plan.specs.Rows.{Cells}
use Rattle.sql_meaning.specs.Programs.{Talk, Returns, Aborts, Asks, Known, Goes, or_abort, all_of, does}
use Rattle.proc_run.specs.declared.stand.Stand.{Stand}
use Rattle.proc_run.specs.declared.stand.Stand.TheVariants as stand
use Rattle.proc_run.specs.declared.step.Step.{Step}
use Rattle.proc_run.specs.declared.step.Step.TheVariants as step
use Rattle.proc_run.specs.Running.{resumed}

-- what a statement gave: its rows or its fault. `None` is before the first statement.
abbrev pub Fed : Type 0
Fed = Option (Result (List Cells) Fault)

-- a run: where it stands, and what its program knows
pub record Run : Type 0 where
  pub stand : Stand
  pub known : Known

abbrev pub answer_of : Result Rows Fault → Result (List Cells) Fault
answer_of (Ok rows) = Ok rows.rows
answer_of (Err fault) = Err fault

abbrev pub fed_of : Option (Result Rows Fault) → Fed
fed_of None = None
fed_of (Some answer) = Some (answer_of answer)

-- nothing that is fed is an answer without rows
abbrev pub answer_in : Fed → Result (List Cells) Fault
answer_in None = Ok []
answer_in (Some answer) = answer

-- behind its last step a program returns no rows
abbrev pub ends : Goes
ends known = Returns []

abbrev pub talk_from : Stand → Known → Program → Fed → Talk
talk_from stand.Begins known program fed = all_of (map does program.steps) known ends
talk_from (stand.Waits path) known program fed = or_abort (answer_in fed) (λ rows. resumed path program.steps rows known ends)
talk_from stand.Over known program fed = ends known

-- the rest of the talk that a run of this program is in, where it is fed this
abbrev pub rest_of_talk : Run → Program → Fed → Talk
rest_of_talk run program fed = talk_from run.stand run.known program fed

-- The talk is at this step: it has ended, or it asks for a statement, and what comes behind its answer is the
-- rest.
abbrev pub IsAt : Talk → Step → (Fed → Talk) → Type 0
IsAt talk (step.NeedSql statement args) rest = talk ≡ Asks statement args.items (λ answer. rest (Some answer))
IsAt talk (step.Return rows) rest = talk ≡ Returns rows.rows
IsAt talk (step.Abort why) rest = talk ≡ Aborts why
