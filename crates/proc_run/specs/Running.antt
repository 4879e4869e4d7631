-- How a talk goes on where steps went so far, and what is left of steps once a statement has given its rows.
use Rattle.std.specs.Prelude.{◌≡◌, ℕ, ◌+◌, Bool, true, false, nat_lt, if◌then◌else◌, List, [], ◌∷◌, map, drop, slice_get, Option, Some, None}
use Rattle.sql_plan.specs.declared.fault.RunFault.{RunFault}
use Rattle.sql_plan.specs.declared.fault.RunFault.TheVariants as run
use Rattle.sql_plan.specs.declared.program.ProgramStep.{ProgramStep}
use Rattle.sql_plan.specs.declared.program.ProgramStep.TheOpen.{ProgramStep-F, ProgramStep-F as s}
use Rattle.sql_plan.specs.declared.program.ProgramStep.TheViews.{out-ProgramStep}
use Rattle.sql_plan.specs.declared.reply.Cause.TheVariants as cause
use Rattle.sql_plan.specs.Rows.{Cells}
use Rattle.sql_meaning.specs.Programs.{Talk, Returns, Aborts, Asks, Known, Goes, Does, most_steps, or_abort, keep_rows, all_of, for_each, does}
use Rattle.proc_run.specs.declared.turn.Turn.{Turn}
use Rattle.proc_run.specs.declared.turn.Turn.TheVariants as turn
use Rattle.proc_run.specs.declared.went.Went.{Went}
use Rattle.proc_run.specs.declared.went.Went.TheVariants as went

-- ---- the rest of steps, once the statement that they went to has given its rows

-- what rows leave to be done
abbrev pub Resumes : Type 0
Resumes = List Cells → Does

-- At the statement itself its rows are kept. Where a path doesn't lead into a step nothing of it is left.
abbrev pub at_statement : ProgramStep-F ProgramStep → Resumes
at_statement (s.Sql statement args result) rows known go = go (keep_rows known result rows)
at_statement _ rows known go = go known

-- the rest of a branch
abbrev pub in_branch : ProgramStep-F ProgramStep → Bool → (List ProgramStep → Resumes) → Resumes
in_branch (s.If args condition steps otherwise) true inner rows known go = inner steps rows known go
in_branch (s.If args condition steps otherwise) false inner rows known go = inner otherwise rows known go
in_branch _ first inner rows known go = go known

-- the rest of a round, and then the rounds behind it
abbrev pub in_round : ProgramStep-F ProgramStep → List Cells → ℕ → (List ProgramStep → Resumes) → Resumes
in_round (s.For row result steps) over taken inner rows known go =
    inner steps rows known (λ later. for_each row (map does steps) (drop taken over) later go)
in_round _ over taken inner rows known go = go known

-- the rest of the step of a number, and then those behind it
abbrev pub in_steps : Option ProgramStep → (ProgramStep → Resumes) → List ProgramStep → Resumes
in_steps None inner behind rows known go = go known
in_steps (Some step) inner behind rows known go = inner step rows known (λ later. all_of (map does behind) later go)

abbrev mutual
  pub resumed : List Turn → List ProgramStep → Resumes
  resumed [] steps rows known go = go known
  resumed (turn.At n ∷ path) steps rows known go = in_steps (slice_get steps n) (resumed_step path) (drop (n + 1) steps) rows known go
  resumed (turn.Branch first ∷ path) steps rows known go = go known
  resumed (turn.Round over taken ∷ path) steps rows known go = go known

  pub resumed_step : List Turn → ProgramStep → Resumes
  resumed_step [] step rows known go = at_statement (out-ProgramStep step) rows known go
  resumed_step (turn.At n ∷ path) step rows known go = go known
  resumed_step (turn.Branch first ∷ path) step rows known go = in_branch (out-ProgramStep step) first (resumed path) rows known go
  resumed_step (turn.Round over taken ∷ path) step rows known go = in_round (out-ProgramStep step) over taken (resumed path) rows known go

-- ---- what a path leaves

abbrev pub Left : Type 0
Left = List Turn → Resumes

abbrev pub left_in : List ProgramStep → Left
left_in steps path rows known go = resumed path steps rows known go

abbrev pub left_in_step : ProgramStep → Left
left_in_step step path rows known go = resumed_step path step rows known go

-- in a FOR with these steps
abbrev pub left_in_rounds : ℕ → List ProgramStep → Left
left_in_rounds row steps (turn.Round over taken ∷ path) rows known go =
    resumed path steps rows known (λ later. for_each row (map does steps) (drop taken over) later go)
left_in_rounds row steps _ rows known go = go known

-- ---- how far steps went

abbrev pub is_on : Went → Bool
is_on went.On = true
is_on _ = false

-- the same behind a turn
abbrev pub behind : Turn → Went → Went
behind t (went.Asks statement args path) = went.Asks statement args (t ∷ path)
behind t w = w

-- How the talk goes on where steps went so far: behind the statement that they went to comes what its path
-- leaves.
abbrev pub gone : Went → Left → Does
gone went.On left known go = go known
gone (went.Asks statement args path) left known go =
    Asks statement args.items (λ answer. or_abort answer (λ rows. left path rows known go))
gone (went.Returns rows) left known go = Returns rows.rows
gone (went.Aborts why) left known go = Aborts why

-- what is meant goes so far, whatever comes behind it
abbrev pub GoesSo : Went → Known → Left → (Goes → Talk) → Type 0
GoesSo w known left meant = (go : Goes) → meant go ≡ gone w left known go

abbrev pub IsAborted : RunFault → Went → Type 0
IsAborted (run.Fault fault) w = w ≡ went.Aborts (cause.Fault fault)
IsAborted run.NoMemory w = ⊥

-- ---- steps that are counted

abbrev pub counted : Known → Known
counted known = record known { steps = known.steps + 1 }

-- what holds of each state before a step was counted
abbrev pub OnceCounted : Known → (Known → Type 0) → Type 0
OnceCounted known P = (before : Known) → nat_lt before.steps most_steps ≡ true → known ≡ counted before → P before
