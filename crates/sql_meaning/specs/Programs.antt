-- What a program means: what it asks of the database, one statement after another, and how it ends.
use Rattle.std.specs.Prelude.{ℕ, ◌+◌, nat_lt, if◌then◌else◌, List, [], ◌∷◌, ◌++◌, map, length, slice_get, slice_set, replicate, unwrap_or, ◌-◌, pos, Option, Some, None, Result, Ok, Err}
use Rattle.volt_value.specs.declared.value.Value.{Value}
use Rattle.volt_value.specs.declared.value.Value.TheVariants.{Null, Int}
use Rattle.sql_plan.specs.declared.fault.Fault.{Fault}
use Rattle.sql_plan.specs.declared.reply.Cause.{Cause}
use Rattle.sql_plan.specs.declared.reply.Cause.TheVariants as cause
use Rattle.sql_plan.specs.declared.program.Program.{Program}
use Rattle.sql_plan.specs.declared.program.ProgramStep.{ProgramStep, fold-ProgramStep}
use Rattle.sql_plan.specs.declared.program.ProgramStep.TheOpen.{ProgramStep-F as s}
use Rattle.sql_plan.specs.declared.program.ProgramValue.{ProgramValue}
use Rattle.sql_plan.specs.declared.program.ProgramValue.TheVariants as place
use Rattle.sql_plan.specs.declared.program.Returned.{Returned}
use Rattle.sql_plan.specs.declared.program.Returned.TheVariants as returned
use Rattle.sql_plan.specs.Rows.{Cells}
use Rattle.sql_meaning.specs.Judged.{collected}
use Rattle.sql_meaning.specs.Values.{at}
use Rattle.sql_meaning.specs.Expressions.{scalar_of, holds}

-- A talk with the database: it ends with rows or is aborted, or a statement, by its number, is asked with
-- arguments, and the talk goes on with the statement's rows or its fault.
pub data Talk : Type 0 where
  Returns : List Cells → Talk
  Aborts : Cause → Talk
  Asks : ℕ → Cells → (Result (List Cells) Fault → Talk) → Talk

-- what a program knows: its variables, its results, the row that each FOR is at, and how many steps and
-- statements it has run
pub record Known : Type 0 where
  pub variables : Cells
  pub results : List (List Cells)
  pub rows : List Cells
  pub steps : ℕ
  pub statements : ℕ

-- how a talk goes on with what is known, and what a step does before it does
abbrev pub Goes : Type 0
Goes = Known → Talk

abbrev pub Does : Type 0
Does = Known → Goes → Talk

-- ---- values that a program knows

abbrev pub cells_at : List Cells → ℕ → Cells
cells_at rows n = unwrap_or (slice_get rows n) []

abbrev pub result_at : Known → ℕ → List Cells
result_at known n = unwrap_or (slice_get known.results n) []

-- a result's first row is none where it has no row, and a column of that is NULL
abbrev pub value_at : Known → ProgramValue → Value
value_at known (place.Variable n) = at known.variables n
value_at known (place.Column row column) = at (cells_at known.rows row) column
value_at known (place.Rows result) = Int (pos (length (result_at known result)))
value_at known (place.First result column) = at (cells_at (result_at known result) 0) column

abbrev pub arguments : Known → List ProgramValue → Cells
arguments known places = map (value_at known) places

-- ---- steps

abbrev pub most_steps : ℕ
most_steps = 100000

abbrev pub most_statements : ℕ
most_statements = 200

-- one step more, before anything else of it
abbrev pub stepped : Known → Goes → Talk
stepped known go = if nat_lt known.steps most_steps then go (record known { steps = known.steps + 1 }) else Aborts cause.Steps

-- one statement more
abbrev pub asked : Known → ℕ → Cells → (Known → Result (List Cells) Fault → Talk) → Talk
asked known statement args go =
    if nat_lt known.statements most_statements
    then Asks statement args (go (record known { statements = known.statements + 1 }))
    else Aborts cause.Statements

-- with a value, or aborted with its fault
abbrev pub or_abort : {A : Type 0} → Result A Fault → (A → Talk) → Talk
or_abort (Ok x) go = go x
or_abort (Err fault) go = Aborts (cause.Fault fault)

abbrev pub set_variable : Known → ℕ → Value → Known
set_variable known n x = record known { variables = slice_set known.variables n x }

-- the rows of a statement, kept as a result where one is named
abbrev pub keep_rows : Known → Option ℕ → List Cells → Known
keep_rows known None rows = known
keep_rows known (Some n) rows = record known { results = slice_set known.results n rows }

abbrev pub set_row : Known → ℕ → Cells → Known
set_row known n row = record known { rows = slice_set known.rows n row }

-- all steps, one after another
abbrev pub all_of : List Does → Does
all_of [] known go = go known
all_of (first ∷ rest) known go = first known (λ later. all_of rest later go)

-- the steps for each row. Without steps there is nothing to do.
abbrev pub for_each : ℕ → List Does → List Cells → Does
for_each row [] rows known go = go known
for_each row steps [] known go = go known
for_each row (first ∷ rest) (cells ∷ more) known go =
    all_of (first ∷ rest) (set_row known row cells) (λ later. for_each row (first ∷ rest) more later go)

-- what is returned: of a result its rows, of expressions one row, whose fault is the least of theirs
abbrev pub returns : Known → Returned → Talk
returns known returned.Nothing = Returns []
returns known (returned.Result n) = Returns (result_at known n)
returns known (returned.Values args values) =
    or_abort (collected (map (λ e. scalar_of e [] (arguments known args)) values)) (λ row. Returns (row ∷ []))

-- a step whose inner steps have their meaning already
abbrev pub step_does : s Does → Does
step_does (s.Let variable args value) known go =
    stepped known (λ k. or_abort (scalar_of value [] (arguments k args)) (λ x. go (set_variable k variable x)))
step_does (s.Sql statement args result) known go =
    stepped known (λ k. asked k statement (arguments k args) (λ k answer. or_abort answer (λ rows. go (keep_rows k result rows))))
step_does (s.If args condition steps otherwise) known go =
    stepped known (λ k. or_abort (holds condition [] (arguments k args)) (λ is_true. if is_true then all_of steps k go else all_of otherwise k go))
step_does (s.For row result steps) known go = stepped known (λ k. for_each row steps (result_at k result) k go)
step_does (s.Abort text) known go = stepped known (λ k. Aborts (cause.User text))
step_does (s.Return what) known go = stepped known (λ k. returns k what)

abbrev pub does : ProgramStep → Does
does = fold-ProgramStep Does step_does

-- ---- programs

-- NULL for each place that has no value yet
abbrev pub nulls : ℕ → Cells
nulls n = replicate n Null

-- the parameters are the first variables, all others are NULL; each result is without rows
abbrev pub at_start : Program → Cells → Known
at_start program args =
    record {
      variables = args ++ nulls (length program.variables - length args);
      results = map (λ classes. []) program.results;
      rows = replicate program.rows [];
      steps = 0;
      statements = 0;
    }

-- behind its last step a program returns no rows
abbrev pub talk_of : Program → Cells → Talk
talk_of program args = all_of (map does program.steps) (at_start program args) (λ known. Returns [])
