-- A program gives up at the first fault of a statement.
use Rattle.std.proofs.Common.{◌≡◌, ℕ, ◌+◌, Bool, true, false, if◌then◌else◌, nat_lt, List, [], ◌∷◌, map, Option, Result, Ok, Err, sym, refl, subst}
use Rattle.sql_plan.specs.declared.fault.Fault.{Fault}
use Rattle.sql_plan.specs.declared.reply.Cause.TheVariants as cause
use Rattle.sql_plan.specs.declared.program.Program.{Program}
use Rattle.sql_plan.specs.declared.program.ProgramStep.{ProgramStep, roll-ProgramStep, map-ProgramStep}
use Rattle.sql_plan.specs.declared.program.ProgramStep.TheOpen.{ProgramStep-F as s}
use Rattle.sql_plan.specs.declared.program.ProgramStep.TheFolds.{fold-roll-ProgramStep, ind-ProgramStep}
use Rattle.sql_plan.specs.declared.program.Returned.{Returned}
use Rattle.sql_plan.specs.declared.program.Returned.TheVariants as returned
use Rattle.sql_plan.specs.Rows.{Cells}
use Rattle.sql_meaning.specs.Judged.{collected}
use Rattle.sql_meaning.specs.Expressions.{scalar_of, holds}
use Rattle.sql_meaning.specs.Programs.{Talk, Returns, Aborts, Asks, Known, Goes, Does, result_at, arguments, most_steps, stepped, most_statements, asked, or_abort, set_variable, keep_rows, set_row, all_of, for_each, returns, step_does, does, at_start, talk_of}

-- behind a fault of a statement a talk is aborted with it
abbrev pub GivesUp : Talk → Type 0
GivesUp (Returns rows) = Unit {0}
GivesUp (Aborts cause) = Unit {0}
GivesUp (Asks statement args go) = ((rows : List Cells) → GivesUp (go (Ok rows))) × ((fault : Fault) → go (Err fault) ≡ Aborts (cause.Fault fault))

-- a step gives up where what comes behind it does
abbrev Steady : Does → Type 0
Steady does = (known : Known) (go : Goes) → ((later : Known) → GivesUp (go later)) → GivesUp (does known go)

gives_if : (b : Bool) (x y : Talk) → GivesUp x → GivesUp y → GivesUp (if b then x else y)
gives_if true x y h k = h
gives_if false x y h k = k

gives_or : {A : Type 0} (r : Result A Fault) (go : A → Talk) → ((x : A) → GivesUp (go x)) → GivesUp (or_abort r go)
gives_or (Ok x) go h = h x
gives_or (Err fault) go h = tt

gives_stepped : (known : Known) (go : Goes) → ((later : Known) → GivesUp (go later)) → GivesUp (stepped known go)
gives_stepped known go h =
    gives_if (nat_lt known.steps most_steps) (go (record known { steps = known.steps + 1 })) (Aborts cause.Steps) (h (record known { steps = known.steps + 1 })) tt

gives_asked : (known : Known) (statement : ℕ) (args : Cells) (result : Option ℕ) (go : Goes) → ((later : Known) → GivesUp (go later))
    → GivesUp (asked known statement args (λ k answer. or_abort answer (λ rows. go (keep_rows k result rows))))
gives_asked known statement args result go h =
    gives_if (nat_lt known.statements most_statements)
    (Asks statement args (λ answer. or_abort answer (λ rows. go (keep_rows (record known { statements = known.statements + 1 }) result rows))))
    (Aborts cause.Statements)
    (λ rows. h (keep_rows (record known { statements = known.statements + 1 }) result rows), λ fault. refl) tt

-- ---- steps

abbrev Told : Type 0
Told = (step : ProgramStep) × Steady (does step)

abbrev meant : List Told → List Does
meant steps = map does (map (λ (step : Told). step.0) steps)

all_steady : (steps : List Told) → Steady (all_of (meant steps))
all_steady [] known go h = h known
all_steady (step ∷ steps) known go h = step.1 known (λ later. all_of (meant steps) later go) (λ later. all_steady steps later go h)

each_steady : (row : ℕ) (step : Told) (steps : List Told) (rows : List Cells) → Steady (for_each row (meant (step ∷ steps)) rows)
each_steady row step steps [] known go h = h known
each_steady row step steps (cells ∷ rows) known go h =
    all_steady (step ∷ steps) (set_row known row cells) (λ later. for_each row (meant (step ∷ steps)) rows later go) (λ later. each_steady row step steps rows later go h)

for_steady : (row : ℕ) (steps : List Told) (rows : List Cells) → Steady (for_each row (meant steps) rows)
for_steady row [] rows known go h = h known
for_steady row (step ∷ steps) rows known go h = each_steady row step steps rows known go h

returns_steady : (known : Known) (what : Returned) → GivesUp (returns known what)
returns_steady known returned.Nothing = tt
returns_steady known (returned.Result n) = tt
returns_steady known (returned.Values args values) =
    gives_or (collected (map (λ e. scalar_of e [] (arguments known args)) values)) (λ row. Returns (row ∷ [])) (λ row. tt)

layer_steady : (y : s Told) → Steady (step_does (map-ProgramStep ProgramStep Does does (map-ProgramStep Told ProgramStep (λ e. e.0) y)))
layer_steady (s.Let variable args value) known go h =
    gives_stepped known (λ k. or_abort (scalar_of value [] (arguments k args)) (λ x. go (set_variable k variable x)))
    (λ k. gives_or (scalar_of value [] (arguments k args)) (λ x. go (set_variable k variable x)) (λ x. h (set_variable k variable x)))
layer_steady (s.Sql statement args result) known go h =
    gives_stepped known (λ k. asked k statement (arguments k args) (λ k answer. or_abort answer (λ rows. go (keep_rows k result rows))))
    (λ k. gives_asked k statement (arguments k args) result go h)
layer_steady (s.If args condition steps otherwise) known go h =
    gives_stepped known (λ k. or_abort (holds condition [] (arguments k args)) (λ is_true. if is_true then all_of (meant steps) k go else all_of (meant otherwise) k go))
    (λ k. gives_or (holds condition [] (arguments k args)) (λ is_true. if is_true then all_of (meant steps) k go else all_of (meant otherwise) k go)
    (λ is_true. gives_if is_true (all_of (meant steps) k go) (all_of (meant otherwise) k go) (all_steady steps k go h) (all_steady otherwise k go h)))
layer_steady (s.For row result steps) known go h =
    gives_stepped known (λ k. for_each row (meant steps) (result_at k result) k go) (λ k. for_steady row steps (result_at k result) k go h)
layer_steady (s.Abort text) known go h = gives_stepped known (λ k. Aborts (cause.User text)) (λ k. tt)
layer_steady (s.Return what) known go h = gives_stepped known (λ k. returns k what) (λ k. returns_steady k what)

does_roll : (x : s ProgramStep) → does (roll-ProgramStep x) ≡ step_does (map-ProgramStep ProgramStep Does does x)
does_roll x = fold-roll-ProgramStep Does step_does x

step_steady : (step : ProgramStep) → Steady (does step)
step_steady =
    ind-ProgramStep (λ step. Steady (does step)) (λ x y is.
    subst Steady (sym (does_roll x)) (subst (λ z. Steady (step_does (map-ProgramStep ProgramStep Does does z))) is (layer_steady y)))

steps_steady : (steps : List ProgramStep) → Steady (all_of (map does steps))
steps_steady [] known go h = h known
steps_steady (step ∷ steps) known go h = step_steady step known (λ later. all_of (map does steps) later go) (λ later. steps_steady steps later go h)

pub talk-gives_up : (program : Program) (args : Cells) → GivesUp (talk_of program args)
talk-gives_up program args = steps_steady program.steps (at_start program args) (λ known. Returns []) (λ later. tt)
