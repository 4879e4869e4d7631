-- Steps that go on with the rows of a statement.
use Rattle.std.proofs.Common.{◌≡◌, ℕ, ◌+◌, ◌<◌, ◌≤◌, Bool, true, false, List, [], ◌∷◌, map, drop, length, get_or, slice_get, Option, Some, None, refl, ap, sym, ◌∙◌}
use Rattle.sql_plan.specs.declared.expression.Cond.{Cond}
use Rattle.sql_plan.specs.declared.program.ProgramStep.{ProgramStep}
use Rattle.sql_plan.specs.declared.program.ProgramStep.TheVariants as program
use Rattle.sql_plan.specs.declared.program.ProgramValue.{ProgramValue}
use Rattle.sql_plan.specs.Rows.{Cells}
use Rattle.sql_meaning.specs.Programs.{Known, Goes, all_of, for_each, does}
use Rattle.proc_run.specs.declared.turn.Turn.{Turn}
use Rattle.proc_run.specs.declared.turn.Turn.TheVariants as turn
use Rattle.proc_run.specs.declared.went.Went.{Went}
use Rattle.proc_run.specs.Running.{left_in, left_in_step, left_in_rounds, resumed, resumed_step, is_on, behind, gone, GoesSo}
use Rattle.proc_run.proofs.GoneLemmas.{gone_same, gone_left, gone_behind, on, left_at}
use Rattle.proc_run.proofs.StepLemmas.{left_of_If, left_of_For}

-- ---- among steps

-- the rest of a step, and those behind it
rest_of_step : (steps : List ProgramStep) (n : ℕ) (step : ProgramStep) (path : List Turn) (rows : List Cells) (w : Went) (known later : Known) (go : Goes)
    → n < length steps → step ≡ get_or steps n step → GoesSo w later (left_in_step step) (resumed_step path step rows known)
    → resumed (turn.At n ∷ path) steps rows known go ≡ gone w (left_in_step step) later (λ k. all_of (map does (drop (n + 1) steps)) k go)
rest_of_step steps n step path rows w known later go inside e so =
    left_at steps n step path rows known go inside e ∙ so (λ k. all_of (map does (drop (n + 1) steps)) k go)

pub rest_on : (steps : List ProgramStep) (n : ℕ) (step : ProgramStep) (path : List Turn) (rows : List Cells) (w last : Went) (known later end : Known)
    → n < length steps → step ≡ get_or steps n step → GoesSo w later (left_in_step step) (resumed_step path step rows known) → is_on w ≡ true
    → GoesSo last end (left_in steps) (all_of (map does (drop (n + 1) steps)) later)
    → GoesSo last end (left_in steps) (resumed (turn.At n ∷ path) steps rows known)
rest_on steps n step path rows w last known later end inside e so is then go =
    rest_of_step steps n step path rows w known later go inside e so ∙ on w (left_in_step step) later _ is ∙ then go

pub rest_ends : (steps : List ProgramStep) (n : ℕ) (step : ProgramStep) (path : List Turn) (rows : List Cells) (w : Went) (known later : Known)
    → n < length steps → step ≡ get_or steps n step → GoesSo w later (left_in_step step) (resumed_step path step rows known) → is_on w ≡ false
    → GoesSo (behind (turn.At n) w) later (left_in steps) (resumed (turn.At n ∷ path) steps rows known)
rest_ends steps n step path rows w known later inside e so is go =
    rest_of_step steps n step path rows w known later go inside e so
    ∙ sym (gone_same w (λ path. left_in steps (turn.At n ∷ path)) (left_in_step step) later go (λ k. all_of (map does (drop (n + 1) steps)) k go) is
    (λ path rows k. left_at steps n step path rows k go inside e))
    ∙ sym (gone_behind (turn.At n) w (left_in steps) later go)

-- ---- in an IF

module _ (args : List ProgramValue) (condition : Cond) (xs ys : List ProgramStep) (path : List Turn) (rows : List Cells) (w : Went) (known later : Known) where
  pub rest_of_first : GoesSo w later (left_in xs) (resumed path xs rows known)
      → GoesSo (behind (turn.Branch true) w) later (left_in_step (program.If args condition xs ys)) (resumed_step (turn.Branch true ∷ path) (program.If args condition xs ys) rows known)
  rest_of_first so go =
      sym (left_of_If args condition xs ys (turn.Branch true ∷ path) rows known go)
      ∙ so go
      ∙ gone_left w (left_in xs) (λ path. left_in_step (program.If args condition xs ys) (turn.Branch true ∷ path)) later go (λ path. left_of_If args condition xs ys (turn.Branch true ∷ path))
      ∙ sym (gone_behind (turn.Branch true) w (left_in_step (program.If args condition xs ys)) later go)

  pub rest_of_second : GoesSo w later (left_in ys) (resumed path ys rows known)
      → GoesSo (behind (turn.Branch false) w) later (left_in_step (program.If args condition xs ys)) (resumed_step (turn.Branch false ∷ path) (program.If args condition xs ys) rows known)
  rest_of_second so go =
      sym (left_of_If args condition xs ys (turn.Branch false ∷ path) rows known go)
      ∙ so go
      ∙ gone_left w (left_in ys) (λ path. left_in_step (program.If args condition xs ys) (turn.Branch false ∷ path)) later go (λ path. left_of_If args condition xs ys (turn.Branch false ∷ path))
      ∙ sym (gone_behind (turn.Branch false) w (left_in_step (program.If args condition xs ys)) later go)

-- ---- in a FOR

module _ (row result : ℕ) (xs : List ProgramStep) (over : List Cells) (taken : ℕ) (path : List Turn) (rows : List Cells) (w : Went) (known later : Known)
    (so : GoesSo w later (left_in xs) (resumed path xs rows known)) where
  pub rest_of_round : (last : Went) (end : Known) → is_on w ≡ true
      → GoesSo last end (left_in_rounds row xs) (for_each row (map does xs) (drop taken over) later)
      → GoesSo last end (left_in_step (program.For row result xs)) (resumed_step (turn.Round over taken ∷ path) (program.For row result xs) rows known)
  rest_of_round last end is then go =
      sym (left_of_For row result xs (turn.Round over taken ∷ path) rows known go)
      ∙ so (λ k. for_each row (map does xs) (drop taken over) k go)
      ∙ on w (left_in xs) later _ is
      ∙ then go
      ∙ gone_left last (left_in_rounds row xs) (left_in_step (program.For row result xs)) end go (left_of_For row result xs)

  pub round_stays : is_on w ≡ false
      → GoesSo (behind (turn.Round over taken) w) later (left_in_step (program.For row result xs)) (resumed_step (turn.Round over taken ∷ path) (program.For row result xs) rows known)
  round_stays is go =
      sym (left_of_For row result xs (turn.Round over taken ∷ path) rows known go)
      ∙ so (λ k. for_each row (map does xs) (drop taken over) k go)
      ∙ sym (gone_same w (λ path. left_in_step (program.For row result xs) (turn.Round over taken ∷ path)) (left_in xs) later go
      (λ k. for_each row (map does xs) (drop taken over) k go) is
      (λ path rows k. sym (left_of_For row result xs (turn.Round over taken ∷ path) rows k go)))
      ∙ sym (gone_behind (turn.Round over taken) w (left_in_step (program.For row result xs)) later go)
