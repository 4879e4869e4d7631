-- Steps that are counted, by their kinds.
use Rattle.std.proofs.Common.{◌≡◌, ℕ, ◌+◌, Bool, true, false, nat_lt, if◌then◌else◌, List, [], ◌∷◌, map, Option, Result, Ok, Err, refl, ap, sym, ◌∙◌}
use Rattle.sql_plan.specs.declared.fault.Fault.{Fault}
use Rattle.sql_plan.specs.declared.expression.Scalar.{Scalar}
use Rattle.sql_plan.specs.declared.expression.Cond.{Cond}
use Rattle.sql_plan.specs.declared.program.ProgramStep.{ProgramStep}
use Rattle.sql_plan.specs.declared.program.ProgramStep.TheOpen.{ProgramStep-F, ProgramStep-F as s}
use Rattle.sql_plan.specs.declared.program.ProgramStep.TheViews.{out-ProgramStep, roll-ProgramStep, out-roll-ProgramStep, roll-out-ProgramStep}
use Rattle.sql_plan.specs.declared.program.ProgramStep.TheVariants as program
use Rattle.sql_plan.specs.declared.program.ProgramValue.{ProgramValue}
use Rattle.sql_plan.specs.declared.program.Returned.{Returned}
use Rattle.sql_plan.specs.declared.program.Returned.TheVariants as returned
use Rattle.sql_plan.specs.declared.fault.RunFault.{RunFault}
use Rattle.sql_plan.specs.declared.fault.RunFault.TheVariants as run
use Rattle.sql_meaning.specs.Judged.{Means, collected}
use Rattle.sql_plan.specs.declared.reply.Cause.TheVariants as cause
use Rattle.sql_plan.specs.Rows.{Cells}
use Rattle.sql_meaning.specs.Expressions.{scalar_of, holds}
use Rattle.sql_meaning.specs.Programs.{Talk, Returns, Aborts, Asks, Known, Goes, most_steps, stepped, asked, or_abort, set_variable, keep_rows, arguments, result_at, all_of, for_each, returns, does}
use Rattle.sql_meaning.proofs.Meanings.{does_Let, does_Sql, does_If, does_For, does_Abort, does_Return}
use Rattle.proc_run.specs.declared.turn.Turn.{Turn}
use Rattle.proc_run.specs.declared.turn.Turn.TheVariants as turn
use Rattle.proc_run.specs.declared.went.Went.{Went}
use Rattle.proc_run.specs.declared.went.Went.TheVariants as went
use Rattle.proc_run.specs.Running.{Left, Resumes, left_in, left_in_step, left_in_rounds, at_statement, in_branch, in_round, resumed, resumed_step, gone, behind, GoesSo, IsAborted, counted}
use Rattle.proc_run.proofs.GoneLemmas.{gone_left, gone_behind}

-- ---- counting

-- a step that may be run goes on with the state in which it is counted
stepped_on : (before known : Known) (go : Goes) → nat_lt before.steps most_steps ≡ true → known ≡ counted before → stepped before go ≡ go known
stepped_on before known go may e = ap (λ b. if b then go (counted before) else Aborts cause.Steps) may ∙ ap go (sym e)

pub stepped_off : (before : Known) (go : Goes) → nat_lt before.steps most_steps ≡ false → stepped before go ≡ Aborts cause.Steps
stepped_off before go may = ap (λ b. if b then go (counted before) else Aborts cause.Steps) may

-- ---- what is left of a step

out_Sql : (statement : ℕ) (args : List ProgramValue) (result : Option ℕ) → out-ProgramStep (program.Sql statement args result) ≡ s.Sql statement args result
out_Sql statement args result = ap out-ProgramStep (sym (program.rolls-Sql statement args result)) ∙ out-roll-ProgramStep (s.Sql statement args result)

out_If : (args : List ProgramValue) (condition : Cond) (xs ys : List ProgramStep) → out-ProgramStep (program.If args condition xs ys) ≡ s.If args condition xs ys
out_If args condition xs ys = ap out-ProgramStep (sym (program.rolls-If args condition xs ys)) ∙ out-roll-ProgramStep (s.If args condition xs ys)

out_For : (row result : ℕ) (xs : List ProgramStep) → out-ProgramStep (program.For row result xs) ≡ s.For row result xs
out_For row result xs = ap out-ProgramStep (sym (program.rolls-For row result xs)) ∙ out-roll-ProgramStep (s.For row result xs)

pub left_of_Sql : (statement : ℕ) (args : List ProgramValue) (result : Option ℕ) (rows : List Cells) (known : Known) (go : Goes)
    → left_in_step (program.Sql statement args result) [] rows known go ≡ go (keep_rows known result rows)
left_of_Sql statement args result rows known go = ap (λ f. at_statement f rows known go) (out_Sql statement args result)

-- what a path leaves in an IF with these branches
abbrev pub left_in_branch : (first second : List ProgramStep) → Left
left_in_branch first second (turn.Branch true ∷ path) rows known go = resumed path first rows known go
left_in_branch first second (turn.Branch false ∷ path) rows known go = resumed path second rows known go
left_in_branch first second _ rows known go = go known

pub left_of_If : (args : List ProgramValue) (condition : Cond) (xs ys : List ProgramStep) (path : List Turn) (rows : List Cells) (known : Known) (go : Goes)
    → left_in_branch xs ys path rows known go ≡ left_in_step (program.If args condition xs ys) path rows known go
left_of_If args condition xs ys [] rows known go = sym (ap (λ f. at_statement f rows known go) (out_If args condition xs ys))
left_of_If args condition xs ys (turn.At n ∷ path) rows known go = refl
left_of_If args condition xs ys (turn.Branch true ∷ path) rows known go = sym (ap (λ f. in_branch f true (resumed path) rows known go) (out_If args condition xs ys))
left_of_If args condition xs ys (turn.Branch false ∷ path) rows known go = sym (ap (λ f. in_branch f false (resumed path) rows known go) (out_If args condition xs ys))
left_of_If args condition xs ys (turn.Round over taken ∷ path) rows known go = sym (ap (λ f. in_round f over taken (resumed path) rows known go) (out_If args condition xs ys))

pub left_of_For : (row result : ℕ) (xs : List ProgramStep) (path : List Turn) (rows : List Cells) (known : Known) (go : Goes)
    → left_in_rounds row xs path rows known go ≡ left_in_step (program.For row result xs) path rows known go
left_of_For row result xs [] rows known go = sym (ap (λ f. at_statement f rows known go) (out_For row result xs))
left_of_For row result xs (turn.At n ∷ path) rows known go = refl
left_of_For row result xs (turn.Branch first ∷ path) rows known go = sym (ap (λ f. in_branch f first (resumed path) rows known go) (out_For row result xs))
left_of_For row result xs (turn.Round over taken ∷ path) rows known go = sym (ap (λ f. in_round f over taken (resumed path) rows known go) (out_For row result xs))

-- ---- each kind of step

module _ (before known later : Known) (w : Went) (may : nat_lt before.steps most_steps ≡ true) (e : known ≡ counted before) where
  pub counted_Let : (n : ℕ) (args : List ProgramValue) (x : Scalar)
      → GoesSo w later (left_in_step (program.Let n args x)) (λ go. or_abort (scalar_of x [] (arguments known args)) (λ v. go (set_variable known n v)))
      → GoesSo w later (left_in_step (program.Let n args x)) (does (program.Let n args x) before)
  counted_Let n args x so go = does_Let before go n args x
      ∙ stepped_on before known (λ k. or_abort (scalar_of x [] (arguments k args)) (λ v. go (set_variable k n v))) may e ∙ so go

  pub counted_Sql : (n : ℕ) (args : List ProgramValue) (result : Option ℕ)
      → GoesSo w later (left_in_step (program.Sql n args result)) (λ go. asked known n (arguments known args) (λ k answer. or_abort answer (λ rows. left_in_step (program.Sql n args result) [] rows k go)))
      → GoesSo w later (left_in_step (program.Sql n args result)) (does (program.Sql n args result) before)
  counted_Sql n args result so go = does_Sql before go n args result
      ∙ stepped_on before known (λ k. asked k n (arguments k args) (λ k answer. or_abort answer (λ rows. go (keep_rows k result rows)))) may e
      ∙ (λ i. asked known n (arguments known args) (λ k answer. or_abort answer (λ rows. sym (left_of_Sql n args result rows k go) i)))
      ∙ so go

  -- what an IF does by what its condition gave
  if_does : (args : List ProgramValue) (condition : Cond) (xs ys : List ProgramStep) (truth : Result Bool Fault) (go : Goes)
      → truth ≡ holds condition [] (arguments known args)
      → does (program.If args condition xs ys) before go ≡ or_abort truth (λ is_true. if is_true then all_of (map does xs) known go else all_of (map does ys) known go)
  if_does args condition xs ys truth go is = does_If before go args condition xs ys
      ∙ stepped_on before known (λ k. or_abort (holds condition [] (arguments k args)) (λ is_true. if is_true then all_of (map does xs) k go else all_of (map does ys) k go)) may e
      ∙ ap (λ t. or_abort t (λ is_true. if is_true then all_of (map does xs) known go else all_of (map does ys) known go)) (sym is)

  pub counted_first : (args : List ProgramValue) (condition : Cond) (xs ys : List ProgramStep)
      → Ok true ≡ holds condition [] (arguments known args)
      → GoesSo w later (left_in xs) (all_of (map does xs) known)
      → GoesSo (behind (turn.Branch true) w) later (left_in_step (program.If args condition xs ys)) (does (program.If args condition xs ys) before)
  counted_first args condition xs ys is so go = if_does args condition xs ys (Ok true) go is ∙ so go
      ∙ gone_left w (left_in xs) (λ path. left_in_step (program.If args condition xs ys) (turn.Branch true ∷ path)) later go (λ path. left_of_If args condition xs ys (turn.Branch true ∷ path))
      ∙ sym (gone_behind (turn.Branch true) w (left_in_step (program.If args condition xs ys)) later go)

  pub counted_second : (args : List ProgramValue) (condition : Cond) (xs ys : List ProgramStep)
      → Ok false ≡ holds condition [] (arguments known args)
      → GoesSo w later (left_in ys) (all_of (map does ys) known)
      → GoesSo (behind (turn.Branch false) w) later (left_in_step (program.If args condition xs ys)) (does (program.If args condition xs ys) before)
  counted_second args condition xs ys is so go = if_does args condition xs ys (Ok false) go is ∙ so go
      ∙ gone_left w (left_in ys) (λ path. left_in_step (program.If args condition xs ys) (turn.Branch false ∷ path)) later go (λ path. left_of_If args condition xs ys (turn.Branch false ∷ path))
      ∙ sym (gone_behind (turn.Branch false) w (left_in_step (program.If args condition xs ys)) later go)

  pub counted_fault : (args : List ProgramValue) (condition : Cond) (xs ys : List ProgramStep) (fault : Fault)
      → Err fault ≡ holds condition [] (arguments known args)
      → GoesSo (went.Aborts (cause.Fault fault)) later (left_in_step (program.If args condition xs ys)) (does (program.If args condition xs ys) before)
  counted_fault args condition xs ys fault is go = if_does args condition xs ys (Err fault) go is

  pub counted_For : (row result : ℕ) (xs : List ProgramStep) (over : List Cells)
      → over ≡ result_at known result
      → GoesSo w later (left_in_rounds row xs) (for_each row (map does xs) over known)
      → GoesSo w later (left_in_step (program.For row result xs)) (does (program.For row result xs) before)
  counted_For row result xs over is so go = does_For before go row result xs
      ∙ stepped_on before known (λ k. for_each row (map does xs) (result_at k result) k go) may e
      ∙ ap (λ rows. for_each row (map does xs) rows known go) (sym is)
      ∙ so go
      ∙ gone_left w (left_in_rounds row xs) (left_in_step (program.For row result xs)) later go (left_of_For row result xs)

  pub counted_Abort : (text : List ℕ) → w ≡ went.Aborts (cause.User text)
      → GoesSo w later (left_in_step (program.Abort text)) (does (program.Abort text) before)
  counted_Abort text is go = does_Abort before go text
      ∙ stepped_on before known (λ k. Aborts (cause.User text)) may e
      ∙ sym (ap (λ w. gone w (left_in_step (program.Abort text)) later go) is)

  pub counted_Return : (what : Returned)
      → GoesSo w later (left_in_step (program.Return what)) (λ go. returns known what)
      → GoesSo w later (left_in_step (program.Return what)) (does (program.Return what) before)
  counted_Return what so go = does_Return before go what ∙ stepped_on before known (λ k. returns k what) may e ∙ so go

-- ---- the same of a step that is known to be of a kind

module _ (before known later : Known) (w : Went) (step : ProgramStep) (may : nat_lt before.steps most_steps ≡ true) (e : known ≡ counted before) where
  pub let_case : (n : ℕ) (args places : List ProgramValue) (x : Scalar) → step ≡ program.Let n args x → places ≡ args
      → ((left : Left) → GoesSo w later left (λ go. or_abort (scalar_of x [] (arguments known places)) (λ v. go (set_variable known n v))))
      → GoesSo w later (left_in_step step) (does step before)
  let_case n args places x is same so = rw is (counted_Let before known later w may e n args x (rw same at (so (left_in_step (program.Let n args x)))))

  pub first_case : (args places : List ProgramValue) (condition : Cond) (xs ys taken : List ProgramStep) → step ≡ program.If args condition xs ys → places ≡ args → taken ≡ xs
      → Ok true ≡ holds condition [] (arguments known places)
      → GoesSo w later (left_in taken) (all_of (map does taken) known)
      → GoesSo (behind (turn.Branch true) w) later (left_in_step step) (does step before)
  first_case args places condition xs ys taken is same these truth so =
      rw is (counted_first before known later w may e args condition xs ys (rw same at truth) (rw these at so))

  pub second_case : (args places : List ProgramValue) (condition : Cond) (xs ys taken : List ProgramStep) → step ≡ program.If args condition xs ys → places ≡ args → taken ≡ ys
      → Ok false ≡ holds condition [] (arguments known places)
      → GoesSo w later (left_in taken) (all_of (map does taken) known)
      → GoesSo (behind (turn.Branch false) w) later (left_in_step step) (does step before)
  second_case args places condition xs ys taken is same these truth so =
      rw is (counted_second before known later w may e args condition xs ys (rw same at truth) (rw these at so))

  pub fault_case : (args places : List ProgramValue) (condition : Cond) (xs ys : List ProgramStep) (fault : Fault) → step ≡ program.If args condition xs ys → places ≡ args
      → Err fault ≡ holds condition [] (arguments known places)
      → GoesSo (went.Aborts (cause.Fault fault)) later (left_in_step step) (does step before)
  fault_case args places condition xs ys fault is same truth =
      rw is (counted_fault before known later w may e args condition xs ys fault (rw same at truth))

  pub for_case : (row result : ℕ) (xs taken : List ProgramStep) (over : List Cells) → step ≡ program.For row result xs → taken ≡ xs → over ≡ result_at known result
      → GoesSo w later (left_in_rounds row taken) (for_each row (map does taken) over known)
      → GoesSo w later (left_in_step step) (does step before)
  for_case row result xs taken over is these rows so = rw is (counted_For before known later w may e row result xs over rows (rw these at so))

-- ---- a fault of an expression

pub aborted_with : {A B : Type 0} → (fault : RunFault) (w : Went) (m : Result B Fault) (view : A → B) → Means (Err fault) view m → IsAborted fault w
    → (left : Left) (known : Known) (next : B → Talk) (go : Goes) → or_abort m next ≡ gone w left known go
aborted_with (run.Fault fault) w m view is e left known next go = ap (λ m. or_abort m next) is ∙ sym (ap (λ w. gone w left known go) e)
aborted_with run.NoMemory w m view is e left known next go = absurd e

pub return_aborts : {A : Type 0} → (known : Known) (places : List ProgramValue) (expressions : List Scalar) (args slice : Cells) (fault : RunFault) (w : Went) (view : A → Cells)
    → slice ≡ args → args ≡ arguments known places
    → Means (Err fault) view (collected (map (λ e. scalar_of e [] slice) expressions)) → IsAborted fault w
    → (left : Left) → GoesSo w known left (λ go. returns known (returned.Values places expressions))
return_aborts known places expressions args slice fault w view s a is aborts left go =
    aborted_with fault w (collected (map (λ e. scalar_of e [] (arguments known places)) expressions)) view (rw (s, a) at is) aborts left known (λ row. Returns (row ∷ [])) go

-- ---- steps that may not be run

module _ (before : Known) (go : Goes) (may : nat_lt before.steps most_steps ≡ false) where
  refused_layer : (f : ProgramStep-F ProgramStep) → does (roll-ProgramStep f) before go ≡ Aborts cause.Steps
  refused_layer (s.Let n args x) = ap (λ t. does t before go) (program.rolls-Let n args x) ∙ does_Let before go n args x
      ∙ stepped_off before (λ k. or_abort (scalar_of x [] (arguments k args)) (λ v. go (set_variable k n v))) may
  refused_layer (s.Sql n args result) = ap (λ t. does t before go) (program.rolls-Sql n args result) ∙ does_Sql before go n args result
      ∙ stepped_off before (λ k. asked k n (arguments k args) (λ k answer. or_abort answer (λ rows. go (keep_rows k result rows)))) may
  refused_layer (s.If args condition xs ys) = ap (λ t. does t before go) (program.rolls-If args condition xs ys) ∙ does_If before go args condition xs ys
      ∙ stepped_off before (λ k. or_abort (holds condition [] (arguments k args)) (λ is_true. if is_true then all_of (map does xs) k go else all_of (map does ys) k go)) may
  refused_layer (s.For row result xs) = ap (λ t. does t before go) (program.rolls-For row result xs) ∙ does_For before go row result xs
      ∙ stepped_off before (λ k. for_each row (map does xs) (result_at k result) k go) may
  refused_layer (s.Abort text) = ap (λ t. does t before go) (program.rolls-Abort text) ∙ does_Abort before go text
      ∙ stepped_off before (λ k. Aborts (cause.User text)) may
  refused_layer (s.Return what) = ap (λ t. does t before go) (program.rolls-Return what) ∙ does_Return before go what
      ∙ stepped_off before (λ k. returns k what) may

  pub refused : (step : ProgramStep) → does step before go ≡ Aborts cause.Steps
  refused step = ap (λ t. does t before go) (sym (roll-out-ProgramStep step)) ∙ refused_layer (out-ProgramStep step)
