-- How far steps went, one behind another.
use Rattle.std.proofs.Common.{◌≡◌, ℕ, ◌+◌, ◌<◌, ◌≤◌, ◌==◌, Bool, true, false, List, [], ◌∷◌, map, drop, length, get_or, slice_get, Option, Some, None, Result, Ok, Err, IfOk, refl, ap, sym, ◌∙◌, arith}
use Rattle.std.proofs.lemmas.Bool.{both_ways}
use Rattle.std.proofs.lemmas.List.{drop_more}
use Rattle.std.proofs.lemmas.Option.{slice_get_read, unwrap_or-slice_get}
use Rattle.std.proofs.Math.ListN.{drop_of_length-le}
use Rattle.sql_plan.specs.declared.program.ProgramStep.{ProgramStep}
use Rattle.sql_plan.specs.Rows.{Cells}
use Rattle.sql_meaning.specs.Programs.{Talk, Asks, Known, Goes, or_abort, cells_at, set_row, all_of, for_each, does}
use Rattle.proc_run.specs.declared.turn.Turn.{Turn}
use Rattle.proc_run.specs.declared.turn.Turn.TheVariants as turn
use Rattle.proc_run.specs.declared.went.Went.{Went}
use Rattle.proc_run.specs.declared.went.Went.TheVariants as went
use Rattle.proc_run.specs.Running.{Left, left_in, left_in_step, left_in_rounds, in_steps, resumed_step, is_on, behind, gone, GoesSo}

-- of an answer that isn't want of memory
pub if_ok : {A E : Type 0} {P Q : A → Type 0} → (r : Result A E) → ((x : A) → P x → Q x) → IfOk r P → IfOk r Q
if_ok (Ok x) f p = f x p
if_ok (Err e) f p = tt

-- the same is left, so the talk goes on in the same way
pub gone_same : (w : Went) (left other : Left) (known : Known) (go next : Goes)
    → is_on w ≡ false → ((path : List Turn) (rows : List Cells) (k : Known) → left path rows k go ≡ other path rows k next)
    → gone w left known go ≡ gone w other known next
gone_same went.On left other known go next e same = absurd (cc)
gone_same (went.Asks statement args path) left other known go next e same =
    λ i. Asks statement args.items (λ answer. or_abort answer (λ rows. same path rows known i))
gone_same (went.Returns rows) left other known go next e same = refl
gone_same (went.Aborts why) left other known go next e same = refl

-- the same is left, with the same behind it
pub gone_left : (w : Went) (left other : Left) (known : Known) (go : Goes)
    → ((path : List Turn) (rows : List Cells) (k : Known) (go : Goes) → left path rows k go ≡ other path rows k go)
    → gone w left known go ≡ gone w other known go
gone_left went.On left other known go same = refl
gone_left (went.Asks statement args path) left other known go same =
    λ i. Asks statement args.items (λ answer. or_abort answer (λ rows. same path rows known go i))
gone_left (went.Returns rows) left other known go same = refl
gone_left (went.Aborts why) left other known go same = refl

pub gone_behind : (t : Turn) (w : Went) (left : Left) (known : Known) (go : Goes)
    → gone (behind t w) left known go ≡ gone w (λ path. left (t ∷ path)) known go
gone_behind t went.On left known go = refl
gone_behind t (went.Asks statement args path) left known go = refl
gone_behind t (went.Returns rows) left known go = refl
gone_behind t (went.Aborts why) left known go = refl

-- steps that went to their end
pub on : (w : Went) (left : Left) (known : Known) (go : Goes) → is_on w ≡ true → gone w left known go ≡ go known
on went.On left known go e = refl
on (went.Asks statement args path) left known go e = absurd (cc)
on (went.Returns rows) left known go e = absurd (cc)
on (went.Aborts why) left known go e = absurd (cc)

-- ---- lists

cut : {A : Type 0} → (xs : List A) (n : ℕ) (x : A) → n < length xs → x ≡ get_or xs n x → drop n xs ≡ x ∷ drop (n + 1) xs
cut xs n x inside e = drop_more xs n x inside ∙ ap (λ y. y ∷ drop (n + 1) xs) (sym e)

-- ---- steps, one behind another

-- what a step did before those behind it
pub one_step : (steps : List ProgramStep) (n : ℕ) (step : ProgramStep) (w : Went) (known later : Known) (go : Goes)
    → n < length steps → step ≡ get_or steps n step → GoesSo w later (left_in_step step) (does step known)
    → all_of (map does (drop n steps)) known go ≡ gone w (left_in_step step) later (λ k. all_of (map does (drop (n + 1) steps)) k go)
one_step steps n step w known later go inside e so =
    ap (λ rest. all_of (map does rest) known go) (cut steps n step inside e) ∙ so (λ k. all_of (map does (drop (n + 1) steps)) k go)

-- where it went to its end
pub step_on : (steps : List ProgramStep) (n : ℕ) (step : ProgramStep) (w : Went) (known later : Known)
    → n < length steps → step ≡ get_or steps n step → GoesSo w later (left_in_step step) (does step known) → is_on w ≡ true
    → (go : Goes) → all_of (map does (drop n steps)) known go ≡ all_of (map does (drop (n + 1) steps)) later go
step_on steps n step w known later inside e so is go =
    one_step steps n step w known later go inside e so ∙ on w (left_in_step step) later _ is

-- what is left behind the turn to a step
pub left_at : (steps : List ProgramStep) (n : ℕ) (step : ProgramStep) (path : List Turn) (rows : List Cells) (known : Known) (go : Goes)
    → n < length steps → step ≡ get_or steps n step
    → left_in steps (turn.At n ∷ path) rows known go ≡ left_in_step step path rows known (λ k. all_of (map does (drop (n + 1) steps)) k go)
left_at steps n step path rows known go inside e =
    ap (λ o. in_steps o (resumed_step path) (drop (n + 1) steps) rows known go) (slice_get_read steps (length steps) n step refl inside e)

-- where it didn't
pub step_ends : (steps : List ProgramStep) (n : ℕ) (step : ProgramStep) (w : Went) (known later : Known)
    → n < length steps → step ≡ get_or steps n step → GoesSo w later (left_in_step step) (does step known) → is_on w ≡ false
    → GoesSo (behind (turn.At n) w) later (left_in steps) (all_of (map does (drop n steps)) known)
step_ends steps n step w known later inside e so is go =
    one_step steps n step w known later go inside e so
    ∙ sym (gone_same w (λ path. left_in steps (turn.At n ∷ path)) (left_in_step step) later go (λ k. all_of (map does (drop (n + 1) steps)) k go) is
    (λ path rows k. left_at steps n step path rows k go inside e))
    ∙ sym (gone_behind (turn.At n) w (left_in steps) later go)

pub no_more_steps : (steps : List ProgramStep) (n : ℕ) (known : Known) (go : Goes) → length steps ≤ n → all_of (map does (drop n steps)) known go ≡ go known
no_more_steps steps n known go past = ap (λ rest. all_of (map does rest) known go) (drop_of_length-le steps past)

-- ---- rounds

pub are_some : {A : Type 0} (xs : List A) (b : Bool) → b ≡ (length xs == 0) → b ≡ false → xs ≡ [] → ⊥
are_some [] b e f g = both_ways b f e
are_some (x ∷ xs) b e f g = cc

pub no_rounds : (row : ℕ) (rows : List Cells) (known : Known) (go : Goes) → for_each row [] rows known go ≡ go known
no_rounds row rows known go = refl

pub no_more_rounds : (row : ℕ) (steps : List ProgramStep) (over : List Cells) (n : ℕ) (known : Known) (go : Goes) → length over ≤ n
    → for_each row (map does steps) (drop n over) known go ≡ go known
no_more_rounds row [] over n known go past = refl
no_more_rounds row (step ∷ steps) over n known go past = ap (λ rest. for_each row (map does (step ∷ steps)) rest known go) (drop_of_length-le over past)

-- a row among those that are left
row_at : (over : List Cells) (n : ℕ) → n < length over → drop n over ≡ cells_at over n ∷ drop (n + 1) over
row_at over n inside = drop_more over n [] inside ∙ ap (λ x. x ∷ drop (n + 1) over) (sym (unwrap_or-slice_get over n []))

-- the next round, and those behind it
next_round : (row : ℕ) (steps : List ProgramStep) (over : List Cells) (n : ℕ) (known : Known) (go : Goes)
    → (steps ≡ [] → ⊥) → n < length over
    → for_each row (map does steps) (drop n over) known go
    ≡ all_of (map does steps) (set_row known row (cells_at over n)) (λ k. for_each row (map does steps) (drop (n + 1) over) k go)
next_round row [] over n known go some inside = absurd (some refl)
next_round row (step ∷ steps) over n known go some inside = ap (λ rest. for_each row (map does (step ∷ steps)) rest known go) (row_at over n inside)

pub round_on : (row : ℕ) (steps : List ProgramStep) (over : List Cells) (n : ℕ) (w : Went) (known at later : Known)
    → (steps ≡ [] → ⊥) → n < length over → at ≡ set_row known row (cells_at over n)
    → GoesSo w later (left_in steps) (all_of (map does steps) at) → is_on w ≡ true
    → (go : Goes) → for_each row (map does steps) (drop n over) known go ≡ for_each row (map does steps) (drop (n + 1) over) later go
round_on row steps over n w known at later some inside e so is go =
    next_round row steps over n known go some inside
    ∙ ap (λ k. all_of (map does steps) k (λ k. for_each row (map does steps) (drop (n + 1) over) k go)) (sym e)
    ∙ so (λ k. for_each row (map does steps) (drop (n + 1) over) k go)
    ∙ on w (left_in steps) later _ is

pub round_ends : (row : ℕ) (steps : List ProgramStep) (over : List Cells) (n : ℕ) (w : Went) (known at later : Known)
    → (steps ≡ [] → ⊥) → n < length over → at ≡ set_row known row (cells_at over n)
    → GoesSo w later (left_in steps) (all_of (map does steps) at) → is_on w ≡ false
    → GoesSo (behind (turn.Round over (n + 1)) w) later (left_in_rounds row steps) (for_each row (map does steps) (drop n over) known)
round_ends row steps over n w known at later some inside e so is go =
    next_round row steps over n known go some inside
    ∙ ap (λ k. all_of (map does steps) k (λ k. for_each row (map does steps) (drop (n + 1) over) k go)) (sym e)
    ∙ so (λ k. for_each row (map does steps) (drop (n + 1) over) k go)
    ∙ sym (gone_same w (λ path. left_in_rounds row steps (turn.Round over (n + 1) ∷ path)) (left_in steps) later go
    (λ k. for_each row (map does steps) (drop (n + 1) over) k go) is (λ path rows k. refl))
    ∙ sym (gone_behind (turn.Round over (n + 1)) w (left_in_rounds row steps) later go)
