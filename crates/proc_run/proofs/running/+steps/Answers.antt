use Rattle.std.proofs.Common.{◌≡◌, ◌∙◌, ap, sym, [], ◌+◌, ◌≤◌, length, Bool, false, true, Ok, arith}
use Rattle.sql_meaning.specs.Programs.{cells_at, set_row}
use Rattle.proc_run.specs.declared.turn.Turn.TheVariants as turn
use Rattle.proc_run.specs.declared.went.Went.TheVariants as went
use Rattle.proc_run.specs.Running.{left_in, left_in_rounds, is_on, behind, gone}
use Rattle.proc_run.proofs.GoneLemmas.{if_ok, step_ends, are_some, round_on, round_ends, no_more_rounds}
use Rattle.proc_run.proofs.StepLemmas.{let_case, for_case, first_case, second_case, fault_case}
use Rattle.proc_run.proofs.running.+steps.Goals as goal

pub do_step-returns-in-Let : goal.do_step-returns-in-Let
do_step-returns-in-Let t c = if_ok c.do_let.result
    (λ w so before may e. let_case before c.args.known.now c.do_let.new.known w c.args.step.now may e
    c.in-Let.variable c.in-Let.args c.as_slice.result.now c.in-Let.value c.in-Let.is c.as_slice.ensures so)
    c.do_let.ensures

pub do_step-returns-in_ok-over-in-For : goal.do_step-returns-in_ok-over-in-For
do_step-returns-in_ok-over-in-For t c = if_ok c.rounds.result
    (λ w so before may e. for_case before c.args.known.now c.rounds.new.known w c.args.step.now may e
    c.in-For.row c.in-For.result c.in-For.steps c.as_slice-in-For.result.now c.in_ok-over-in-For.over c.in-For.is c.as_slice-in-For.ensures c.in_ok-over-in-For.ensures so)
    c.rounds.ensures

pub do_step-returns-in_ok-went-in-Ok-true : goal.do_step-returns-in_ok-went-in-Ok-true
do_step-returns-in_ok-went-in-Ok-true t c = if_ok c.behind.result
    (λ w is before may e. rw is (first_case before c.args.known.now c.go_from.new.known c.in_ok-went-in-Ok-true.went c.args.step.now may e
    c.in-If.args c.as_slice-in-If.result.now c.in-If.condition c.in-If.steps c.in-If.otherwise c.as_slice-in-Ok-true.result.now
    c.in-If.is c.as_slice-in-If.ensures c.as_slice-in-Ok-true.ensures
    (sym (c.in-Ok-true.is ∙ ap Ok c.in-Ok-true.field-0-test) ∙ c.in_ok-chosen-in-If.ensures) c.in_ok-went-in-Ok-true.ensures))
    c.behind.ensures

pub do_step-returns-in_ok-went-in-Ok-false : goal.do_step-returns-in_ok-went-in-Ok-false
do_step-returns-in_ok-went-in-Ok-false t c = if_ok c.behind-in-Ok-false.result
    (λ w is before may e. rw is (second_case before c.args.known.now c.go_from-in-Ok-false.new.known c.in_ok-went-in-Ok-false.went c.args.step.now may e
    c.in-If.args c.as_slice-in-If.result.now c.in-If.condition c.in-If.steps c.in-If.otherwise c.as_slice-in-Ok-false.result.now
    c.in-If.is c.as_slice-in-If.ensures c.as_slice-in-Ok-false.ensures
    (sym (c.in-Ok-false.is ∙ ap Ok c.in-Ok-false.field-0-test) ∙ c.in_ok-chosen-in-If.ensures) c.in_ok-went-in-Ok-false.ensures))
    c.behind-in-Ok-false.ensures

pub do_step-returns-in-Err : goal.do_step-returns-in-Err
do_step-returns-in-Err t c = λ before may e. fault_case before c.args.known.now c.args.known.now went.On c.args.step.now may e
    c.in-If.args c.as_slice-in-If.result.now c.in-If.condition c.in-If.steps c.in-If.otherwise c.in-Err.fault
    c.in-If.is c.as_slice-in-If.ensures (sym c.in-Err.is ∙ c.in_ok-chosen-in-If.ensures)

pub go_from-returns-then-not-is_on : goal.go_from-returns-then-not-is_on
go_from-returns-then-not-is_on t c = if_ok c.behind.result
    (λ w is go. c.loop-number.invariant go
    ∙ step_ends c.args.steps.now c.loop-number.number c.index-steps-number.result c.in_ok-went.went c.loop-number.known c.step.new.known
    c.loop-number-test.true c.index-steps-number.is c.in_ok-went.ensures (sym c.is_on.ensures ∙ c.if-not-is_on.true) go
    ∙ ap (λ w. gone w (left_in c.args.steps.now) c.step.new.known go) (sym is))
    c.behind.ensures

pub rounds-returns-then-not-is_on : goal.rounds-returns-then-not-is_on
rounds-returns-then-not-is_on t c = λ go.
    c.loop-number.invariant go
    ∙ round_ends c.args.row c.args.steps.now c.args.over.now c.loop-number.number c.in_ok-went.went c.loop-number.known c.set_row.new.self c.go_from.new.known
    (are_some c.args.steps.now c.is_empty.result c.is_empty.ensures c.if-is_empty.false)
    (rw c.len-number-end.ensures at c.loop-number-test.true)
    (c.set_row.ensures ∙ ap (set_row c.loop-number.known c.args.row) (c.of.ensures ∙ ap (λ rows. cells_at rows c.loop-number.number) c.in_ok-share.ensures))
    c.in_ok-went.ensures (sym c.is_on.ensures ∙ c.if-not-is_on.true) go
    ∙ ap (λ over. gone (behind (turn.Round over (c.loop-number.number + 1)) c.in_ok-went.went) (left_in_rounds c.args.row c.args.steps.now) c.go_from.new.known go) (sym c.in_ok-over.ensures)
    ∙ ap (λ w. gone w (left_in_rounds c.args.row c.args.steps.now) c.go_from.new.known go) (sym c.in_ok-ended.ensures)

pub rounds-loop-number-preserved : goal.rounds-loop-number-preserved
rounds-loop-number-preserved t c = λ go.
    c.loop-number.invariant go
    ∙ round_on c.args.row c.args.steps.now c.args.over.now c.loop-number.number c.in_ok-went.went c.loop-number.known c.set_row.new.self c.go_from.new.known
    (are_some c.args.steps.now c.is_empty.result c.is_empty.ensures c.if-is_empty.false)
    (rw c.len-number-end.ensures at c.loop-number-test.true)
    (c.set_row.ensures ∙ ap (set_row c.loop-number.known c.args.row) (c.of.ensures ∙ ap (λ rows. cells_at rows c.loop-number.number) c.in_ok-share.ensures))
    c.in_ok-went.ensures (sym c.is_on.ensures ∙ c.if-not-is_on.false) go

pub rounds-returns : goal.rounds-returns
rounds-returns t c = λ go. c.loop-number.invariant go ∙ no_more_rounds c.args.row c.args.steps.now c.args.over.now c.loop-number.number c.loop-number.known go (omega arith)
