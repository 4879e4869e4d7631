use Rattle.std.proofs.Common.{◌≤◌, ◌<◌, refl, sym, subst, ◌∙◌}
use Rattle.table_store.specs.Steps.{AreUndoable}
use Rattle.table_store.proofs.StepLemmas.{length-past}
use Rattle.table_store.proofs.RollLemmas.{not_below, popped, popped_history}
use Rattle.table_store.proofs.tables.Tables.undo_newest.Goals as goal

pub returns-in_default-clause-above : goal.returns-in_default-clause-above
returns-in_default-clause-above c = λ done.
    let s = c.self.inside in
    rw (← c.self.view_is, length-past s.undo.steps s.tables.items) (not_below _ _ c.in_default.ensures.variant.1)

pub undo-requires : goal.undo-requires
undo-requires c =
    let s = c.self.inside in
    (popped c.roll_back.new.self.steps s.undo.steps c.in-Some.step s.tables.items c.in-Some.ensures.newest c.self.invariant).0

pub invariant_of-self-in-Ok : goal.invariant_of-self-in-Ok
invariant_of-self-in-Ok c =
    let s = c.self.inside in
    subst (AreUndoable c.roll_back.new.self.steps) (sym c.in-Ok.ensures.undone)
    (popped c.roll_back.new.self.steps s.undo.steps c.in-Some.step s.tables.items c.in-Some.ensures.newest c.self.invariant).1

pub returns-in-Ok-clause-undone : goal.returns-in-Ok-clause-undone
returns-in-Ok-clause-undone c = λ done.
    let s = c.self.inside in
    rw (← c.self.view_is)
    (popped_history c.roll_back.new.self.steps s.undo.steps c.in-Some.step s.tables.items c.undo.new.tables.items c.in-Some.ensures.newest c.in-Ok.ensures.undone)

pub returns-in-Ok-clause-within : goal.returns-in-Ok-clause-within
returns-in-Ok-clause-within c = λ done.
    let s = c.self.inside in
    rw (← c.self.view_is, length-past s.undo.steps s.tables.items) (c.in-Some.ensures.variant.0 refl)

pub returns-in-Err-clause-below : goal.returns-in-Err-clause-below
returns-in-Err-clause-below c =
    let s = c.self.inside in
    rw (← c.self.view_is, length-past s.undo.steps s.tables.items) (c.in-Some.ensures.variant.0 refl)
