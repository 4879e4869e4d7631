use Rattle.std.proofs.Common.{List, [], ◌∷◌, ◌++◌, ◌⊎◌, Some, None, true, false, is_some, refl, sym, ap, ◌≡◌, ◌∙◌}
use Rattle.std.proofs.lemmas.Result.{err_from_is_err_and}
use Rattle.row_codec.specs.declared.fault.RowFault.TheVariants.{NoMemory}
use Rattle.table_rows.specs.Table.{Table, row_of_key, row_fault, deleted}
use Rattle.table_store.specs.declared.step.Step.{Step}
use Rattle.table_store.specs.declared.step.Step.TheVariants.{Updated}
use Rattle.table_store.proofs.ChangeLemmas.{update_done, at_number}
use Rattle.table_store.proofs.tables.Tables.update.Goals as goal

pub returns-in_err-old-clause-refused : goal.returns-in_err-old-clause-refused
returns-in_err-old-clause-refused c =
    let within = rw (← c.self.view_is) at c.requires.number in
    let fault = c.in_err-old.field-0.0 in
    let p = err_from_is_err_and c.from_residual-in_err-old.result c.from_residual-in_err-old.ensures.1 in
    rw (p.1, p.2, ← c.self.view_is)
    (at_number (λ (t : Table). (fault ≡ NoMemory) ⊎ (row_fault (deleted t c.args.key.now) c.args.row.now ≡ Some fault)) c.self.inside.tables.items c.args.number
    c.index_mut.result.now within c.index_mut.ensures.value c.in_err-old.ensures.refused)

pub returns-in_default-clause-held : goal.returns-in_default-clause-held
returns-in_default-clause-held c =
    let within = rw (← c.self.view_is) at c.requires.number in
    rw (← c.self.view_is)
    (at_number (λ (t : Table). false ≡ is_some (row_of_key t c.args.key.now)) c.self.inside.tables.items c.args.number c.index_mut.result.now within c.index_mut.ensures.value
    (ap is_some (rw c.in_default.is at c.in_ok-old.ensures.held)))

pub invariant_of-self-2 : goal.invariant_of-self-2
invariant_of-self-2 c =
    let s = c.self.inside in
    let within = rw (← c.self.view_is) at c.requires.number in
    let stays = rw (← c.self.view_is) at c.requires.stays in
    let step = Updated c.args.number c.in_ok-old_key.old_key c.in-Some.old in
    (update_done s.undo.steps c.note.new.self.steps s.tables.items c.args.number c.args.key.now c.in_ok-old_key.old_key step c.args.row.now c.in-Some.old.items c.index_mut.result.now c.index.result.now c.replace.new.self
    within c.index_mut.ensures.value c.index.ensures (sym (rw c.in-Some.is at c.in_ok-old.ensures.held)) stays c.in_ok-old_key.ensures (rw c.in-Some.is at c.in_ok-old.ensures.updated) (rw c.in-Some.is at c.in_ok-old.ensures.back) refl (λ can. can)
    (c.note.ensures.steps ∙ ap (λ (ss : List Step). ss ++ step ∷ []) c.reserve.ensures.steps) c.self.invariant).0

pub returns-clause-held : goal.returns-clause-held
returns-clause-held c =
    let within = rw (← c.self.view_is) at c.requires.number in
    rw (← c.self.view_is)
    (at_number (λ (t : Table). true ≡ is_some (row_of_key t c.args.key.now)) c.self.inside.tables.items c.args.number c.index_mut.result.now within c.index_mut.ensures.value
    (ap is_some (rw c.in-Some.is at c.in_ok-old.ensures.held)))

pub returns-clause-changed : goal.returns-clause-changed
returns-clause-changed c = λ done.
    let s = c.self.inside in
    let within = rw (← c.self.view_is) at c.requires.number in
    let stays = rw (← c.self.view_is) at c.requires.stays in
    let step = Updated c.args.number c.in_ok-old_key.old_key c.in-Some.old in
    rw (← c.self.view_is)
    (update_done s.undo.steps c.note.new.self.steps s.tables.items c.args.number c.args.key.now c.in_ok-old_key.old_key step c.args.row.now c.in-Some.old.items c.index_mut.result.now c.index.result.now c.replace.new.self
    within c.index_mut.ensures.value c.index.ensures (sym (rw c.in-Some.is at c.in_ok-old.ensures.held)) stays c.in_ok-old_key.ensures (rw c.in-Some.is at c.in_ok-old.ensures.updated) (rw c.in-Some.is at c.in_ok-old.ensures.back) refl (λ can. can)
    (c.note.ensures.steps ∙ ap (λ (ss : List Step). ss ++ step ∷ []) c.reserve.ensures.steps) c.self.invariant).1

pub returns-clause-accepted : goal.returns-clause-accepted
returns-clause-accepted c = λ done.
    let within = rw (← c.self.view_is) at c.requires.number in
    rw (← c.self.view_is)
    (at_number (λ (t : Table). row_fault (deleted t c.args.key.now) c.args.row.now ≡ None) c.self.inside.tables.items c.args.number c.index_mut.result.now within c.index_mut.ensures.value
    (rw c.in-Some.is at c.in_ok-old.ensures.accepted))
