use Rattle.std.proofs.Common.{List, [], ◌∷◌, ◌++◌, true, false, is_some, refl, ap, ◌≡◌, ◌∙◌}
use Rattle.table_rows.specs.Table.{Table, row_of_key}
use Rattle.table_store.specs.declared.step.Step.{Step}
use Rattle.table_store.specs.declared.step.Step.TheVariants.{Deleted}
use Rattle.table_store.proofs.ChangeLemmas.{delete_done, at_number}
use Rattle.table_store.proofs.tables.Tables.delete.Goals as goal

pub returns-in_default-clause-held : goal.returns-in_default-clause-held
returns-in_default-clause-held c =
    let within = rw (← c.self.view_is) at c.requires in
    rw (← c.self.view_is)
    (at_number (λ (t : Table). false ≡ is_some (row_of_key t c.args.key.now)) c.self.inside.tables.items c.args.number c.index_mut.result.now within c.index_mut.ensures.value
    (ap is_some (rw c.in_default.is at c.in_ok-row.ensures.taken)))

pub invariant_of-self-2 : goal.invariant_of-self-2
invariant_of-self-2 c =
    let s = c.self.inside in
    let within = rw (← c.self.view_is) at c.requires in
    let step = Deleted c.args.number c.in-Some.row in
    (delete_done s.undo.steps c.note.new.self.steps s.tables.items c.args.number c.args.key.now step c.in-Some.row.items c.index_mut.result.now c.take.new.self
    within c.index_mut.ensures.value c.in_ok-row.ensures.deleted (rw c.in-Some.is at c.in_ok-row.ensures.back) refl (λ can. can)
    (c.note.ensures.steps ∙ ap (λ (ss : List Step). ss ++ step ∷ []) c.reserve.ensures.steps) c.self.invariant).0

pub returns-clause-held : goal.returns-clause-held
returns-clause-held c =
    let within = rw (← c.self.view_is) at c.requires in
    rw (← c.self.view_is)
    (at_number (λ (t : Table). true ≡ is_some (row_of_key t c.args.key.now)) c.self.inside.tables.items c.args.number c.index_mut.result.now within c.index_mut.ensures.value
    (ap is_some (rw c.in-Some.is at c.in_ok-row.ensures.taken)))

pub returns-clause-changed : goal.returns-clause-changed
returns-clause-changed c = λ done.
    let s = c.self.inside in
    let within = rw (← c.self.view_is) at c.requires in
    let step = Deleted c.args.number c.in-Some.row in
    rw (← c.self.view_is)
    (delete_done s.undo.steps c.note.new.self.steps s.tables.items c.args.number c.args.key.now step c.in-Some.row.items c.index_mut.result.now c.take.new.self
    within c.index_mut.ensures.value c.in_ok-row.ensures.deleted (rw c.in-Some.is at c.in_ok-row.ensures.back) refl (λ can. can)
    (c.note.ensures.steps ∙ ap (λ (ss : List Step). ss ++ step ∷ []) c.reserve.ensures.steps) c.self.invariant).1
