use Rattle.std.proofs.Common.{None, List, [], ◌∷◌, ◌++◌, ap, ◌≡◌, ◌∙◌}
use Rattle.table_rows.specs.Table.{Table, row_fault}
use Rattle.table_store.specs.declared.step.Step.{Step}
use Rattle.table_store.specs.declared.step.Step.TheVariants.{Inserted}
use Rattle.table_store.proofs.ChangeLemmas.{insert_done, at_number}
use Rattle.table_store.proofs.tables.Tables.insert.Goals as goal

pub invariant_of-self-2 : goal.invariant_of-self-2
invariant_of-self-2 c =
    let s = c.self.inside in
    let within = rw (← c.self.view_is) at c.requires.number in
    (insert_done s.undo.steps c.note.new.self.steps s.tables.items c.args.number c.in_ok-key.key c.args.row.now c.index_mut.result.now c.index.result.now c.insert.new.self
    within c.index_mut.ensures.value c.index.ensures c.in_ok-key.ensures c.in_ok-insert.ensures.inserted c.in_ok-insert.ensures.back (c.note.ensures.steps ∙ ap (λ (ss : List Step). ss ++ Inserted c.args.number c.in_ok-key.key ∷ []) c.reserve.ensures.steps) c.self.invariant).0

pub returns-clause-changed : goal.returns-clause-changed
returns-clause-changed c =
    let s = c.self.inside in
    let within = rw (← c.self.view_is) at c.requires.number in
    rw (← c.self.view_is)
    (insert_done s.undo.steps c.note.new.self.steps s.tables.items c.args.number c.in_ok-key.key c.args.row.now c.index_mut.result.now c.index.result.now c.insert.new.self
    within c.index_mut.ensures.value c.index.ensures c.in_ok-key.ensures c.in_ok-insert.ensures.inserted c.in_ok-insert.ensures.back (c.note.ensures.steps ∙ ap (λ (ss : List Step). ss ++ Inserted c.args.number c.in_ok-key.key ∷ []) c.reserve.ensures.steps) c.self.invariant).1

pub returns-clause-accepted : goal.returns-clause-accepted
returns-clause-accepted c =
    let within = rw (← c.self.view_is) at c.requires.number in
    rw (← c.self.view_is)
    (at_number (λ (t : Table). row_fault t c.args.row.now ≡ None) c.self.inside.tables.items c.args.number c.index_mut.result.now within c.index_mut.ensures.value c.in_ok-insert.ensures.accepted)
