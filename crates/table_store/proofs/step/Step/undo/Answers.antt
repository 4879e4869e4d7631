use Rattle.std.proofs.Common.{Ok, ap, ◌∙◌}
use Rattle.table_rows.specs.Table.{updated}
use Rattle.table_store.proofs.ChangeLemmas.{update_undone}
use Rattle.table_store.proofs.step.Step.undo.Goals as goal

pub returns-in-Ok-update-clause-undone : goal.returns-in-Ok-update-clause-undone
returns-in-Ok-update-clause-undone c =
    let can = rw c.in-Updated.is at c.requires in
    rw c.in-Updated.is
    (update_undone c.args.tables.now.items c.in-Updated.number c.in-Updated.key c.in-Updated.row.items c.in-Ok-update.field-0 c.index_mut-in-Updated.result.now c.update.new.self
    can.0 can.1 can.2 c.index_mut-in-Updated.ensures.value c.in-Ok-update.ensures.held (λ is. c.in-Ok-update.ensures.updated (ap Ok is) ∙ ap (updated c.index_mut-in-Updated.result.now) c.as_slice-in-Updated.ensures.value))
