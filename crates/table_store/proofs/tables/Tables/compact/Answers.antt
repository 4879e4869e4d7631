use Rattle.std.proofs.Common.{List, ap, sym, subst}
use Rattle.table_rows.specs.Table.{Table}
use Rattle.table_store.specs.Steps.{past_of, AreUndoable}
use Rattle.table_store.proofs.ScanLemmas.{with_same}
use Rattle.table_store.proofs.tables.Tables.compact.Goals as goal

pub invariant_of-self : goal.invariant_of-self
invariant_of-self c =
    let s = c.self.inside in
    let within = rw (← c.self.view_is) at c.requires in
    subst (AreUndoable s.undo.steps) (sym (with_same s.tables.items c.args.at c.index_mut.result.now c.compact.new.self within c.index_mut.ensures.value c.compact.ensures.kept)) c.self.invariant
