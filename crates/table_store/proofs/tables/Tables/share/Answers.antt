use Rattle.std.proofs.Common.{List, ap, sym, subst}
use Rattle.table_rows.specs.Table.{Table}
use Rattle.table_store.specs.Steps.{past_of, AreUndoable}
use Rattle.table_store.proofs.ScanLemmas.{with_same, scan_at}
use Rattle.table_store.proofs.tables.Tables.share.Goals as goal

pub invariant_of-self : goal.invariant_of-self
invariant_of-self c =
    let s = c.self.inside in
    let within = rw (← c.self.view_is) at c.requires in
    subst (AreUndoable s.undo.steps) (sym (with_same s.tables.items c.args.at c.index_mut.result.now c.share.new.self within c.index_mut.ensures.value c.share.ensures.kept)) c.self.invariant

pub returns-clause-scan : goal.returns-clause-scan
returns-clause-scan c =
    let within = rw (← c.self.view_is) at c.requires in
    rw (← c.self.view_is) (scan_at c.self.inside.tables.items c.args.at c.index_mut.result.now c.share.result within c.index_mut.ensures.value c.share.ensures.scan)

pub returns-clause-kept : goal.returns-clause-kept
returns-clause-kept c =
    let s = c.self.inside in
    let within = rw (← c.self.view_is) at c.requires in
    rw (← c.self.view_is)
    (ap (λ (ts : List Table). record { now = ts; past = past_of s.undo.steps ts }) (with_same s.tables.items c.args.at c.index_mut.result.now c.share.new.self within c.index_mut.ensures.value c.share.ensures.kept))
