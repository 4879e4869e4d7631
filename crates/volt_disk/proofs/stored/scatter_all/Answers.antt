use Rattle.volt_disk.proofs.UndoLemmas.{AreWithin-at}
use Rattle.volt_disk.proofs.stored.scatter_all.Goals as goal

pub scatter-state-requires : goal.scatter-state-requires
scatter-state-requires c =
    let same = c.deref-range-items.ensures.value in
    let lt = rw same at c.loop-range-test.true in
    let is = rw same at c.range-item.is in
    AreWithin-at _ c.args.replaced.now.items c.loop-range.range-index c.range-item.result lt is c.requires
