use Rattle.std.proofs.Common.{◌≡◌, take}
use Rattle.table_store.specs.Scans.{AreScans}
use Rattle.table_store.proofs.tables.Tables.share_blocks.Given as goal

abbrev pub invariant-loop-at : goal.invariant-loop-at
invariant-loop-at l = record {
  scans : AreScans (take l.at l.initial.self.now) l.scans.items;
  same : l.self ≡ l.initial.self;
}
