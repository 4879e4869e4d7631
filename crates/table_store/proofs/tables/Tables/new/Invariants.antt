use Rattle.std.proofs.Common.{◌≡◌, ◌+◌, ◌≤◌, ◌++◌, length}
use Rattle.table_store.specs.Schemas.{empty_from, AreSchemas}
use Rattle.table_store.proofs.tables.Tables.new.Given as goal

abbrev pub invariant-loop-left : goal.invariant-loop-left
invariant-loop-left l = record {
  made : l.tables.items ++ empty_from l.number l.left l.indexes ≡ empty_from 0 l.catalog.tables l.catalog.indexes;
  schemas : AreSchemas l.number l.left l.indexes;
  count : l.number + length l.left ≡ length l.catalog.tables;
  few : length l.catalog.tables ≤ 32;
  same : l.indexes ≡ l.catalog.indexes;
}

abbrev pub decreases-loop-left : goal.decreases-loop-left
decreases-loop-left l = length l.left
