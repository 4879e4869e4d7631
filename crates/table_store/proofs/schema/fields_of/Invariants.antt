use Rattle.std.proofs.Common.{◌≡◌, ◌+◌, ◌++◌, length}
use Rattle.table_store.specs.Schemas.{fields_from}
use Rattle.table_store.proofs.schema.fields_of.Given as goal

abbrev pub invariant-loop-left : goal.invariant-loop-left
invariant-loop-left l = record {
  made : l.fields.items ++ fields_from l.number l.table.key l.left ≡ fields_from 0 l.table.key l.table.columns;
  count : l.number + length l.left ≡ length l.table.columns;
}

abbrev pub decreases-loop-left : goal.decreases-loop-left
decreases-loop-left l = length l.left
