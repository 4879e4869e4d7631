use Rattle.std.proofs.Common.{◌≡◌, ◌+◌, ◌≤◌, ◌++◌, map, vec_len, vec_capacity}
use Rattle.std.specs.Vec.Iter.{into_iter_items, into_iter_len}
use Rattle.table_rows.specs.Keyed.{new_index}
use Rattle.table_rows.proofs.keyed.indexes_of.Given as goal

abbrev pub invariant-loop-columns : goal.invariant-loop-columns
invariant-loop-columns l = record {
  made : l.indexes.items ++ map new_index (into_iter_items l.columns-iterator) ≡ map new_index l.fn.keys.items;
  room : vec_len l.indexes + into_iter_len l.columns-iterator ≤ vec_capacity l.indexes;
}
