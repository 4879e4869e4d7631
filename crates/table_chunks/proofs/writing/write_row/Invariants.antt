use Rattle.std.proofs.Common.{◌≡◌, ◌++◌, flat_map, length}
use Rattle.std.specs.List.{AllByRecursion}
use Rattle.volt_value.specs.Values.{IsValue}
use Rattle.volt_value.specs.Spelling.{value_bytes}
use Rattle.table_chunks.specs.Chunks.{row_bytes}
use Rattle.table_chunks.proofs.writing.write_row.Given as goal

abbrev pub invariant-loop-left : goal.invariant-loop-left
invariant-loop-left l = record {
  spelled : l.into.items ++ flat_map value_bytes l.left ≡ l.fn.into.items ++ row_bytes l.row;
  values : AllByRecursion IsValue l.left;
}

abbrev pub decreases-loop-left : goal.decreases-loop-left
decreases-loop-left l = length l.left
