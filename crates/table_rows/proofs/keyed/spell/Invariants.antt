use Rattle.std.proofs.Common.{◌≡◌, ◌++◌, length, true}
use Rattle.row_codec.specs.Packing.{row_of}
use Rattle.table_rows.specs.Order.{row_key}
use Rattle.table_rows.specs.Table.{has_columns}
use Rattle.table_rows.proofs.keyed.spell.Given as goal

abbrev pub invariant-loop-left : goal.invariant-loop-left
invariant-loop-left l = record {
  spelled : l.key ++ row_key l.left (row_of l.layout l.tuple) ≡ row_key l.columns (row_of l.layout l.tuple);
  columns : has_columns l.layout l.left ≡ true;
}

abbrev pub decreases-loop-left : goal.decreases-loop-left
decreases-loop-left l = length l.left
