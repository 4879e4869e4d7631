use Rattle.std.proofs.Common.{◌≡◌, ◌++◌, length}
use Rattle.table_rows.specs.Order.{row_key}
use Rattle.table_rows.proofs.keyed.key_in.Given as goal

abbrev pub invariant-loop-left : goal.invariant-loop-left
invariant-loop-left l = record { spelled : l.key ++ row_key l.left l.row ≡ row_key l.columns l.row }

abbrev pub decreases-loop-left : goal.decreases-loop-left
decreases-loop-left l = length l.left
