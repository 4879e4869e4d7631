use Rattle.std.proofs.Common.{◌≡◌, ◌≤◌, length, drop, map}
use Rattle.table_chunks.specs.Reading.{items_at, row_at}
use Rattle.table_chunks.proofs.ReadLemmas.{joined}
use Rattle.table_chunks.proofs.reading.read_rows.Given as goal

abbrev pub invariant-loop-left : goal.invariant-loop-left
invariant-loop-left l = record {
  within : l.at ≤ length l.bytes;
  read : items_at row_at l.count l.bytes ≡ joined (map (λ row. row.items) l.rows.items) l.at (items_at row_at l.left (drop l.at l.bytes));
}

abbrev pub decreases-loop-left : goal.decreases-loop-left
decreases-loop-left l = l.left
