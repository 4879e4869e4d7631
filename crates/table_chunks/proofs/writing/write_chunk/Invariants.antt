use Rattle.std.proofs.Common.{◌≡◌, ◌++◌, flat_map, map, length}
use Rattle.std.specs.List.{AllByRecursion}
use Rattle.table_chunks.specs.Chunks.{row_bytes, chunk_bytes, IsSpelledRow}
use Rattle.table_chunks.proofs.writing.write_chunk.Given as goal

abbrev pub invariant-loop-left : goal.invariant-loop-left
invariant-loop-left l = record {
  spelled : l.into.items ++ flat_map row_bytes (map (λ row. row.items) l.left) ≡ l.fn.into.items ++ chunk_bytes l.number (map (λ row. row.items) l.rows);
  rows : AllByRecursion IsSpelledRow (map (λ row. row.items) l.left);
}

abbrev pub decreases-loop-left : goal.decreases-loop-left
decreases-loop-left l = length l.left
