use Rattle.std.proofs.Common.{◌≡◌, map, take}
use Rattle.table_chunks.specs.Chunks.{rows_of}
use Rattle.table_chunks.proofs.writing.rows_in.Given as goal

abbrev pub invariant-loop-i : goal.invariant-loop-i
invariant-loop-i l = record { rows : map (λ row. row.items) l.rows.items ≡ rows_of l.layout (take l.i l.block.slots) }
