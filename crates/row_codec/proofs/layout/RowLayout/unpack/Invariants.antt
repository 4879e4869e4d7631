use Rattle.std.proofs.Common.{◌≡◌, take}
use Rattle.row_codec.specs.Packing.{row_of}
use Rattle.row_codec.proofs.layout.RowLayout.unpack.Given as goal

abbrev pub invariant-loop-column : goal.invariant-loop-column
invariant-loop-column l = l.row.items ≡ take l.column (row_of l.self l.tuple)
