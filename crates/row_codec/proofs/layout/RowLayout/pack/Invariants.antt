use Rattle.std.proofs.Common.{◌≡◌, take}
use Rattle.row_codec.specs.Packing.{packed, AreSound}
use Rattle.row_codec.proofs.layout.RowLayout.pack.Given as goal

abbrev pub invariant-loop-column : goal.invariant-loop-column
invariant-loop-column l = record {
  packed : l.into.items ≡ packed (take l.column l.self-inside.fields.items) (take l.column l.row);
  sound : AreSound (take l.column l.row);
}
