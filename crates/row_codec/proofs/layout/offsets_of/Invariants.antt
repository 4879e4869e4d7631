use Rattle.std.proofs.Common.{◌≡◌, ℕ, ◌<◌, length, take, slice_index}
use Rattle.row_codec.specs.Packing.{row_width}
use Rattle.row_codec.proofs.layout.offsets_of.Given as goal

abbrev pub invariant-loop-column : goal.invariant-loop-column
invariant-loop-column l = record {
  count : length l.offsets.items ≡ l.column;
  end : l.end ≡ row_width (take l.column l.fields);
  at : (k : ℕ) → k < l.column → slice_index l.offsets.items k ≡ row_width (take k l.fields);
}
