use Rattle.std.proofs.Common.{◌≡◌, take}
use Rattle.row_codec.specs.Faults.{columns_fault}
use Rattle.row_codec.proofs.layout.RowLayout.fault.Given as goal

abbrev pub invariant-loop-column : goal.invariant-loop-column
invariant-loop-column l = l.fault ≡ columns_fault (take l.column l.self-inside.fields.items) (take l.column l.row)
