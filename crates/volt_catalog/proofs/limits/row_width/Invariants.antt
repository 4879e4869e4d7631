use Rattle.std.proofs.Common.{◌≡◌, ◌*◌, ◌≤◌, sum_by, take}
use Rattle.volt_catalog.specs.Rules.{width_of}
use Rattle.volt_catalog.proofs.limits.row_width.Given as goal

abbrev pub invariant-loop-column : goal.invariant-loop-column
invariant-loop-column l = record { so_far : l.width ≡ sum_by (λ column. width_of column.kind) (take l.column-index l.columns); bounded : l.width ≤ l.column-index * 65540 }
