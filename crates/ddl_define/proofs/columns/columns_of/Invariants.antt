use Rattle.std.proofs.Common.{◌≡◌, ◌++◌, drop}
use Rattle.ddl_define.specs.Columns as spec
use Rattle.ddl_define.proofs.columns.columns_of.Given as goal

abbrev pub invariant-loop-item : goal.invariant-loop-item
invariant-loop-item l = l.columns.items ++ spec.columns_of (drop l.item-index l.items) ≡ spec.columns_of l.fn.items
