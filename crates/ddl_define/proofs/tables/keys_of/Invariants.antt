use Rattle.std.proofs.Common.{◌≡◌, ◌++◌, drop, map}
use Rattle.ddl_define.specs.Found as found
use Rattle.ddl_define.specs.Tables as spec
use Rattle.ddl_define.proofs.tables.keys_of.Given as goal

abbrev pub invariant-loop-item : goal.invariant-loop-item
invariant-loop-item l = l.keys.items ++ map (map found.byte_of) (spec.keys_of l.columns (drop l.item-index l.items)) ≡ map (map found.byte_of) (spec.keys_of l.fn.columns l.fn.items)
