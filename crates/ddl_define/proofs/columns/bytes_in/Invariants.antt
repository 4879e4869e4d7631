use Rattle.std.proofs.Common.{◌≡◌, ◌++◌, drop}
use Rattle.ddl_define.specs.Found as found
use Rattle.ddl_define.proofs.columns.bytes_in.Given as goal

abbrev pub invariant-loop-name : goal.invariant-loop-name
invariant-loop-name l = l.numbers.items ++ found.bytes_in l.columns (drop l.name-index l.names) ≡ found.bytes_in l.fn.columns l.fn.names
