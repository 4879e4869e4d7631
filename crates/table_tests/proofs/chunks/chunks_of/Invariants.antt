use Rattle.std.proofs.Common.{◌<◌, length}
use Rattle.std.specs.List.{AllByRecursion}
use Rattle.table_rows.specs.Spread.{AreTuples}
use Rattle.table_tests.proofs.chunks.chunks_of.Given as goal

abbrev pub invariant-loop : goal.invariant-loop
invariant-loop l = AllByRecursion (λ block. AreTuples l.layout block.slots) l.scan
