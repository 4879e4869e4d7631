use Rattle.std.proofs.Common.{length}
use Rattle.table_rows.proofs.keyed.+enter.Given as goal

abbrev pub decreases-enter : goal.decreases-enter
decreases-enter l = length l.indexes.now
