use Rattle.std.proofs.Common.{length}
use Rattle.table_rows.proofs.keyed.+relocate.Given as goal

abbrev pub decreases-relocate : goal.decreases-relocate
decreases-relocate l = length l.indexes.now
