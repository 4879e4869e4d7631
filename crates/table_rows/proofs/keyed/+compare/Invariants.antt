use Rattle.std.proofs.Common.{length}
use Rattle.table_rows.proofs.keyed.+compare.Given as goal

abbrev pub decreases-compare : goal.decreases-compare
decreases-compare l = length l.indexes.now
