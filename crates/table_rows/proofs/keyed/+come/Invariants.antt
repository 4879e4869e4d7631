use Rattle.std.proofs.Common.{length}
use Rattle.table_rows.proofs.keyed.+come.Given as goal

abbrev pub decreases-come : goal.decreases-come
decreases-come l = length l.indexes.now
