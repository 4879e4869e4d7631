use Rattle.std.proofs.Common.{length}
use Rattle.table_rows.proofs.keyed.+leave.Given as goal

abbrev pub decreases-leave : goal.decreases-leave
decreases-leave l = length l.indexes.now
