use Rattle.std.proofs.Common.{length}
use Rattle.table_rows.proofs.keyed.+back_out.Given as goal

abbrev pub decreases-back_out : goal.decreases-back_out
decreases-back_out l = length l.indexes.now
