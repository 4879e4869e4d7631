use Rattle.std.proofs.Common.{length}
use Rattle.table_rows.proofs.keyed.+go.Given as goal

abbrev pub decreases-go : goal.decreases-go
decreases-go l = length l.indexes.now
