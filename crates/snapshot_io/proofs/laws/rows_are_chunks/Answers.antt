use Rattle.snapshot_io.proofs.RowLemmas.{rows_chunk}
use Rattle.snapshot_io.proofs.laws.rows_are_chunks.Goals as goal

pub returns : goal.returns
returns c = rows_chunk
