use Rattle.table_chunks.proofs.ReadLemmas.{chunk_again}
use Rattle.table_chunks.proofs.laws.chunks_are_read_again.Goals as goal

pub returns : goal.returns
returns c = chunk_again
