use Rattle.table_chunks.proofs.ChunkLemmas.{scan_rows, scan_tuples, can_spell}
use Rattle.table_chunks.proofs.laws.blocks_have_the_rows.Goals as goal

pub returns-clause-rows : goal.returns-clause-rows
returns-clause-rows c = scan_rows

pub returns-clause-tuples : goal.returns-clause-tuples
returns-clause-tuples c = scan_tuples

pub returns-clause-spelled : goal.returns-clause-spelled
returns-clause-spelled c = λ fields slots are few can whole. can_spell fields slots are few can.limit whole
