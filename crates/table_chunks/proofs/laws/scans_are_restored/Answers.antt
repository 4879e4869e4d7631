use Rattle.table_chunks.proofs.RestoreLemmas.{scan_restored}
use Rattle.table_chunks.proofs.laws.scans_are_restored.Goals as goal

pub returns : goal.returns
returns c = scan_restored
