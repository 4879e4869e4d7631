use Rattle.snapshot_io.proofs.OldBases.{old_base}
use Rattle.snapshot_io.proofs.laws.old_bases_have_no_clients.Goals as goal

pub returns : goal.returns
returns c = old_base
