use Rattle.partition_ring.proofs.LawLemmas.{hosts_apart}
use Rattle.partition_ring.proofs.laws.copies_have_hosts_of_their_own.Goals as goal

pub returns : goal.returns
returns c = hosts_apart
