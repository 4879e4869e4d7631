use Rattle.std.proofs.Common.{[]}
use Rattle.partition_ring.specs.Placement.{standing, slots_of_part}
use Rattle.partition_ring.proofs.LawLemmas.{rises, same_copies}
use Rattle.partition_ring.proofs.laws.copies_are_in_order.Goals as goal

pub returns-clause-rising : goal.returns-clause-rising
returns-clause-rising c hosts k part members = rises [] (standing hosts members (slots_of_part k part)) tt

pub returns-clause-same : goal.returns-clause-same
returns-clause-same c hosts k part members test = same_copies test (standing hosts members (slots_of_part k part))
