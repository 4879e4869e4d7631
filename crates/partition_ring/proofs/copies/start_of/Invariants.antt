use Rattle.std.proofs.Common.{◌≡◌, drop, fold}
use Rattle.partition_ring.specs.Placement.{greater_start, start_in}
use Rattle.partition_ring.proofs.copies.start_of.Given as goal

abbrev pub invariant-loop-member : goal.invariant-loop-member
invariant-loop-member l = fold (greater_start l.host) l.start (drop l.member-index l.members) ≡ start_in l.members l.host
