use Rattle.std.proofs.Common.{◌≡◌, drop, fold}
use Rattle.partition_ring.specs.Buckets as ring
use Rattle.partition_ring.proofs.buckets.hash.Given as goal

abbrev pub invariant-loop-byte : goal.invariant-loop-byte
invariant-loop-byte l = fold ring.hash_step l.hash (drop l.byte-index l.bytes) ≡ ring.hash_of l.bytes
