use Rattle.std.proofs.Common.{◌≡◌, ◌++◌, length}
use Rattle.gate_log.specs.Batches.{batches}
use Rattle.gate_log.proofs.reading.bodies_of.Given as goal

abbrev pub invariant-loop-body : goal.invariant-loop-body
invariant-loop-body l = batches l.bytes ≡ l.bodies.items ++ batches l.rest

abbrev pub decreases-loop-body : goal.decreases-loop-body
decreases-loop-body l = length l.rest
