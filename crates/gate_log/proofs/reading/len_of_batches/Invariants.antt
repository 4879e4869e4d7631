use Rattle.std.proofs.Common.{◌≡◌, ◌++◌, ℕ, List, length}
use Rattle.gate_log.specs.Batches.{spelled, AllFit}
use Rattle.gate_log.proofs.reading.len_of_batches.Given as goal

abbrev pub invariant-loop-behind : goal.invariant-loop-behind
invariant-loop-behind l = (done : List (List ℕ)) × (l.bytes ≡ spelled done ++ l.rest) × AllFit done

abbrev pub decreases-loop-behind : goal.decreases-loop-behind
decreases-loop-behind l = length l.rest
