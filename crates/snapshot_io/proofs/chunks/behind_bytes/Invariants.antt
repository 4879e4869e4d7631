use Rattle.std.proofs.Common.{◌≡◌, length}
use Rattle.snapshot_io.specs.Reading.{behind_these}
use Rattle.snapshot_io.proofs.chunks.behind_bytes.Given as goal

abbrev pub invariant-loop-left : goal.invariant-loop-left
invariant-loop-left l = behind_these l.these l.bytes ≡ behind_these l.left l.rest

abbrev pub decreases-loop-left : goal.decreases-loop-left
decreases-loop-left l = length l.left
