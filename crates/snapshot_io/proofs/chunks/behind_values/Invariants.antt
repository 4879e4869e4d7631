use Rattle.std.proofs.Common.{◌≡◌}
use Rattle.snapshot_io.specs.Chunks.{behind_all, behind_value}
use Rattle.snapshot_io.proofs.chunks.behind_values.Given as goal

abbrev pub invariant-loop-left : goal.invariant-loop-left
invariant-loop-left l = behind_all behind_value l.count l.bytes ≡ behind_all behind_value l.left l.rest

abbrev pub decreases-loop-left : goal.decreases-loop-left
decreases-loop-left l = l.left
