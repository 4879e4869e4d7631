use Rattle.std.proofs.Common.{◌≡◌}
use Rattle.snapshot_io.specs.Reading.{many_at, applied_at}
use Rattle.snapshot_io.proofs.Many.{put_before}
use Rattle.snapshot_io.proofs.parts.read_so_many_applied.Given as goal

abbrev pub invariant-loop-left : goal.invariant-loop-left
invariant-loop-left l = many_at applied_at l.count l.bytes ≡ put_before l.applied.items (many_at applied_at l.left l.rest)

abbrev pub decreases-loop-left : goal.decreases-loop-left
decreases-loop-left l = l.left
