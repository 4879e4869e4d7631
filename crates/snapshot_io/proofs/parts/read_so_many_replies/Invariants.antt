use Rattle.std.proofs.Common.{◌≡◌}
use Rattle.snapshot_io.specs.Reading.{many_at, reply_at}
use Rattle.snapshot_io.proofs.Many.{put_before}
use Rattle.snapshot_io.proofs.parts.read_so_many_replies.Given as goal

abbrev pub invariant-loop-left : goal.invariant-loop-left
invariant-loop-left l = many_at reply_at l.count l.bytes ≡ put_before l.replies.items (many_at reply_at l.left l.rest)

abbrev pub decreases-loop-left : goal.decreases-loop-left
decreases-loop-left l = l.left
