use Rattle.std.proofs.Common.{◌≡◌}
use Rattle.byte_codec.specs.Readers.{many_at}
use Rattle.byte_codec.proofs.ManyReaders.{put_before}
use Rattle.byte_codec.proofs.lists.read_many.Given as goal

abbrev pub invariant-loop-left : goal.invariant-loop-left
invariant-loop-left g l = many_at g.F.Form.read_at l.count l.bytes ≡ put_before l.items.items (many_at g.F.Form.read_at l.left l.rest)

abbrev pub decreases-loop-left : goal.decreases-loop-left
decreases-loop-left g l = l.left
