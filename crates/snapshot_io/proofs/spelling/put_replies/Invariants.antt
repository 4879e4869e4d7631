use Rattle.std.proofs.Common.{◌≡◌, ◌<◌, ◌^◌, ◌++◌, flat_map, length}
use Rattle.std.specs.List.{AllByRecursion}
use Rattle.snapshot_io.specs.Base.{reply_bytes, replies_bytes, ReplyFits}
use Rattle.snapshot_io.proofs.spelling.put_replies.Given as goal

abbrev pub invariant-loop-left : goal.invariant-loop-left
invariant-loop-left l = record {
  spelled : l.out.items ++ flat_map reply_bytes l.left ≡ l.fn.out.items ++ replies_bytes l.replies;
  short : AllByRecursion (λ r. length r.reply < 2 ^ 32) l.left;
  fits : AllByRecursion ReplyFits l.left → AllByRecursion ReplyFits l.replies;
}

abbrev pub decreases-loop-left : goal.decreases-loop-left
decreases-loop-left l = length l.left
