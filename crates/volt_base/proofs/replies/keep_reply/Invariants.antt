use Rattle.std.proofs.Common.{◌≡◌, ◌++◌, length, take, drop}
use Rattle.volt_base.specs.Replies.{with_reply}
use Rattle.volt_base.proofs.replies.keep_reply.Given as goal

-- the reply goes behind those that were passed
abbrev pub invariant-loop-at : goal.invariant-loop-at
invariant-loop-at l = record {
  same_items : l.replies.items ≡ l.fn.replies.items;
  same_reply : l.reply ≡ l.fn.reply;
  all : l.at-end ≡ length l.replies.items;
  behind : with_reply l.reply l.replies.items ≡ take l.at l.replies.items ++ with_reply l.reply (drop l.at l.replies.items);
}
