use Rattle.std.proofs.Common.{◌≡◌, ◌++◌, length}
use Rattle.volt_wire.specs.declared.actor.Actor.{Actor}
use Rattle.one_host_model.specs.Site.{replies}
use Rattle.cluster_core.specs.Outbox.{sent_to}
use Rattle.cluster_core.proofs.site.send_replies.Given as goal

-- what was sent, and then the replies that are left, are all of them
abbrev pub invariant-loop-reply : goal.invariant-loop-reply
invariant-loop-reply l = (b : Actor) → sent_to b l.out ++ replies l.waiting.items b ≡ sent_to b l.fn.out ++ replies l.fn.waiting.items b

abbrev pub decreases-loop-reply : goal.decreases-loop-reply
decreases-loop-reply l = length l.waiting.items
