use Rattle.std.proofs.Common.{◌≡◌, length}
use Rattle.volt_wire.specs.declared.actor.Actor.{Actor}
use Rattle.one_host_model.specs.World.{sent}
use Rattle.cluster_core.specs.Channels.{queue_of}
use Rattle.cluster_core.specs.Outbox.{sent_to}
use Rattle.cluster_core.proofs.world.post.Given as goal

-- what was sent, and then what is left to be sent, is all that was to be sent
abbrev pub invariant-loop-to : goal.invariant-loop-to
invariant-loop-to l =
    (f t : Actor) → sent (queue_of l.channels) l.from (λ b. sent_to b l.out) f t ≡ sent (queue_of l.fn.channels) l.from (λ b. sent_to b l.fn.out) f t

abbrev pub decreases-loop-to : goal.decreases-loop-to
decreases-loop-to l = length l.out
