use Rattle.std.proofs.Common.{List, refl, ap, sym, ◌∙◌}
use Rattle.volt_wire.specs.declared.actor.Actor.{Actor}
use Rattle.one_host_model.specs.declared.message.Msg.{Msg}
use Rattle.one_host_model.specs.World.{sent}
use Rattle.cluster_core.specs.Channels.{queue_of}
use Rattle.cluster_core.specs.Outbox.{sent_to}
use Rattle.cluster_core.proofs.Sends.{post_one, post_none}
use Rattle.cluster_core.proofs.world.post.Goals as goal

pub loop-to-preserved : goal.loop-to-preserved
loop-to-preserved c = λ f t.
    post_one (queue_of c.loop-to.channels) (queue_of c.push.new.self) c.args.from c.in-Some.to c.in-Some.msg c.pop.new.self c.in_ok-push.ensures f t
    ∙ ap (λ (out : List (Actor × Msg)). sent (queue_of c.loop-to.channels) c.args.from (λ b. sent_to b out) f t) (sym c.in-Some.ensures.first)
    ∙ c.loop-to.invariant f t

pub returns-clause-sent : goal.returns-clause-sent
returns-clause-sent c = λ f t.
    sym (post_none (queue_of c.loop-to.channels) c.args.from f t)
    ∙ ap (λ (out : List (Actor × Msg)). sent (queue_of c.loop-to.channels) c.args.from (λ b. sent_to b out) f t) (sym (c.in_default.ensures.empty refl))
    ∙ c.loop-to.invariant f t
