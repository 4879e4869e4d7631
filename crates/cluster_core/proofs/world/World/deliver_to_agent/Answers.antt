use Rattle.std.proofs.Common.{◌≡◌, List, ◌++◌, Some, sym, ap, ◌∙◌}
use Rattle.volt_wire.specs.declared.actor.Actor.{Actor}
use Rattle.volt_wire.specs.declared.actor.Actor.TheVariants.{Agent}
use Rattle.one_host_model.specs.declared.message.Msg.{Msg}
use Rattle.one_host_model.specs.Agent.{AgentState, agent_after, agent_sends}
use Rattle.cluster_core.specs.Channels.{queue_of, first_message}
use Rattle.cluster_core.specs.Outbox.{sent_to}
use Rattle.cluster_core.proofs.Delivered.{delivered_some, taken_and_sent}
use Rattle.cluster_core.proofs.world.World.deliver_to_agent.Goals as goal

pub returns : goal.returns
returns g c = λ w h.
    let first : Some c.in-Some.msg ≡ first_message (w.channel c.args.from (Agent 0)) = sym c.in-Some.is ∙ c.pop.ensures.first ∙ ap first_message (h.channels c.args.from (Agent 0)) in
    let sends : (b : Actor) → sent_to b c.take.new.out ≡ agent_sends (w.agents 0) c.args.from c.in-Some.msg b =
    λ b. c.in_ok-take.ensures.sends b
    ∙ ap (λ (out : List (Actor × Msg)). sent_to b out ++ agent_sends c.args.self.now.agent c.args.from c.in-Some.msg b) h.outbox
    ∙ ap (λ (a : AgentState). agent_sends a c.args.from c.in-Some.msg b) h.agent in
    rw (delivered_some g.M.E.Engine.meaning c.args.stamp w (Agent 0) c.args.from c.in-Some.msg (w.channel c.args.from (Agent 0)) first)
    (record {
      told = h.told;
      client = h.client;
      agent = c.in_ok-take.ensures.agent ∙ ap (λ (a : AgentState). agent_after a c.args.from c.in-Some.msg) h.agent;
      slot = h.slot;
      site = h.site;
      channels = taken_and_sent (queue_of c.args.self.now.channels) (queue_of c.pop.new.self) (queue_of c.post.new.channels) w.channel c.args.from (Agent 0) c.take.new.out (agent_sends (w.agents 0) c.args.from c.in-Some.msg) h.channels c.pop.ensures.others c.in_ok-post.ensures.sent sends;
      outbox = c.in_ok-post.ensures.empty;
      trace = h.trace;
    })
