use Rattle.std.proofs.Common.{◌≡◌, ℕ, Some, sym, ap, subst, ◌∙◌}
use Rattle.volt_wire.specs.declared.actor.Actor.TheVariants.{Site}
use Rattle.one_host_model.specs.Site.{site_after}
use Rattle.cluster_core.specs.Site.{StandsForSite}
use Rattle.cluster_core.specs.Channels.{queue_of, first_message}
use Rattle.cluster_core.proofs.Delivered.{delivered_some, took_same}
use Rattle.cluster_core.proofs.world.World.deliver_to_site.Goals as goal

pub returns-in_ok-take : goal.returns-in_ok-take
returns-in_ok-take g c = λ w h.
    let S = g.M.E.Engine.meaning in
    let first : Some c.in-Some.msg ≡ first_message (w.channel c.args.from (Site 0)) = sym c.in-Some.is ∙ c.pop.ensures.first ∙ ap first_message (h.channels c.args.from (Site 0)) in
    rw (delivered_some g.M.E.Engine.meaning c.args.stamp w (Site 0) c.args.from c.in-Some.msg (w.channel c.args.from (Site 0)) first)
    (record {
      told = h.told;
      client = h.client;
      agent = h.agent;
      slot = c.in_ok-take.ensures.slot ∙ h.slot;
      site = subst (λ (n : ℕ). StandsForSite S n c.take.new.self.log (g.M.E.Engine.state c.take.new.self.engine) (site_after S c.args.stamp n (w.sites 0) c.args.from c.in-Some.msg)) h.slot
          (c.in_ok-take.ensures.site (w.sites 0) (subst (λ (n : ℕ). StandsForSite S n c.args.self.now.site.log (g.M.E.Engine.state c.args.self.now.site.engine) (w.sites 0)) (sym h.slot) h.site));
      channels = λ f t. c.pop.ensures.others f t ∙ took_same (queue_of c.args.self.now.channels) w.channel c.args.from (Site 0) h.channels f t;
      outbox = h.outbox;
      trace = h.trace;
    })
