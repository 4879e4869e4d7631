use Rattle.std.proofs.Common.{◌≡◌, ℕ, List, ◌++◌, map, sym, ap, subst, ◌∙◌}
use Rattle.volt_wire.specs.declared.event.Event.{Event}
use Rattle.volt_wire.specs.declared.event.Event.TheVariants.{Sync, Submit}
use Rattle.one_host_model.specs.Client.{ClientState, may_submit}
use Rattle.one_host_model.specs.World.{can}
use Rattle.cluster_core.specs.Channels.{delivery, routes}
use Rattle.cluster_core.specs.Site.{StandsForSite}
use Rattle.cluster_core.specs.World.{if_it_may}
use Rattle.cluster_core.proofs.EnabledLemmas.{enabled_listed}
use Rattle.cluster_core.proofs.world.World.enabled.Goals as goal

pub returns : goal.returns
returns g c = λ w h alone.
    let code = c.args.self.now in
    let owes : c.owes.result ≡ can w (Sync 0) =
    c.owes.ensures (w.sites 0) (subst (λ (n : ℕ). StandsForSite g.M.E.Engine.meaning n code.site.log (g.M.E.Engine.state code.site.engine) (w.sites 0)) (sym h.slot) h.site) in
    let may : c.may_submit.result ≡ can w (Submit 1) = c.may_submit.ensures ∙ ap (λ (x : ClientState). may_submit x.left x.pending) h.client in
    c.in_ok-add_if-2.ensures
    ∙ ap (λ (es : List Event). es ++ if_it_may c.may_submit.result (Submit 1)) (c.in_ok-add_if.ensures ∙ ap (λ (es : List Event). es ++ if_it_may c.owes.result (Sync 0)) (c.in_ok-add_deliveries.ensures.added ∙ ap (λ (es : List Event). es ++ map delivery (routes code.channels)) c.clear.ensures.items))
    ∙ sym (enabled_listed code.channels w h.channels c.in_ok-add_deliveries.ensures.ordered c.in_ok-add_deliveries.ensures.all alone c.owes.result c.may_submit.result owes may)
