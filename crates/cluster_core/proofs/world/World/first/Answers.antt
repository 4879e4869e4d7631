use Rattle.std.proofs.Common.{◌≡◌, ℕ, true, false, Option, refl, sym, ap, subst, ◌∙◌}
use Rattle.volt_wire.specs.declared.event.Event.TheVariants.{Sync, Submit}
use Rattle.one_host_model.specs.Client.{ClientState, may_submit}
use Rattle.one_host_model.specs.World.{can}
use Rattle.cluster_core.specs.declared.route.Route.{Route}
use Rattle.cluster_core.specs.Site.{StandsForSite}
use Rattle.cluster_core.proofs.EnabledLemmas.{first_of, first_listed}
use Rattle.cluster_core.proofs.world.World.first.Goals as goal

pub returns-in-Some : goal.returns-in-Some
returns-in-Some g c = λ w h alone.
    ap (λ (o : Option Route). first_of o (can w (Sync 0)) (can w (Submit 1))) c.in-Some.ensures.first
    ∙ sym (first_listed c.args.self.now.channels w h.channels c.in-Some.ensures.ordered c.in-Some.ensures.all alone (can w (Sync 0)) (can w (Submit 1)) refl refl)

pub returns-then-owes : goal.returns-then-owes
returns-then-owes g c = λ w h alone.
    let code = c.args.self.now in
    let owes : true ≡ can w (Sync 0) =
    sym c.if-owes.true ∙ c.owes.ensures (w.sites 0) (subst (λ (n : ℕ). StandsForSite g.M.E.Engine.meaning n code.site.log (g.M.E.Engine.state code.site.engine) (w.sites 0)) (sym h.slot) h.site) in
    ap (λ (o : Option Route). first_of o true (can w (Submit 1))) (sym c.in_default.is ∙ c.first.ensures.first)
    ∙ sym (first_listed code.channels w h.channels c.first.ensures.ordered c.first.ensures.all alone true (can w (Submit 1)) owes refl)

pub returns-then-may_submit : goal.returns-then-may_submit
returns-then-may_submit g c = λ w h alone.
    let code = c.args.self.now in
    let owes : false ≡ can w (Sync 0) =
    sym c.if-owes.false ∙ c.owes.ensures (w.sites 0) (subst (λ (n : ℕ). StandsForSite g.M.E.Engine.meaning n code.site.log (g.M.E.Engine.state code.site.engine) (w.sites 0)) (sym h.slot) h.site) in
    let may : true ≡ can w (Submit 1) = sym c.if-may_submit.true ∙ c.may_submit.ensures ∙ ap (λ (x : ClientState). may_submit x.left x.pending) h.client in
    ap (λ (o : Option Route). first_of o false true) (sym c.in_default.is ∙ c.first.ensures.first)
    ∙ sym (first_listed code.channels w h.channels c.first.ensures.ordered c.first.ensures.all alone false true owes may)

pub returns : goal.returns
returns g c = λ w h alone.
    let code = c.args.self.now in
    let owes : false ≡ can w (Sync 0) =
    sym c.if-owes.false ∙ c.owes.ensures (w.sites 0) (subst (λ (n : ℕ). StandsForSite g.M.E.Engine.meaning n code.site.log (g.M.E.Engine.state code.site.engine) (w.sites 0)) (sym h.slot) h.site) in
    let may : false ≡ can w (Submit 1) = sym c.if-may_submit.false ∙ c.may_submit.ensures ∙ ap (λ (x : ClientState). may_submit x.left x.pending) h.client in
    ap (λ (o : Option Route). first_of o false false) (sym c.in_default.is ∙ c.first.ensures.first)
    ∙ sym (first_listed code.channels w h.channels c.first.ensures.ordered c.first.ensures.all alone false false owes may)
