-- Routes compare equal exactly where they are one.
use Rattle.std.proofs.Common.{◌≡◌, ℕ, ◌==◌, nat_cmp, Bool, ◌&&◌, refl, ap, ◌∙◌, is_eq, arith}
use Rattle.std.proofs.lemmas.Bool.Decides.{nat_tests}
use Rattle.std.specs.BTreeMap.{is_at}
use Rattle.std.specs.Ordering.{ordering_then}
use Rattle.std.specs.declared.cmp.Ordering.{Ordering}
use Rattle.std.specs.declared.cmp.Ordering.TheVariants.{Less, Equal, Greater}
use Rattle.volt_wire.specs.declared.actor.Actor.{Actor}
use Rattle.volt_wire.specs.declared.actor.Actor.TheVariants.{Director, Client, Agent, Site, Scanner}
use Rattle.volt_wire.specs.contracts.actor.ActorOrd.TheImpl as actor
use Rattle.one_host_model.specs.Actors.{same}
use Rattle.cluster_core.specs.declared.route.Route.{Route}
use Rattle.cluster_core.specs.contracts.route.RouteOrd.TheImpl.{cmp-value}

nat_at : (a b : ℕ) → is_eq (nat_cmp a b) ≡ (a == b)
nat_at a b = grind (arith, nat_tests)

actor_at : (a b : Actor) → is_eq (actor.cmp-value.it a b) ≡ same a b
actor_at Director Director = refl
actor_at (Client a) (Client b) = nat_at a b
actor_at (Agent a) (Agent b) = nat_at a b
actor_at (Site a) (Site b) = nat_at a b
actor_at (Scanner a) (Scanner b) = nat_at a b
actor_at _ _ = refl

both : (x y : Ordering) → is_eq (ordering_then x y) ≡ (is_eq x && is_eq y)
both Less y = refl
both Equal y = refl
both Greater y = refl

pub route_at : (q k : Route) → is_at (cmp-value.it q) k ≡ (same q.to k.to && same q.from k.from)
route_at q k = both (actor.cmp-value.it q.to k.to) (actor.cmp-value.it q.from k.from) ∙ ap (λ (t : Bool). t && is_eq (actor.cmp-value.it q.from k.from)) (actor_at q.to k.to) ∙ ap (λ (t : Bool). same q.to k.to && t) (actor_at q.from k.from)
