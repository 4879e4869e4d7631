-- The events that may happen, as the code of the world lists them.
use Rattle.std.proofs.Common.{◌≡◌, ℕ, ◌==◌, cond, Option, append_assoc, arith, ◌&&◌, ◌||◌, Bool, true, false, List, [], ◌∷◌, ◌++◌, map, filter, Some, None, refl, ap, sym, ◌∙◌}
use Rattle.std.specs.Prelude.{slice_get}
use Rattle.std.specs.List.{list_any, AllByRecursion}
use Rattle.std.proofs.lemmas.Bool.Decides.{nat_tests}
use Rattle.volt_wire.specs.declared.actor.Actor.{Actor}
use Rattle.volt_wire.specs.declared.actor.Actor.TheVariants.{Director, Client, Agent, Site, Scanner}
use Rattle.one_host_model.specs.declared.message.Msg.{Msg}
use Rattle.volt_wire.specs.declared.event.Event.{Event}
use Rattle.volt_wire.specs.declared.event.Event.TheVariants.{Deliver, Sync, Submit}
use Rattle.one_host_model.specs.Actors.{same}
use Rattle.one_host_model.specs.World.{World, can, is_some_message}
use Rattle.one_host_model.specs.Runs.{is_one_of_them, enabled, first_of_events}
use Rattle.cluster_core.specs.declared.route.Route.{Route}
use Rattle.cluster_core.specs.Channels.{queue_of, routes, delivery, AreAllRoutes, IsInOrder}
use Rattle.cluster_core.specs.World.{HasThemAlone, if_it_may}
use Rattle.cluster_core.proofs.ReadyLemmas.{enabled_is}

-- a route among others
abbrev among : Route → List Route → Bool
among q ks = list_any (λ r. same q.to r.to && same q.from r.from) ks

same_number : (n : ℕ) → (n == n) ≡ true
same_number n = grind (arith, nat_tests)

same-refl : (a : Actor) → same a a ≡ true
same-refl Director = refl
same-refl (Client n) = same_number n
same-refl (Agent h) = same_number h
same-refl (Site i) = same_number i
same-refl (Scanner i) = same_number i

or_true : (a b : Bool) → b ≡ true → (a || b) ≡ true
or_true true b e = refl
or_true false b e = e

-- what holds of each route that is among all holds of each of them
each_among : (Q : Route → Type 0) (ks : List Route) (all : List Route)
    → ((q : Route) → among q ks ≡ true → among q all ≡ true)
    → ((q : Route) → among q all ≡ true → Q q)
    → AllByRecursion Q ks
each_among Q [] all more h = tt
each_among Q (k ∷ ks) all more h = (
  h k (more k (ap (λ (b : Bool). (b && same k.from k.from) || among k ks) (same-refl k.to) ∙ ap (λ (b : Bool). b || among k ks) (same-refl k.from))),
  each_among Q ks all (λ q e. more q (or_true (same q.to k.to && same q.from k.from) (among q ks) e)) h,
)

by_tests : (a b : Bool) → cond a (Sync 0 ∷ cond b (Submit 1 ∷ []) []) (cond b (Submit 1 ∷ []) []) ≡ if_it_may a (Sync 0) ++ if_it_may b (Submit 1)
by_tests true true = refl
by_tests true false = refl
by_tests false true = refl
by_tests false false = refl

-- the first of the routes, and else what the site or the client may do
abbrev pub first_of : Option Route → Bool → Bool → Option Event
first_of (Some r) owes may = Some (delivery r)
first_of None true may = Some (Sync 0)
first_of None false true = Some (Submit 1)
first_of None false false = None

head_listed : (rs : List Route) (a b : Bool) → first_of_events (map delivery rs ++ if_it_may a (Sync 0) ++ if_it_may b (Submit 1)) ≡ first_of (slice_get rs 0) a b
head_listed [] true b = refl
head_listed [] false true = refl
head_listed [] false false = refl
head_listed (r ∷ rs) a b = refl

module _ (v : List (Route × List Msg)) (w : World) (channels : (from to : Actor) → queue_of v from to ≡ w.channel from to) (ordered : IsInOrder (routes v)) (all : AreAllRoutes v) (alone : HasThemAlone w) (owes may : Bool) (sync : owes ≡ can w (Sync 0)) (submit : may ≡ can w (Submit 1)) where
  tells : (from to : Actor) → is_some_message (w.channel from to) ≡ list_any (λ r. same to r.to && same from r.from) (routes v)
  tells from to = ap is_some_message (sym (channels from to)) ∙ all from to

  own_events : filter (can w) (Sync 0 ∷ Submit 1 ∷ []) ≡ if_it_may owes (Sync 0) ++ if_it_may may (Submit 1)
  own_events =
      by_tests (can w (Sync 0)) (can w (Submit 1))
      ∙ ap (λ (a : Bool). if_it_may a (Sync 0) ++ if_it_may (can w (Submit 1)) (Submit 1)) (sym sync)
      ∙ ap (λ (b : Bool). if_it_may owes (Sync 0) ++ if_it_may b (Submit 1)) (sym submit)

  -- the deliveries of the routes, and then what the site and the client may do
  pub enabled_listed : enabled w ≡ map delivery (routes v) ++ if_it_may owes (Sync 0) ++ if_it_may may (Submit 1)
  enabled_listed =
      enabled_is w (routes v) ordered tells (each_among (λ r. is_one_of_them r.to && is_one_of_them r.from ≡ true) (routes v) (routes v) (λ q e. e) (λ q e. alone (Deliver q.to q.from) (tells q.from q.to ∙ e)))
      ∙ ap (λ (es : List Event). map delivery (routes v) ++ es) own_events
      ∙ sym (append_assoc (map delivery (routes v)) (if_it_may owes (Sync 0)) (if_it_may may (Submit 1)))

  pub first_listed : first_of_events (enabled w) ≡ first_of (slice_get (routes v) 0) owes may
  first_listed = ap first_of_events enabled_listed ∙ head_listed (routes v) owes may
