-- The routes with a message under way, in order, are the deliveries that may happen.
use Rattle.std.proofs.Common.{◌≡◌, ◌&&◌, ◌||◌, Bool, true, false, cond, List, [], ◌∷◌, ◌++◌, map, filter, is_eq, Option, Some, None, Bor, refl, ap, sym, subst, ◌∙◌}
use Rattle.std.specs.List.{flat_map, list_any, list_all, AllByRecursion}
use Rattle.std.specs.List.Sorted.{IsStrictlySortedBy}
use Rattle.std.specs.Ordering.{is_lt}
use Rattle.std.specs.BTreeMap.{is_at}
use Rattle.std.specs.Global.{Global}
use Rattle.std.specs.Map.{keys_of}
use Rattle.std.specs.declared.collections.VecDeque.{VecDeque}
use Rattle.std.specs.declared.cmp.Ordering.{Ordering}
use Rattle.std.specs.declared.cmp.Ordering.TheVariants.{Less, Equal, Greater}
use Rattle.std.proofs.lemmas.Bool.{false≢true, and_parts}
use Rattle.std.proofs.lemmas.List.Elements.{filter-append}
use Rattle.std.proofs.lemmas.Map.Lookups.{CmpEqualImpliesEq}
use Rattle.volt_wire.specs.declared.actor.Actor.{Actor}
use Rattle.volt_wire.specs.declared.actor.Actor.TheVariants.{Director, Client, Agent, Site}
use Rattle.one_host_model.specs.declared.message.Msg.{Msg}
use Rattle.volt_wire.specs.declared.event.Event.{Event}
use Rattle.volt_wire.specs.declared.event.Event.TheVariants.{Deliver, Sync, Submit}
use Rattle.one_host_model.specs.Actors.{same}
use Rattle.one_host_model.specs.World.{World, can, is_some_message}
use Rattle.one_host_model.specs.Runs.{actors, is_one_of_them, enabled}
use Rattle.one_host_model.proofs.Actors.{same-true}
use Rattle.one_host_model.proofs.Events.{each_actor}
use Rattle.one_host_model.proofs.Sorted.{sorted_is_filter}
use Rattle.cluster_core.specs.declared.route.Route.{Route}
use Rattle.cluster_core.specs.contracts.route.RouteOrd.TheImpl.{cmp-value}
use Rattle.cluster_core.specs.contracts.route.RouteOrd.TheImpl.Laws.{total-law}
use Rattle.cluster_core.specs.Channels.{queue_of, shown, delivery, routes, IsInOrder, AreAllRoutes}
use Rattle.cluster_core.proofs.RouteLemmas.{route_at}
use Rattle.cluster_core.proofs.ChannelLemmas.{route}

-- all routes of a small deployment, in order
abbrev pub all_routes : List Route
all_routes = flat_map (λ to. map (λ from. route to from) actors) actors

-- the deliveries among its events
abbrev pub deliveries : List Event
deliveries = flat_map (λ to. map (λ from. Deliver to from) actors) actors

-- ---- lists in strict order

-- a test that computes it
abbrev below_all : Route → List Route → Bool
below_all r rs = list_all (λ s. is_lt (cmp-value.it r s)) rs

abbrev is_sorted : List Route → Bool
is_sorted [] = true
is_sorted (r ∷ rs) = below_all r rs && is_sorted rs

Less-is : (o : Ordering) → is_lt o ≡ true → o ≡ Less
Less-is Less e = refl
Less-is Equal e = absurd (false≢true e)
Less-is Greater e = absurd (false≢true e)

below_from_test : (r : Route) (rs : List Route) → below_all r rs ≡ true → AllByRecursion (λ s. cmp-value.it r s ≡ Less) rs
below_from_test r [] e = tt
below_from_test r (s ∷ rs) e =
    let is = and_parts (is_lt (cmp-value.it r s)) (below_all r rs) e in
    (Less-is (cmp-value.it r s) is.0, below_from_test r rs is.1)

sorted_from_test : (rs : List Route) → is_sorted rs ≡ true → IsStrictlySortedBy cmp-value.it rs
unfolding IsStrictlySortedBy
sorted_from_test [] e = tt
sorted_from_test (r ∷ rs) e =
    let is = and_parts (below_all r rs) (is_sorted rs) e in
    (below_from_test r rs is.0, sorted_from_test rs is.1)

-- the routes are in order
routes_sorted : IsStrictlySortedBy cmp-value.it all_routes
routes_sorted = sorted_from_test all_routes refl

-- ---- routes that are one

exact : CmpEqualImpliesEq cmp-value.it
exact q k e =
    let is = and_parts (same q.to k.to) (same q.from k.from) (sym (route_at q k) ∙ ap is_eq e) in
    ap (λ (x : Actor). route x q.from) (same-true q.to k.to is.0) ∙ ap (λ (x : Actor). route k.to x) (same-true q.from k.from is.1)

-- each route between two of these actors is among the routes
among_routes : (q : Route) → is_one_of_them q.to && is_one_of_them q.from ≡ true → list_any (is_at (cmp-value.it q)) all_routes ≡ true
among_routes q e =
    let is = and_parts (is_one_of_them q.to) (is_one_of_them q.from) e in
    each_actor (λ t. list_any (is_at (cmp-value.it (route t q.from))) all_routes ≡ true) (
      each_actor (λ f. list_any (is_at (cmp-value.it (route Director f))) all_routes ≡ true) (refl, (refl, (refl, (refl, tt)))) q.from is.1,
      (
        each_actor (λ f. list_any (is_at (cmp-value.it (route (Client 1) f))) all_routes ≡ true) (refl, (refl, (refl, (refl, tt)))) q.from is.1,
        (
          each_actor (λ f. list_any (is_at (cmp-value.it (route (Agent 0) f))) all_routes ≡ true) (refl, (refl, (refl, (refl, tt)))) q.from is.1,
          (each_actor (λ f. list_any (is_at (cmp-value.it (route (Site 0) f))) all_routes ≡ true) (refl, (refl, (refl, (refl, tt)))) q.from is.1, tt),
        ),
      ),
    ) q.to is.0

-- ---- the keys of a map of routes

-- a key is found by its two actors
found_by_actors : (to from : Actor) (keys : List Route) → list_any (λ r. same to r.to && same from r.from) keys ≡ list_any (is_at (cmp-value.it (route to from))) keys
found_by_actors to from [] = refl
found_by_actors to from (k ∷ keys) =
    ap (λ (b : Bool). b || list_any (λ r. same to r.to && same from r.from) keys) (sym (route_at (route to from) k))
    ∙ ap (λ (b : Bool). is_at (cmp-value.it (route to from)) k || b) (found_by_actors to from keys)

-- each key is among the routes
members : (keys : List Route) → AllByRecursion (λ r. is_one_of_them r.to && is_one_of_them r.from ≡ true) keys → AllByRecursion (λ r. list_any (is_at (cmp-value.it r)) all_routes ≡ true) keys
members [] h = tt
members (k ∷ keys) h = (among_routes k h.0, members keys h.1)

-- what passes of a list that a function made
filter-map : {A B : Type 0} (test : B → Bool) (f : A → B) (xs : List A) → filter test (map f xs) ≡ map f (filter (λ x. test (f x)) xs)
filter-map test f [] = refl
filter-map test f (x ∷ xs) = kept (test (f x)) (filter-map test f xs)
  where
    kept : (b : Bool) → filter test (map f xs) ≡ map f (filter (λ y. test (f y)) xs) → cond b (f x ∷ filter test (map f xs)) (filter test (map f xs)) ≡ map f (cond b (x ∷ filter (λ y. test (f y)) xs) (filter (λ y. test (f y)) xs))
    kept true e = ap (λ ys. f x ∷ ys) e
    kept false e = e

-- Keys in order, all of them of the small deployment, are the deliveries that pass a test which tells which routes are keys.
pub ready : (keys : List Route) (test : Event → Bool) → IsStrictlySortedBy cmp-value.it keys → ((from to : Actor) → test (Deliver to from) ≡ list_any (λ r. same to r.to && same from r.from) keys) → AllByRecursion (λ r. is_one_of_them r.to && is_one_of_them r.from ≡ true) keys → map delivery keys ≡ filter test deliveries
ready keys test sorted tells them =
    ap (map delivery) (sorted_is_filter total-law exact (λ r. test (delivery r)) all_routes keys routes_sorted sorted (members keys them) (λ q. tells q.from q.to ∙ found_by_actors q.to q.from keys))
    ∙ sym (filter-map test delivery all_routes)

-- So they are all that may be taken, ahead of what the site and the client may do.
pub enabled_is : (w : World) (keys : List Route) → IsStrictlySortedBy cmp-value.it keys → ((from to : Actor) → is_some_message (w.channel from to) ≡ list_any (λ r. same to r.to && same from r.from) keys) → AllByRecursion (λ r. is_one_of_them r.to && is_one_of_them r.from ≡ true) keys → enabled w ≡ map delivery keys ++ filter (can w) (Sync 0 ∷ Submit 1 ∷ [])
enabled_is w keys sorted tells them =
    filter-append (can w) deliveries (Sync 0 ∷ Submit 1 ∷ [])
    ∙ ap (λ es. es ++ filter (can w) (Sync 0 ∷ Submit 1 ∷ [])) (sym (ready keys (can w) sorted tells them))

-- ---- the routes that have a message, among all routes of a map

abbrev key_of : Route × List Msg → Route
key_of e = e.0

-- what a route is less than, it is less than where it has a message
below_routes : (r : Route) (es : List (Route × List Msg)) → AllByRecursion (λ s. cmp-value.it r s ≡ Less) (map key_of es) → AllByRecursion (λ s. cmp-value.it r s ≡ Less) (routes es)
below_routes r [] h = tt
below_routes r (e ∷ es) h = chosen (is_some_message e.1) (below_routes r es h.1)
  where
    chosen : (some : Bool) → AllByRecursion (λ s. cmp-value.it r s ≡ Less) (routes es) → AllByRecursion (λ s. cmp-value.it r s ≡ Less) (cond some (e.0 ∷ routes es) (routes es))
    chosen true later = (h.0, later)
    chosen false later = later

-- they are in order, as all are
routes_in_order : (es : List (Route × List Msg)) → IsStrictlySortedBy cmp-value.it (map key_of es) → IsInOrder (routes es)
unfolding IsStrictlySortedBy
routes_in_order [] h = tt
routes_in_order (e ∷ es) h = chosen (is_some_message e.1) (routes_in_order es h.1)
  where
    chosen : (some : Bool) → IsInOrder (routes es) → IsInOrder (cond some (e.0 ∷ routes es) (routes es))
    chosen true later = (below_routes e.0 es h.0, later)
    chosen false later = later

-- no other route of them has the two actors of one that is less than each of them
no_other : (r : Route) (to from : Actor) (rs : List Route) → same to r.to && same from r.from ≡ true → AllByRecursion (λ s. cmp-value.it r s ≡ Less) rs → list_any (λ s. same to s.to && same from s.from) rs ≡ false
no_other r to from [] is h = refl
no_other r to from (s ∷ rs) is h =
    let both = and_parts (same to r.to) (same from r.from) is in
    let here : same to s.to && same from s.from ≡ false =
    ap (λ (x : Actor). same x s.to && same from s.from) (same-true to r.to both.0)
    ∙ ap (λ (x : Actor). same r.to s.to && same x s.from) (same-true from r.from both.1)
    ∙ sym (route_at r s) ∙ ap is_eq h.0 in
    ap (λ (b : Bool). b || list_any (λ x. same to x.to && same from x.from) rs) here ∙ no_other r to from rs is h.1

-- a message is under way exactly on the routes that have one
routes_are_all : (es : List (Route × List Msg)) → IsStrictlySortedBy cmp-value.it (map key_of es) → AreAllRoutes es
unfolding IsStrictlySortedBy
routes_are_all [] h from to = refl
routes_are_all (e ∷ es) h from to = step (same to e.0.to && same from e.0.from) (is_some_message e.1) refl refl (routes_are_all es h.1 from to)
  where
    later : Bool
    later = list_any (λ r. same to r.to && same from r.from) (routes es)

    step : (here some : Bool) → same to e.0.to && same from e.0.from ≡ here → is_some_message e.1 ≡ some → is_some_message (queue_of es from to) ≡ later
        → is_some_message (cond here e.1 (queue_of es from to)) ≡ list_any (λ r. same to r.to && same from r.from) (cond some (e.0 ∷ routes es) (routes es))
    step true true here some i = some ∙ sym (ap (λ (b : Bool). b || later) here)
    step true false here some i = some ∙ sym (no_other e.0 to from (routes es) here (below_routes e.0 es h.0))
    step false true here some i = i ∙ sym (ap (λ (b : Bool). b || later) here)
    step false false here some i = i

-- the keys of a map of queues, as the list of their routes
pub keys-shown : (es : List (Route × VecDeque Msg Global)) → map (λ e. e.0) (shown es) ≡ keys_of es
keys-shown [] = refl
keys-shown (e ∷ es) = ap (λ ks. e.0 ∷ ks) (keys-shown es)

-- so it is with a map of queues, whose keys are in order
module _ (es : List (Route × VecDeque Msg Global)) (h : IsStrictlySortedBy cmp-value.it (keys_of es)) where
  in_order : IsStrictlySortedBy cmp-value.it (map key_of (shown es))
  in_order = let P : List Route → Type 0 = λ ks. IsStrictlySortedBy cmp-value.it ks in subst P (sym (keys-shown es)) h

  pub IsInOrder-shown : (v : List (Route × List Msg)) → shown es ≡ v → IsInOrder (routes v)
  IsInOrder-shown v is = subst (λ (w : List (Route × List Msg)). IsInOrder (routes w)) is (routes_in_order (shown es) in_order)

  pub AreAllRoutes-shown : (v : List (Route × List Msg)) → shown es ≡ v → AreAllRoutes v
  AreAllRoutes-shown v is = subst AreAllRoutes is (routes_are_all (shown es) in_order)
