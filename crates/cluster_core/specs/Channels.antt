-- The messages under way, as a list of routes with their queues. A queue may be empty.
use Rattle.std.specs.Prelude.{◌≡◌, ◌&&◌, if◌then◌else◌, List, [], ◌∷◌, map, Option, Some, None}
use Rattle.std.specs.List.{list_any}
use Rattle.std.specs.List.Sorted.{IsStrictlySortedBy}
use Rattle.std.specs.Global.{Global}
use Rattle.std.specs.declared.collections.VecDeque.{VecDeque}
use Rattle.volt_wire.specs.declared.actor.Actor.{Actor}
use Rattle.volt_wire.specs.declared.event.Event.{Event}
use Rattle.volt_wire.specs.declared.event.Event.TheVariants.{Deliver}
use Rattle.one_host_model.specs.declared.message.Msg.{Msg}
use Rattle.one_host_model.specs.Actors.{same}
use Rattle.one_host_model.specs.World.{is_some_message}
use Rattle.cluster_core.specs.declared.route.Route.{Route}
use Rattle.cluster_core.specs.contracts.route.RouteOrd.TheImpl.{cmp-value}

-- the queue from one actor to another
abbrev pub queue_of : List (Route × List Msg) → Actor → Actor → List Msg
queue_of [] from to = []
queue_of (e ∷ es) from to = if same to e.0.to && same from e.0.from then e.1 else queue_of es from to

-- the entries of a map of queues, as that list
abbrev pub shown : List (Route × VecDeque Msg Global) → List (Route × List Msg)
shown es = map (λ e. (e.0, e.1.items)) es

-- the oldest message of a queue
abbrev pub first_message : List Msg → Option Msg
first_message [] = None
first_message (m ∷ ms) = Some m

-- the routes that have a message, in their order
abbrev pub routes : List (Route × List Msg) → List Route
routes [] = []
routes (e ∷ es) = if is_some_message e.1 then e.0 ∷ routes es else routes es

-- they are all the routes that have one
abbrev pub AreAllRoutes : List (Route × List Msg) → Type 0
AreAllRoutes es = (from to : Actor) → is_some_message (queue_of es from to) ≡ list_any (λ r. same to r.to && same from r.from) (routes es)

-- the delivery of the first message of a route
abbrev pub delivery : Route → Event
delivery r = Deliver r.to r.from

-- by receiver and then by sender, none twice
abbrev pub IsInOrder : List Route → Type 0
IsInOrder rs = IsStrictlySortedBy cmp-value.it rs
