-- Runs of the world, the order of its events, and how a run ends.
use Rattle.std.specs.Prelude.{ℕ, ◌≡◌, ◌==◌, ◌&&◌, Bool, true, false, List, [], ◌∷◌, ◌++◌, filter, map, length, Option, Some, None, nat_lt}
use Rattle.std.specs.List.{flat_map}
use Rattle.volt_base.specs.Semantics.{Semantics}
use Rattle.volt_base.specs.declared.entry.Applied.{Applied}
use Rattle.volt_wire.specs.declared.actor.Actor.{Actor}
use Rattle.volt_wire.specs.declared.actor.Actor.TheVariants.{Director, Client, Agent, Site, Scanner}
use Rattle.volt_wire.specs.declared.event.Event.{Event}
use Rattle.volt_wire.specs.declared.event.Event.TheVariants.{Deliver, Sync, Submit}
use Rattle.one_host_model.specs.declared.input.Ended.{Ended}
use Rattle.one_host_model.specs.declared.state.CopyRows.{CopyRows}
use Rattle.one_host_model.specs.Site.{tables}
use Rattle.one_host_model.specs.World.{World, can, step}

-- the world after these events
abbrev pub run : (S : Semantics) → List Event → World → World
run S [] w = w
run S (e ∷ es) w = run S es (step S w e)

-- each event may happen in its turn
abbrev pub IsRun : (S : Semantics) → List Event → World → Type 0
IsRun S [] w = Unit {0}
IsRun S (e ∷ es) w = (can w e ≡ true) × IsRun S es (step S w e)

-- the actors of one host with one site, and one client, in their order
abbrev pub actors : List Actor
actors = Director ∷ Client 1 ∷ Agent 0 ∷ Site 0 ∷ []

-- whether an actor, or an event, is one of these
abbrev pub is_one_of_them : Actor → Bool
is_one_of_them Director = true
is_one_of_them (Client n) = n == 1
is_one_of_them (Agent h) = h == 0
is_one_of_them (Site i) = i == 0
is_one_of_them (Scanner i) = false

abbrev pub is_event_of_them : Event → Bool
is_event_of_them (Deliver to from) = is_one_of_them to && is_one_of_them from
is_event_of_them (Sync i) = i == 0
is_event_of_them (Submit n) = n == 1
is_event_of_them e = false

-- All events of these actors in their order: Deliver by receiver and then sender, Sync by site, Submit by client.
abbrev pub events : List Event
events = flat_map (λ to. map (λ from. Deliver to from) actors) actors ++ Sync 0 ∷ Submit 1 ∷ []

-- the events that may happen, in order
abbrev pub enabled : World → List Event
enabled w = filter (can w) events

-- the schedule `first`: each event is the first of those that may happen
abbrev pub first_of_events : List Event → Option Event
first_of_events [] = None
first_of_events (e ∷ es) = Some e

abbrev pub TakesFirst : (S : Semantics) → List Event → World → Type 0
TakesFirst S [] w = Unit {0}
TakesFirst S (e ∷ es) w = (first_of_events (enabled w) ≡ Some e) × TakesFirst S es (step S w e)

-- no event may happen
abbrev pub IsQuiescent : World → Type 0
IsQuiescent w = (e : Event) → can w e ≡ false

-- some agent runs as a member, and each partition has a copy. On one host that is its agent, and no start of it is lost.
abbrev pub serves : World → Bool
serves w = nat_lt 0 (w.agents 0).start

-- ---- what a report shows of a world

-- the copy of a slot: the number of calls that its partition applied, and its rows
abbrev pub copy_of : (S : Semantics) → ℕ → World → CopyRows
copy_of S i w =
    let state = tables S i (w.sites i)
    in record { slot = i; position = length (S.applied state); rows = S.rows state }

-- the copies of running members: here of the one slot
abbrev pub copies : (S : Semantics) → World → List CopyRows
copies S w = copy_of S 0 w ∷ []

-- The applied lists of the copies, merged by point, each call once: of one copy, its applied list.
abbrev pub serial : (S : Semantics) → World → List Applied
serial S w = S.applied (tables S 0 (w.sites 0))

-- the calls that ended, by number: of one client, in the order in which they ended
abbrev pub ended : World → List Ended
ended w = (w.clients 1).ended
