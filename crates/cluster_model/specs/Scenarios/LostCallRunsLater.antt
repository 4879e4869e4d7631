-- A client that knows no agent any more loses a call, hears of another agent, and submits its next one there. That runs first.
use Rattle.std.specs.Prelude.{true, List, [], ◌∷◌, ◌++◌}
use Rattle.volt_wire.specs.declared.actor.Actor.TheVariants.{Director, Client, Agent, Site, Scanner}
use Rattle.volt_wire.specs.declared.end.End.TheVariants as end
use Rattle.volt_wire.specs.declared.event.Event.{Event}
use Rattle.volt_wire.specs.declared.event.Event.TheVariants.{Deliver, Sync, Scan, Submit, Item}
use Rattle.volt_wire.specs.declared.item.Item.TheVariants as item
use Rattle.cluster_model.specs.World.{World, Input}
use Rattle.cluster_model.specs.Runs.{run, no_fault, Happening}
use Rattle.cluster_model.specs.Toy.{toy, put, move, gives}
use Rattle.cluster_model.specs.Scenarios.{Outline, deployed, blank, begins, calls_on, calls_all, ends_so, point, shows, at_once}

abbrev pub input : Input
input =
    blank (deployed 2 1 1 1) (calls_all 1 (move 1 2 0) ∷ calls_on 1 0 (put 1 10) ∷ [])
    (at_once (item.Lose 1) ∷ at_once (item.Rejoin 1) ∷ at_once (item.Lose 0) ∷ at_once (item.Rejoin 0) ∷ at_once (item.Lose 0) ∷ [])

abbrev pub start : World
start = begins input

-- host 1 is lost
abbrev pub lost : List Event
lost =
    Item ∷ Deliver (Agent 1) Director ∷ Deliver (Client 1) (Agent 1) ∷ Deliver (Agent 0) (Agent 1)
    ∷ Deliver (Agent 1) (Agent 0) ∷ Deliver (Site 0) (Agent 0) ∷ Deliver (Site 1) Director
    ∷ Deliver (Scanner 1) Director ∷ Sync 0 ∷ Deliver (Agent 0) (Site 0) ∷ []

-- and comes back with start 3. What tells the client so stays under way.
abbrev pub rejoined : List Event
rejoined =
    Item ∷ Deliver (Agent 1) Director ∷ Deliver (Agent 0) (Agent 1) ∷ Deliver (Agent 1) (Agent 0)
    ∷ Deliver (Site 1) (Agent 1) ∷ Deliver (Site 1) (Agent 1) ∷ Deliver (Site 0) (Site 1) ∷ Deliver (Site 1) (Site 0)
    ∷ Deliver (Scanner 0) (Site 0) ∷ Deliver (Scanner 1) (Site 1) ∷ Scan 0 ∷ Deliver (Site 0) (Scanner 0)
    ∷ Deliver (Site 1) (Site 0) ∷ Sync 1 ∷ Deliver (Agent 1) (Site 1) ∷ Deliver (Agent 0) (Agent 1)
    ∷ Deliver (Agent 1) (Agent 0) ∷ Deliver (Agent 0) (Agent 1) ∷ Deliver (Site 0) (Agent 0)
    ∷ Deliver (Site 0) (Site 1) ∷ Deliver (Site 1) (Agent 1) ∷ Deliver (Site 0) (Site 1) ∷ Deliver (Site 1) (Site 0)
    ∷ Sync 0 ∷ Sync 1 ∷ Deliver (Site 0) (Site 1) ∷ Deliver (Agent 0) (Site 0) ∷ []

-- host 0 is lost: host 1 is the initiator, of which the client doesn't know
abbrev pub lost_again : List Event
lost_again =
    Item ∷ Deliver (Agent 0) Director ∷ Deliver (Client 1) (Agent 0) ∷ Deliver (Agent 1) (Agent 0)
    ∷ Deliver (Agent 0) (Agent 1) ∷ Deliver (Site 0) Director ∷ Deliver (Site 1) (Agent 1)
    ∷ Deliver (Scanner 0) Director ∷ Sync 1 ∷ Deliver (Agent 1) (Site 1) ∷ []

-- host 0 comes back with start 4, of which it knows
abbrev pub rejoined_again : List Event
rejoined_again =
    Item ∷ Deliver (Agent 0) Director ∷ Deliver (Agent 1) (Agent 0) ∷ Deliver (Agent 0) (Agent 1)
    ∷ Deliver (Site 0) (Agent 0) ∷ Deliver (Site 0) (Agent 0) ∷ Deliver (Site 1) (Site 0) ∷ Deliver (Site 0) (Site 1)
    ∷ Deliver (Scanner 0) (Site 0) ∷ Deliver (Scanner 1) (Site 1) ∷ Scan 1 ∷ Deliver (Site 1) (Scanner 1)
    ∷ Deliver (Site 0) (Site 1) ∷ Sync 0 ∷ Deliver (Agent 0) (Site 0) ∷ Deliver (Agent 1) (Agent 0)
    ∷ Deliver (Agent 0) (Agent 1) ∷ Deliver (Client 1) (Agent 0) ∷ Deliver (Agent 1) (Agent 0)
    ∷ Deliver (Site 0) (Agent 0) ∷ Deliver (Site 1) (Agent 1) ∷ Deliver (Site 1) (Site 0) ∷ Deliver (Site 1) (Site 0)
    ∷ Deliver (Site 0) (Site 1) ∷ Sync 0 ∷ Deliver (Site 1) (Site 0) ∷ Sync 1 ∷ Deliver (Agent 1) (Site 1) ∷ []

-- The client asks host 0 for a call on all partitions, which asks the initiator. Its agent stops: the client knows no other, and the
-- call is lost. Then it hears of host 1.
abbrev pub asks : List Event
asks =
    Submit 1 ∷ Deliver (Agent 0) (Client 1) ∷ Item ∷ Deliver (Agent 0) Director ∷ Deliver (Client 1) (Agent 0)
    ∷ Deliver (Client 1) (Agent 1) ∷ []

-- It submits its next call there, which runs. Then the request for the first call comes to the initiator.
abbrev pub next_call : List Event
next_call =
    Submit 1 ∷ Deliver (Agent 1) (Client 1) ∷ Deliver (Site 1) (Agent 1) ∷ Deliver (Site 0) (Site 1) ∷ Sync 1
    ∷ Sync 0 ∷ Deliver (Site 1) (Site 0) ∷ Deliver (Agent 1) (Site 1) ∷ Deliver (Client 1) (Agent 1)
    ∷ Deliver (Agent 1) (Agent 0) ∷ []

-- It runs, since the copy of host 0 goes on until it hears that its host has stopped.
abbrev pub late : List Event
late =
    Deliver Director (Client 1) ∷ Deliver Director (Client 1) ∷ Deliver (Site 1) (Agent 1)
    ∷ Deliver (Site 0) (Site 1) ∷ Sync 0 ∷ Deliver (Site 1) (Site 0) ∷ Sync 1 ∷ Deliver (Agent 1) (Site 1)
    ∷ Deliver (Site 1) (Agent 1) ∷ Deliver (Site 0) (Site 1) ∷ Sync 0 ∷ Deliver (Site 1) (Site 0) ∷ Sync 1
    ∷ Deliver (Agent 1) (Site 1) ∷ Deliver (Site 1) (Agent 1) ∷ Deliver (Site 0) (Site 1) ∷ Sync 0
    ∷ Deliver (Site 1) (Site 0) ∷ Sync 1 ∷ Deliver (Agent 1) (Site 1) ∷ Deliver (Agent 0) (Agent 1) ∷ []

-- All hear of the loss.
abbrev pub settles : List Event
settles =
    Deliver (Agent 1) (Agent 0) ∷ Deliver (Agent 0) (Agent 1) ∷ Deliver (Site 0) Director
    ∷ Deliver (Site 1) (Agent 1) ∷ Deliver (Scanner 0) Director ∷ Sync 1 ∷ Deliver (Agent 1) (Site 1) ∷ []

abbrev pub events : List Happening
events = no_fault (lost ++ rejoined ++ lost_again ++ rejoined_again ++ asks ++ next_call ++ late ++ settles)

abbrev pub last : World
last = run toy events start

abbrev pub shown : Outline
shown =
    record {
      ends = ends_so 1 1 76 80 end.Lost ∷ ends_so 2 1 82 90 (end.Ok (gives 1)) ∷ [];
      serial = point 84 2 ∷ point 105 1 ∷ [];
      copies = shows 1 2 (1 ∷ 10 ∷ []) ∷ [];
      looks = [];
      enabled = [];
      serves = true;
    }
