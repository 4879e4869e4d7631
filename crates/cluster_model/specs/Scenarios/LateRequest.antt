-- A request for a call reaches the leader when the next call of its client has run.
use Rattle.std.specs.Prelude.{true, List, [], ◌∷◌, ◌++◌}
use Rattle.volt_wire.specs.declared.actor.Actor.TheVariants.{Director, Client, Agent, Site, Scanner}
use Rattle.volt_wire.specs.declared.end.End.TheVariants as end
use Rattle.volt_wire.specs.declared.event.Event.{Event}
use Rattle.volt_wire.specs.declared.event.Event.TheVariants.{Deliver, Sync, Submit, Item}
use Rattle.volt_wire.specs.declared.item.Item.TheVariants as item
use Rattle.cluster_model.specs.World.{World, Input}
use Rattle.cluster_model.specs.Runs.{run, no_fault, Happening}
use Rattle.cluster_model.specs.Toy.{toy, put, add, gives}
use Rattle.cluster_model.specs.Scenarios.{Outline, deployed, blank, begins, calls_on, ends_so, point, shows, at_once}

abbrev pub input : Input
input = blank (deployed 2 1 1 2) (calls_on 2 0 (put 1 10) ∷ calls_on 2 0 (add 1 5) ∷ []) (at_once (item.Lose 1) ∷ [])

abbrev pub start : World
start = begins input

-- What agent 1 asks is under way, when its host is lost. The client asks agent 0, and is answered.
abbrev pub given : List Event
given =
    Submit 2 ∷ Deliver Director (Client 2) ∷ Deliver (Agent 1) (Client 2) ∷ Item ∷ Deliver (Agent 1) Director
    ∷ Deliver (Client 2) (Agent 1) ∷ Deliver (Agent 0) (Client 2) ∷ Deliver (Site 0) (Agent 0)
    ∷ Deliver (Site 1) (Site 0) ∷ Sync 0 ∷ Sync 1 ∷ Deliver (Site 0) (Site 1) ∷ Deliver (Agent 0) (Site 0)
    ∷ Deliver (Client 2) (Agent 0) ∷ []

-- its next call runs, and then the request of agent 1 comes
abbrev pub late : List Event
late =
    Submit 2 ∷ Deliver Director (Client 2) ∷ Deliver (Agent 0) (Client 2) ∷ Deliver (Site 0) (Agent 0)
    ∷ Deliver (Site 0) (Agent 1) ∷ []

abbrev pub goes_on : List Event
goes_on =
    Deliver (Client 1) (Agent 1) ∷ Deliver (Agent 0) (Agent 1) ∷ Deliver (Agent 1) (Agent 0)
    ∷ Deliver (Site 0) (Agent 0) ∷ Deliver (Site 1) Director ∷ Deliver (Site 1) (Site 0)
    ∷ Deliver (Scanner 1) Director ∷ Sync 0 ∷ Deliver (Agent 0) (Site 0) ∷ Deliver (Client 2) (Agent 0)
    ∷ Deliver (Agent 0) (Site 0) ∷ []

abbrev pub events : List Happening
events = no_fault (given ++ late ++ goes_on)

abbrev pub last : World
last = run toy events start

abbrev pub shown : Outline
shown =
    record {
      ends = ends_so 1 2 1 14 (end.Ok (gives 1)) ∷ ends_so 2 2 15 29 (end.Ok (gives 15)) ∷ [];
      serial = point 8 1 ∷ point 18 2 ∷ [];
      copies = shows 0 2 (1 ∷ 15 ∷ []) ∷ [];
      looks = [];
      enabled = [];
      serves = true;
    }
