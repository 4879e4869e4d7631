-- Two hosts with a copy each: the host to which the client submitted is lost, and leads too. The client asks the other one.
use Rattle.std.specs.Prelude.{true, List, [], ◌∷◌, ◌++◌}
use Rattle.volt_wire.specs.declared.actor.Actor.TheVariants.{Director, Client, Agent, Site, Scanner}
use Rattle.volt_wire.specs.declared.end.End.TheVariants as end
use Rattle.volt_wire.specs.declared.event.Event.{Event}
use Rattle.volt_wire.specs.declared.event.Event.TheVariants.{Deliver, Sync, Submit, Item}
use Rattle.volt_wire.specs.declared.item.Item.TheVariants as item
use Rattle.cluster_model.specs.World.{World, Input}
use Rattle.cluster_model.specs.Runs.{run, no_fault, Happening}
use Rattle.cluster_model.specs.Toy.{toy, put, gives}
use Rattle.cluster_model.specs.Scenarios.{Outline, deployed, blank, begins, calls_on, ends_so, point, shows, after_calls}

abbrev pub input : Input
input = blank (deployed 2 1 1 1) (calls_on 1 0 (put 1 10) ∷ []) (after_calls 1 (item.Lose 0) ∷ [])

abbrev pub start : World
start = begins input

-- the events up to the loss of host 0, to which the client submitted and which leads
abbrev pub given : List Event
given =
    Submit 1 ∷ Deliver (Agent 0) (Client 1) ∷ Deliver (Site 0) (Agent 0) ∷ Deliver (Site 1) (Site 0)
    ∷ Deliver Director (Client 1) ∷ Item ∷ Deliver (Agent 0) Director ∷ Deliver (Site 0) Director
    ∷ Deliver (Scanner 0) Director ∷ []

-- The client asks the other agent, which asks the lost leader at first, and then its own site.
abbrev pub asked : List Event
asked =
    Deliver (Client 1) (Agent 0) ∷ Deliver (Agent 1) (Client 1) ∷ Deliver (Agent 1) (Agent 0)
    ∷ Deliver (Agent 0) (Agent 1) ∷ Deliver (Site 0) (Agent 1) ∷ Deliver (Site 1) (Agent 1)
    ∷ Deliver (Site 1) (Agent 1) ∷ Sync 1 ∷ Deliver (Agent 1) (Site 1) ∷ Deliver (Client 1) (Agent 1)
    ∷ Deliver (Agent 1) (Site 1) ∷ []

abbrev pub events : List Happening
events = no_fault (given ++ asked)

abbrev pub last : World
last = run toy events start

abbrev pub shown : Outline
shown =
    record {
      ends = ends_so 1 1 1 19 (end.Ok (gives 1)) ∷ [];
      serial = point 3 1 ∷ [];
      copies = shows 1 1 (1 ∷ 10 ∷ []) ∷ [];
      looks = [];
      enabled = [];
      serves = true;
    }
