-- Two hosts with a copy each: the leader is lost when the call has reached the copy. It is asked again, and answered from there.
use Rattle.std.specs.Prelude.{true, List, [], ◌∷◌, ◌++◌}
use Rattle.volt_wire.specs.declared.actor.Actor.TheVariants.{Director, Client, Agent, Site, Scanner}
use Rattle.volt_wire.specs.declared.end.End.TheVariants as end
use Rattle.volt_wire.specs.declared.event.Event.{Event}
use Rattle.volt_wire.specs.declared.event.Event.TheVariants.{Deliver, Sync, Submit, Item}
use Rattle.volt_wire.specs.declared.item.Item.TheVariants as item
use Rattle.cluster_model.specs.World.{World, Input}
use Rattle.cluster_model.specs.Runs.{by_first, run, no_fault, Happening}
use Rattle.cluster_model.specs.Toy.{toy, put, gives}
use Rattle.cluster_model.specs.Scenarios.{Outline, deployed, blank, begins, calls_on, ends_so, point, shows, after_calls}

abbrev pub input : Input
input = blank (deployed 2 1 1 2) (calls_on 2 0 (put 1 10) ∷ []) (after_calls 1 (item.Lose 0) ∷ [])

abbrev pub start : World
start = begins input

-- the events up to the loss
abbrev pub given : List Event
given =
    Submit 2 ∷ Deliver (Agent 1) (Client 2) ∷ Deliver (Site 0) (Agent 1) ∷ Deliver (Site 1) (Site 0)
    ∷ Deliver Director (Client 2) ∷ Item ∷ Deliver (Agent 0) Director ∷ Deliver (Site 0) Director
    ∷ Deliver (Scanner 0) Director ∷ []

abbrev pub given_run : List Happening
given_run = no_fault given

-- those that follow; the last one brings what the new leader tells of its partition
abbrev pub events : List Event
events =
    given
    ++ Deliver (Client 1) (Agent 0) ∷ Deliver (Client 2) (Agent 0) ∷ Deliver (Agent 1) (Agent 0)
    ∷ Deliver (Agent 0) (Agent 1) ∷ Deliver (Site 1) (Agent 1) ∷ Deliver (Site 1) (Agent 1) ∷ Sync 1
    ∷ Deliver (Agent 1) (Site 1) ∷ Deliver (Client 2) (Agent 1) ∷ Deliver (Agent 1) (Site 1) ∷ []

abbrev pub last : World
last = by_first toy 10 (run toy given_run start)

abbrev pub shown : Outline
shown =
    record {
      ends = ends_so 1 2 1 18 (end.Ok (gives 1)) ∷ [];
      serial = point 3 1 ∷ [];
      copies = shows 1 1 (1 ∷ 10 ∷ []) ∷ [];
      looks = [];
      enabled = [];
      serves = true;
    }
