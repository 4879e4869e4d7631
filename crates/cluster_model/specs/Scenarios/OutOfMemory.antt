-- Two hosts with a copy each: the leader finds no memory for a call, and stops its host.
use Rattle.std.specs.Prelude.{true, false, List, [], ◌∷◌, ◌++◌}
use Rattle.volt_wire.specs.declared.actor.Actor.TheVariants.{Director, Client, Agent, Site, Scanner}
use Rattle.volt_wire.specs.declared.end.End.TheVariants as end
use Rattle.volt_wire.specs.declared.event.Event.{Event}
use Rattle.volt_wire.specs.declared.event.Event.TheVariants.{Deliver, Sync, Submit}
use Rattle.cluster_model.specs.World.{World, Stopped, Input}
use Rattle.cluster_model.specs.Environment.{NoMemory}
use Rattle.cluster_model.specs.Runs.{run, no_fault, Happening}
use Rattle.cluster_model.specs.Toy.{toy, put, gives}
use Rattle.cluster_model.specs.Scenarios.{Outline, deployed, blank, begins, calls_on, ends_so, point, shows}

abbrev pub input : Input
input = blank (deployed 2 1 1 1) (calls_on 1 0 (put 1 10) ∷ []) []

abbrev pub start : World
start = begins input

-- the call goes to the leader
abbrev pub given : List Event
given =
    Submit 1 ∷ Deliver Director (Client 1) ∷ Deliver (Agent 0) (Client 1) ∷ []

-- The leader finds no memory for it.
abbrev pub failing : Happening
failing = (Deliver (Site 0) (Agent 0), NoMemory 0)

abbrev pub stops : List Stopped
stops = record { at = 4; actor = Site 0; for_disk = false } ∷ []

-- Its host stops, and the client asks the other one.
abbrev pub goes_on : List Event
goes_on =
    Deliver (Agent 0) (Site 0) ∷ Deliver (Client 1) (Agent 0) ∷ Deliver (Agent 1) (Client 1)
    ∷ Deliver (Agent 1) (Agent 0) ∷ Deliver (Agent 0) (Agent 1) ∷ Deliver (Site 0) (Agent 1)
    ∷ Deliver (Site 1) (Agent 1) ∷ Deliver (Site 1) (Agent 1) ∷ Deliver (Scanner 0) (Site 0) ∷ Sync 1
    ∷ Deliver (Agent 1) (Site 1) ∷ Deliver (Client 1) (Agent 1) ∷ Deliver (Agent 1) (Site 1) ∷ []

abbrev pub events : List Happening
events = no_fault given ++ failing ∷ no_fault goes_on

abbrev pub last : World
last = run toy events start

abbrev pub shown : Outline
shown =
    record {
      ends = ends_so 1 1 1 16 (end.Ok (gives 1)) ∷ [];
      serial = point 12 1 ∷ [];
      copies = shows 1 1 (1 ∷ 10 ∷ []) ∷ [];
      looks = [];
      enabled = [];
      serves = true;
    }
