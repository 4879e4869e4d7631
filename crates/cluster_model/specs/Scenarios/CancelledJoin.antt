-- Three hosts with a copy each: one comes back, and another one is lost before it is admitted.
use Rattle.std.specs.Prelude.{true, List, [], ◌∷◌, ◌++◌}
use Rattle.volt_wire.specs.declared.actor.Actor.TheVariants.{Director, Client, Agent, Site, Scanner}
use Rattle.volt_wire.specs.declared.end.End.TheVariants as end
use Rattle.volt_wire.specs.declared.event.Event.{Event}
use Rattle.volt_wire.specs.declared.event.Event.TheVariants.{Deliver, Sync, Scan, Submit, Item}
use Rattle.volt_wire.specs.declared.item.Item.TheVariants as item
use Rattle.cluster_model.specs.World.{World, Input}
use Rattle.cluster_model.specs.Runs.{run, no_fault, Happening}
use Rattle.cluster_model.specs.Toy.{toy, put, gives}
use Rattle.cluster_model.specs.Scenarios.{Stampless, deployed, blank, begins, calls_on, shows, after_calls}

abbrev pub input : Input
input =
    blank (deployed 3 1 2 1) (calls_on 1 0 (put 1 10) ∷ [])
    (after_calls 1 (item.Lose 1) ∷ after_calls 1 (item.Rejoin 1) ∷ after_calls 1 (item.Lose 2) ∷ after_calls 1 (item.Rejoin 1) ∷ [])

abbrev pub start : World
start = begins input

-- a call is answered
abbrev pub served : List Event
served =
    Submit 1 ∷ Deliver Director (Client 1) ∷ Deliver (Agent 0) (Client 1) ∷ Deliver (Site 0) (Agent 0)
    ∷ Deliver (Site 1) (Site 0) ∷ Deliver (Site 2) (Site 0) ∷ Sync 0 ∷ Sync 1 ∷ Deliver (Site 0) (Site 1) ∷ Sync 2
    ∷ Deliver (Site 0) (Site 2) ∷ Deliver (Agent 0) (Site 0) ∷ Deliver (Client 1) (Agent 0) ∷ []

-- host 1 is lost
abbrev pub lost : List Event
lost =
    Item ∷ Deliver (Agent 1) Director ∷ Deliver (Client 1) (Agent 1) ∷ Deliver (Agent 0) (Agent 1)
    ∷ Deliver (Agent 2) (Agent 0) ∷ Deliver (Agent 0) (Agent 2) ∷ Deliver (Agent 1) (Agent 0)
    ∷ Deliver (Agent 1) (Agent 2) ∷ Deliver (Agent 2) (Agent 1) ∷ Deliver (Site 0) (Agent 0)
    ∷ Deliver (Site 1) Director ∷ Deliver (Site 2) (Agent 2) ∷ Deliver (Site 0) (Site 2) ∷ Deliver (Site 2) (Site 0)
    ∷ Deliver (Scanner 1) Director ∷ Sync 0 ∷ Sync 2 ∷ Deliver (Site 0) (Site 2) ∷ Deliver (Agent 0) (Site 0) ∷ []

-- it comes back, and wipes its disk for the stream of the leader
abbrev pub joins : List Event
joins =
    Item ∷ Deliver (Agent 1) Director ∷ Deliver (Agent 0) (Agent 1) ∷ Deliver (Agent 1) (Agent 0)
    ∷ Deliver (Site 1) (Agent 1) ∷ Deliver (Site 1) (Agent 1) ∷ Deliver (Site 0) (Site 1) ∷ Deliver (Site 1) (Site 0) ∷ []

-- host 2 is lost, and the word without it doesn't admit host 1, which stops
abbrev pub cancelled : List Event
cancelled =
    Item ∷ Deliver (Agent 2) Director ∷ Deliver (Client 1) (Agent 2) ∷ Deliver (Agent 0) (Agent 2)
    ∷ Deliver (Agent 1) (Agent 0) ∷ Deliver (Client 1) (Agent 1) ∷ Deliver (Agent 0) (Agent 1)
    ∷ Deliver (Agent 1) (Agent 0) ∷ Deliver (Agent 1) (Agent 2) ∷ Deliver (Agent 2) (Agent 0)
    ∷ Deliver (Agent 2) (Agent 0) ∷ Deliver (Agent 2) (Agent 1) ∷ Deliver (Agent 2) (Agent 1)
    ∷ Deliver (Site 0) (Agent 0) ∷ Deliver (Site 0) (Agent 0) ∷ Deliver (Site 1) (Agent 1)
    ∷ Deliver (Site 2) Director ∷ Deliver (Scanner 0) (Site 0) ∷ Deliver (Scanner 1) (Agent 1)
    ∷ Deliver (Scanner 1) (Site 1) ∷ Deliver (Scanner 2) Director ∷ Sync 0 ∷ Deliver (Agent 0) (Site 0) ∷ Scan 0
    ∷ Deliver (Site 1) (Scanner 0) ∷ Scan 0 ∷ Deliver (Site 0) (Scanner 0) ∷ []

abbrev pub stopped : World
stopped = run toy (no_fault (served ++ lost ++ joins ++ cancelled)) start

-- it comes back once more, and joins
abbrev pub rejoins : List Event
rejoins =
    Item ∷ Deliver (Agent 1) Director ∷ Deliver (Agent 0) (Agent 1) ∷ Deliver (Agent 1) (Agent 0)
    ∷ Deliver (Agent 2) (Agent 1) ∷ Deliver (Site 1) (Agent 1) ∷ Deliver (Site 1) (Agent 1)
    ∷ Deliver (Site 0) (Site 1) ∷ Deliver (Site 1) (Site 0) ∷ Deliver (Scanner 0) (Site 0)
    ∷ Deliver (Scanner 1) (Site 1) ∷ Scan 0 ∷ Deliver (Site 1) (Scanner 0) ∷ Sync 1 ∷ Scan 0
    ∷ Deliver (Site 0) (Scanner 0) ∷ Deliver (Site 1) (Site 0) ∷ Sync 1 ∷ Deliver (Agent 1) (Site 1)
    ∷ Deliver (Agent 0) (Agent 1) ∷ Deliver (Agent 1) (Agent 0) ∷ Deliver (Client 1) (Agent 1)
    ∷ Deliver (Agent 0) (Agent 1) ∷ Deliver (Agent 2) (Agent 0) ∷ Deliver (Agent 2) (Agent 1)
    ∷ Deliver (Site 0) (Agent 0) ∷ Deliver (Site 0) (Site 1) ∷ Deliver (Site 1) (Agent 1) ∷ Deliver (Site 0) (Site 1)
    ∷ Deliver (Site 1) (Site 0) ∷ Sync 0 ∷ Sync 1 ∷ Deliver (Site 0) (Site 1) ∷ Deliver (Agent 0) (Site 0) ∷ []

abbrev pub events : List Happening
events = no_fault (served ++ lost ++ joins ++ cancelled ++ rejoins)

abbrev pub last : World
last = run toy events start

abbrev pub shown : Stampless
shown =
    record {
      ends = (1, end.Ok (gives 1)) ∷ [];
      serial = 1 ∷ [];
      copies = shows 0 1 (1 ∷ 10 ∷ []) ∷ shows 1 1 (1 ∷ 10 ∷ []) ∷ [];
      looks = [];
      enabled = [];
      serves = true;
    }
