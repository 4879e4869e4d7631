-- Two hosts with a copy each: one comes back, and its disk fails as the leader's stream begins.
use Rattle.std.specs.Prelude.{true, List, [], ◌∷◌, ◌++◌, Some, None}
use Rattle.volt_base.specs.declared.entry.Entry.TheVariants.{Sp}
use Rattle.volt_wire.specs.declared.actor.Actor.TheVariants.{Director, Client, Agent, Site, Scanner}
use Rattle.volt_wire.specs.declared.end.End.TheVariants as end
use Rattle.volt_wire.specs.declared.event.Event.{Event}
use Rattle.volt_wire.specs.declared.event.Event.TheVariants.{Deliver, Sync, Scan, Submit, Item}
use Rattle.volt_wire.specs.declared.item.Item.TheVariants as item
use Rattle.cluster_model.specs.Disk.{Shown}
use Rattle.cluster_model.specs.World.{World, Stopped, Input}
use Rattle.cluster_model.specs.Environment.{DiskFails}
use Rattle.cluster_model.specs.Runs.{run, no_fault, Happening}
use Rattle.cluster_model.specs.Toy.{toy, put, add, gives}
use Rattle.cluster_model.specs.Scenarios.{Stampless, deployed, blank, begins, calls_on, shows, after_calls}

abbrev pub input : Input
input =
    blank (deployed 2 1 1 1) (calls_on 1 0 (put 1 10) ∷ calls_on 1 0 (add 1 5) ∷ [])
    (after_calls 1 (item.Lose 1) ∷ after_calls 1 (item.Rejoin 1) ∷ after_calls 2 (item.Rejoin 1) ∷ [])

abbrev pub start : World
start = begins input

-- a call is answered
abbrev pub served : List Event
served =
    Submit 1 ∷ Deliver Director (Client 1) ∷ Deliver (Agent 0) (Client 1) ∷ Deliver (Site 0) (Agent 0)
    ∷ Deliver (Site 1) (Site 0) ∷ Sync 0 ∷ Sync 1 ∷ Deliver (Site 0) (Site 1) ∷ Deliver (Agent 0) (Site 0)
    ∷ Deliver (Client 1) (Agent 0) ∷ []

-- host 1 is lost
abbrev pub lost : List Event
lost =
    Item ∷ Deliver (Agent 1) Director ∷ Deliver (Client 1) (Agent 1) ∷ Deliver (Agent 0) (Agent 1)
    ∷ Deliver (Agent 1) (Agent 0) ∷ Deliver (Site 0) (Agent 0) ∷ Deliver (Site 1) Director
    ∷ Deliver (Scanner 1) Director ∷ Sync 0 ∷ Deliver (Agent 0) (Site 0) ∷ []

-- it comes back, and the leader begins a stream
abbrev pub joins : List Event
joins =
    Item ∷ Deliver (Agent 1) Director ∷ Deliver (Agent 0) (Agent 1) ∷ Deliver (Agent 1) (Agent 0)
    ∷ Deliver (Site 1) (Agent 1) ∷ Deliver (Site 1) (Agent 1) ∷ Deliver (Site 0) (Site 1) ∷ []

-- The joiner's disk fails as it is wiped for the stream.
abbrev pub failing : Happening
failing = (Deliver (Site 1) (Site 0), DiskFails 0)

abbrev pub failed : World
failed = run toy (no_fault (served ++ lost ++ joins) ++ failing ∷ []) start

-- its disk shows what it showed, or nothing
abbrev pub contents : List Shown
contents = Some (record { mark = 1; base = 0; log = Sp 1 1 4 (put 1 10) ∷ [] }) ∷ None ∷ []

abbrev pub stops : List Stopped
stops = record { at = 28; actor = Site 1; for_disk = true } ∷ []

-- the others go on, and the next call is answered
abbrev pub goes_on : List Event
goes_on =
    Deliver (Agent 1) (Site 1) ∷ Deliver (Client 1) (Agent 1) ∷ Deliver (Agent 0) (Agent 1)
    ∷ Deliver (Agent 1) (Agent 0) ∷ Deliver (Site 0) (Agent 0) ∷ Deliver (Scanner 0) (Site 0)
    ∷ Deliver (Scanner 1) (Site 1) ∷ Deliver (Scanner 1) (Site 1) ∷ Sync 0 ∷ Deliver (Agent 0) (Site 0) ∷ Scan 0
    ∷ Deliver (Site 1) (Scanner 0) ∷ Scan 0 ∷ Deliver (Site 0) (Scanner 0) ∷ Submit 1 ∷ Deliver Director (Client 1)
    ∷ Deliver (Agent 0) (Client 1) ∷ Deliver (Site 0) (Agent 0) ∷ Sync 0 ∷ Deliver (Agent 0) (Site 0)
    ∷ Deliver (Client 1) (Agent 0) ∷ []

-- host 1 comes back once more, and joins
abbrev pub rejoins : List Event
rejoins =
    Item ∷ Deliver (Agent 1) Director ∷ Deliver (Agent 0) (Agent 1) ∷ Deliver (Agent 1) (Agent 0)
    ∷ Deliver (Site 1) (Agent 1) ∷ Deliver (Site 1) (Agent 1) ∷ Deliver (Site 0) (Site 1) ∷ Deliver (Site 1) (Site 0)
    ∷ Deliver (Scanner 0) (Site 0) ∷ Deliver (Scanner 1) (Site 1) ∷ Scan 0 ∷ Deliver (Site 1) (Scanner 0) ∷ Sync 1
    ∷ Scan 0 ∷ Deliver (Site 0) (Scanner 0) ∷ Deliver (Site 1) (Site 0) ∷ Sync 1 ∷ Deliver (Agent 1) (Site 1)
    ∷ Deliver (Agent 0) (Agent 1) ∷ Deliver (Agent 1) (Agent 0) ∷ Deliver (Client 1) (Agent 1)
    ∷ Deliver (Agent 0) (Agent 1) ∷ Deliver (Site 0) (Agent 0) ∷ Deliver (Site 0) (Site 1)
    ∷ Deliver (Site 1) (Agent 1) ∷ Deliver (Site 0) (Site 1) ∷ Deliver (Site 1) (Site 0) ∷ Sync 0 ∷ Sync 1
    ∷ Deliver (Site 0) (Site 1) ∷ Deliver (Agent 0) (Site 0) ∷ []

abbrev pub events : List Happening
events = no_fault (served ++ lost ++ joins) ++ failing ∷ no_fault (goes_on ++ rejoins)

abbrev pub last : World
last = run toy events start

abbrev pub shown : Stampless
shown =
    record {
      ends = (1, end.Ok (gives 1)) ∷ (2, end.Ok (gives 15)) ∷ [];
      serial = 1 ∷ 2 ∷ [];
      copies = shows 0 2 (1 ∷ 15 ∷ []) ∷ shows 1 2 (1 ∷ 15 ∷ []) ∷ [];
      looks = [];
      enabled = [];
      serves = true;
    }
