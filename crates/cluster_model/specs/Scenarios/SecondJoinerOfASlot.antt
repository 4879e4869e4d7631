-- A slot asks a leader of an old term to join twice. Its first start was admitted, and led a later term alone.
use Rattle.std.specs.Prelude.{Some, List, [], ◌∷◌, ◌++◌}
use Rattle.volt_base.specs.declared.entry.Entry.TheVariants.{Sp}
use Rattle.volt_wire.specs.declared.actor.Actor.TheVariants.{Director, Client, Agent, Site, Scanner}
use Rattle.volt_wire.specs.declared.event.Event.{Event}
use Rattle.volt_wire.specs.declared.event.Event.TheVariants.{Deliver, Sync, Scan, Submit, Item}
use Rattle.volt_wire.specs.declared.item.Item.TheVariants as item
use Rattle.cluster_model.specs.Disk.{Shown}
use Rattle.cluster_model.specs.World.{World, AuthoritativeLog, Input}
use Rattle.cluster_model.specs.Runs.{run, no_fault, Happening}
use Rattle.cluster_model.specs.Toy.{toy, put}
use Rattle.cluster_model.specs.Scenarios.{deployed, blank, begins, calls_on, at_once}

abbrev pub input : Input
input =
    blank (deployed 4 1 1 3) (calls_on 3 0 (put 1 10) ∷ [])
    (at_once (item.Lose 1) ∷ at_once (item.Rejoin 1) ∷ at_once (item.Lose 0) ∷ at_once (item.Lose 1)
    ∷ at_once (item.Rejoin 1) ∷ [])

abbrev pub start : World
start = begins input

-- host 1 is lost: host 0 leads partition 0 alone, and all partitions have told how they stand
abbrev pub lost : List Event
lost =
    Item ∷ Deliver (Agent 1) Director ∷ Deliver (Agent 0) (Agent 1) ∷ Deliver (Agent 2) (Agent 1)
    ∷ Deliver (Agent 3) (Agent 1) ∷ Deliver (Agent 0) (Agent 2) ∷ Deliver (Agent 0) (Agent 3)
    ∷ Deliver (Agent 2) (Agent 0) ∷ Deliver (Agent 2) (Agent 3) ∷ Deliver (Agent 3) (Agent 0)
    ∷ Deliver (Agent 3) (Agent 2) ∷ Deliver (Site 0) (Agent 0) ∷ Sync 0 ∷ Deliver (Agent 0) (Site 0)
    ∷ Deliver (Site 2) (Agent 2) ∷ Deliver (Site 3) (Agent 3) ∷ Deliver (Site 2) (Site 3)
    ∷ Deliver (Site 3) (Site 2) ∷ Sync 3 ∷ Sync 2 ∷ Deliver (Site 2) (Site 3) ∷ Deliver (Agent 0) (Site 2) ∷ []

-- it comes back, loads what site 0 streams, and is admitted
abbrev pub admitted : List Event
admitted =
    Item ∷ Deliver (Agent 1) Director ∷ Deliver (Agent 1) (Agent 0) ∷ Deliver (Site 1) (Agent 1)
    ∷ Deliver (Site 1) (Agent 1) ∷ Deliver (Site 0) (Site 1) ∷ Deliver (Site 1) (Site 0)
    ∷ Deliver (Scanner 0) (Site 0) ∷ Scan 0 ∷ Deliver (Site 0) (Scanner 0) ∷ Deliver (Site 1) (Site 0) ∷ Sync 1
    ∷ Deliver (Agent 1) (Site 1) ∷ Deliver (Agent 0) (Agent 1) ∷ Deliver (Agent 0) (Agent 1) ∷ []

-- host 0 is lost, but for its site: agent 1 decides that, and its site leads alone; the agents 2 and 3 have only said it
abbrev pub succeeds : List Event
succeeds =
    Item ∷ Deliver (Agent 0) Director ∷ Deliver (Agent 1) (Agent 0) ∷ Deliver (Agent 1) (Agent 0)
    ∷ Deliver (Agent 1) (Agent 0) ∷ Deliver (Agent 2) (Agent 1) ∷ Deliver (Agent 2) (Agent 1)
    ∷ Deliver (Agent 2) (Agent 1) ∷ Deliver (Agent 3) (Agent 1) ∷ Deliver (Agent 3) (Agent 1)
    ∷ Deliver (Agent 3) (Agent 1) ∷ Deliver (Agent 1) (Agent 2) ∷ Deliver (Agent 1) (Agent 2)
    ∷ Deliver (Agent 1) (Agent 2) ∷ Deliver (Agent 1) (Agent 2) ∷ Deliver (Agent 1) (Agent 3)
    ∷ Deliver (Agent 1) (Agent 3) ∷ Deliver (Agent 1) (Agent 3) ∷ Deliver (Agent 1) (Agent 3)
    ∷ Deliver (Site 1) (Agent 1) ∷ Sync 1 ∷ []

-- agent 2 hands a call on to site 0, which appends it
abbrev pub called : List Event
called = Submit 3 ∷ Deliver (Agent 2) (Client 3) ∷ Deliver (Site 0) (Agent 2) ∷ []

-- host 1 is lost and comes back, takes the first word from agent 2, and asks site 0 again, which then syncs
abbrev pub rejoins : List Event
rejoins =
    Item ∷ Deliver (Agent 1) Director ∷ Item ∷ Deliver (Agent 1) Director ∷ Deliver (Agent 2) (Agent 1)
    ∷ Deliver (Agent 2) (Agent 1) ∷ Deliver (Agent 1) (Agent 2) ∷ Deliver (Site 1) (Agent 1)
    ∷ Deliver (Site 1) (Agent 1) ∷ Deliver (Site 0) (Site 1) ∷ Deliver (Site 0) (Site 1) ∷ Sync 0 ∷ []

-- what the disks of the hosts 0 and 1 show then
abbrev pub contents : List (List Shown)
contents =
    (Some (record { mark = 2; base = 0; log = Sp 1 3 61 (put 1 10) ∷ [] }) ∷ [])
    ∷ (Some (record { mark = 4; base = 0; log = [] }) ∷ []) ∷ []

-- the log of the greatest term hasn't the call, which isn't firm
abbrev pub authoritative : AuthoritativeLog
authoritative = record { term = 4; log = []; firm = 0 }

abbrev pub events : List Happening
events = no_fault (lost ++ admitted ++ succeeds ++ called ++ rejoins)

abbrev pub last : World
last = run toy events start
