-- Two hosts come back. That with the later start joins first, as a member that is no initiator. Then the other one takes its Start.
use Rattle.std.specs.Prelude.{true, List, [], ◌∷◌, ◌++◌}
use Rattle.volt_wire.specs.declared.actor.Actor.TheVariants.{Director, Client, Agent, Site, Scanner}
use Rattle.volt_wire.specs.declared.event.Event.{Event}
use Rattle.volt_wire.specs.declared.event.Event.TheVariants.{Deliver, Sync, Scan, Item}
use Rattle.volt_wire.specs.declared.item.Item.TheVariants as item
use Rattle.cluster_model.specs.World.{World, Input}
use Rattle.cluster_model.specs.Runs.{run, no_fault, Happening}
use Rattle.cluster_model.specs.Toy.{toy}
use Rattle.cluster_model.specs.Scenarios.{Stampless, deployed, blank, begins, shows, at_once}

abbrev pub input : Input
input =
    blank (deployed 3 1 2 1) []
    (at_once (item.Lose 1) ∷ at_once (item.Lose 2) ∷ at_once (item.Rejoin 1) ∷ at_once (item.Rejoin 2) ∷ at_once (item.Rejoin 1) ∷ [])

abbrev pub start : World
start = begins input

-- the hosts 1 and 2 are lost: host 0 leads alone
abbrev pub lost : List Event
lost =
    Item ∷ Item ∷ Deliver (Agent 1) Director ∷ Deliver (Agent 2) Director ∷ Deliver (Site 1) Director
    ∷ Deliver (Site 2) Director ∷ Deliver (Scanner 1) Director ∷ Deliver (Scanner 2) Director
    ∷ Deliver (Agent 0) (Agent 1) ∷ Deliver (Agent 0) (Agent 2) ∷ Deliver (Site 0) (Agent 0) ∷ Sync 0
    ∷ Deliver (Agent 0) (Site 0) ∷ []

-- the starts 4 and 5 are drawn for them, and host 2 joins, while start 4 is under way
abbrev pub admitted : List Event
admitted =
    Item ∷ Item ∷ Deliver (Agent 2) Director ∷ Deliver (Agent 2) (Agent 0) ∷ Deliver (Agent 2) (Agent 0)
    ∷ Deliver (Site 2) (Agent 2) ∷ Deliver (Site 2) (Agent 2) ∷ Deliver (Site 0) (Site 2) ∷ Deliver (Site 2) (Site 0)
    ∷ Deliver (Scanner 0) (Site 0) ∷ Scan 0 ∷ Deliver (Site 0) (Scanner 0) ∷ Deliver (Site 2) (Site 0) ∷ Sync 2
    ∷ Deliver (Agent 2) (Site 2) ∷ Deliver (Agent 0) (Agent 2) ∷ Deliver (Agent 0) (Agent 2)
    ∷ Deliver (Agent 2) (Agent 0) ∷ Deliver (Agent 2) (Agent 0) ∷ Deliver (Agent 0) (Agent 2) ∷ []

-- start 4 comes to host 1, which takes the word of host 2
abbrev pub comes : List Event
comes =
    Deliver (Agent 1) Director ∷ Deliver (Agent 1) (Agent 2) ∷ Deliver (Agent 1) (Agent 2)
    ∷ Deliver (Agent 1) (Agent 2) ∷ []

abbrev pub passed_over : World
passed_over = run toy (no_fault (lost ++ admitted ++ comes)) start

-- the others hear that it stopped
abbrev pub stops : List Event
stops =
    Deliver (Agent 1) (Agent 0) ∷ Deliver (Agent 1) (Agent 0) ∷ Deliver (Agent 0) (Agent 1)
    ∷ Deliver (Agent 0) (Agent 1) ∷ Deliver (Agent 2) (Agent 1) ∷ Deliver (Agent 2) (Agent 1)
    ∷ Deliver (Agent 2) (Agent 1) ∷ Deliver (Site 1) (Agent 1) ∷ Deliver (Scanner 1) (Agent 1) ∷ []

-- it is lost in their word
abbrev pub goes_on : List Event
goes_on =
    Deliver (Client 1) (Agent 1) ∷ Deliver (Client 1) (Agent 1) ∷ Deliver (Client 1) (Agent 2)
    ∷ Deliver (Client 1) (Agent 2) ∷ Deliver (Agent 0) (Agent 2) ∷ Deliver (Agent 1) (Agent 0)
    ∷ Deliver (Agent 1) (Agent 0) ∷ Deliver (Agent 1) (Agent 2) ∷ Deliver (Agent 2) (Agent 0)
    ∷ Deliver (Agent 1) (Agent 2) ∷ Deliver (Site 0) (Agent 0) ∷ Deliver (Site 0) (Agent 0)
    ∷ Deliver (Site 0) (Site 2) ∷ Deliver (Site 2) (Agent 2) ∷ Deliver (Site 0) (Site 2) ∷ Deliver (Site 2) (Agent 2)
    ∷ Deliver (Site 0) (Site 2) ∷ Deliver (Site 2) (Site 0) ∷ Deliver (Scanner 2) (Site 2) ∷ Sync 0 ∷ Sync 2
    ∷ Deliver (Site 0) (Site 2) ∷ Deliver (Agent 0) (Site 0) ∷ []

-- start 6 is drawn for host 1, which joins
abbrev pub rejoins : List Event
rejoins =
    Item ∷ Deliver (Agent 1) Director ∷ Deliver (Agent 0) (Agent 1) ∷ Deliver (Agent 1) (Agent 0)
    ∷ Deliver (Agent 2) (Agent 1) ∷ Deliver (Agent 1) (Agent 2) ∷ Deliver (Site 1) (Agent 1)
    ∷ Deliver (Site 1) (Agent 1) ∷ Deliver (Site 0) (Site 1) ∷ Deliver (Site 1) (Site 0)
    ∷ Deliver (Scanner 0) (Site 0) ∷ Deliver (Scanner 1) (Site 1) ∷ Scan 0 ∷ Deliver (Site 0) (Scanner 0)
    ∷ Deliver (Site 1) (Site 0) ∷ Sync 1 ∷ Deliver (Agent 1) (Site 1) ∷ Deliver (Agent 0) (Agent 1)
    ∷ Deliver (Agent 1) (Agent 0) ∷ Deliver (Agent 0) (Agent 1) ∷ Deliver (Agent 2) (Agent 0)
    ∷ Deliver (Agent 0) (Agent 2) ∷ Deliver (Agent 1) (Agent 2) ∷ Deliver (Client 1) (Agent 1)
    ∷ Deliver (Agent 2) (Agent 1) ∷ Deliver (Site 0) (Agent 0) ∷ Deliver (Site 0) (Site 1)
    ∷ Deliver (Site 1) (Agent 1) ∷ Deliver (Site 0) (Site 1) ∷ Deliver (Site 2) (Agent 2) ∷ Deliver (Site 0) (Site 2)
    ∷ Deliver (Site 1) (Site 0) ∷ Deliver (Site 2) (Site 0) ∷ Sync 0 ∷ Sync 1 ∷ Deliver (Site 0) (Site 1) ∷ Sync 2
    ∷ Deliver (Site 0) (Site 2) ∷ Deliver (Agent 0) (Site 0) ∷ []

abbrev pub events : List Happening
events = no_fault (lost ++ admitted ++ comes ++ stops ++ goes_on ++ rejoins)

abbrev pub last : World
last = run toy events start

abbrev pub shown : Stampless
shown =
    record {
      ends = [];
      serial = [];
      copies = shows 0 0 [] ∷ shows 1 0 [] ∷ shows 2 0 [] ∷ [];
      looks = [];
      enabled = [];
      serves = true;
    }
