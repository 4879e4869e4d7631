-- Two hosts come back. That with the later start joins first, and becomes the initiator. Then the other one takes its Start.
use Rattle.std.specs.Prelude.{ℕ, List, [], ◌∷◌, ◌++◌, Option, Some, None}
use Rattle.volt_wire.specs.Word.{Membership}
use Rattle.volt_wire.specs.declared.actor.Actor.TheVariants.{Director, Agent, Site, Scanner}
use Rattle.volt_wire.specs.declared.event.Event.{Event}
use Rattle.volt_wire.specs.declared.event.Event.TheVariants.{Deliver, Sync, Scan, Item}
use Rattle.volt_wire.specs.declared.item.Item.TheVariants as item
use Rattle.cluster_model.specs.Words.{initiator}
use Rattle.cluster_model.specs.World.{World, Input}
use Rattle.cluster_model.specs.Runs.{run, no_fault, Happening}
use Rattle.cluster_model.specs.Toy.{toy}
use Rattle.cluster_model.specs.Scenarios.{deployed, blank, begins, at_once}

abbrev pub input : Input
input =
    blank (deployed 3 1 2 1) []
    (at_once (item.Lose 1) ∷ at_once (item.Lose 2) ∷ at_once (item.Rejoin 1) ∷ at_once (item.Rejoin 2) ∷ at_once (item.Lose 0) ∷ [])

abbrev pub start : World
start = begins input

-- the hosts 1 and 2 are lost: host 0 leads alone
abbrev pub lost : List Event
lost =
    Item ∷ Item ∷ Deliver (Agent 1) Director ∷ Deliver (Agent 2) Director ∷ Deliver (Site 1) Director
    ∷ Deliver (Site 2) Director ∷ Deliver (Scanner 1) Director ∷ Deliver (Scanner 2) Director
    ∷ Deliver (Agent 0) (Agent 1) ∷ Deliver (Agent 0) (Agent 2) ∷ Deliver (Site 0) (Agent 0) ∷ Sync 0
    ∷ Deliver (Agent 0) (Site 0) ∷ []

-- the starts 4 and 5 are drawn for them, and host 2 joins, while start 4 is under way
abbrev pub admitted : List Event
admitted =
    Item ∷ Item ∷ Deliver (Agent 2) Director ∷ Deliver (Agent 2) (Agent 0) ∷ Deliver (Agent 2) (Agent 0)
    ∷ Deliver (Site 2) (Agent 2) ∷ Deliver (Site 2) (Agent 2) ∷ Deliver (Site 0) (Site 2) ∷ Deliver (Site 2) (Site 0)
    ∷ Deliver (Scanner 0) (Site 0) ∷ Scan 0 ∷ Deliver (Site 0) (Scanner 0) ∷ Deliver (Site 2) (Site 0) ∷ Sync 2
    ∷ Deliver (Agent 2) (Site 2) ∷ Deliver (Agent 0) (Agent 2) ∷ Deliver (Agent 0) (Agent 2) ∷ []

-- host 0 is lost: host 2 is the initiator, alone
abbrev pub succeeds : List Event
succeeds =
    Deliver (Agent 2) (Agent 0) ∷ Deliver (Agent 2) (Agent 0) ∷ Item ∷ Deliver (Agent 0) Director
    ∷ Deliver (Agent 2) (Agent 0) ∷ Deliver (Site 2) (Agent 2) ∷ Deliver (Site 2) (Agent 2) ∷ Sync 2
    ∷ Deliver (Agent 2) (Site 2) ∷ []

-- start 4 comes to host 1, which hears of the word of host 2
abbrev pub comes : List Event
comes =
    Deliver (Agent 1) (Agent 2) ∷ Deliver (Agent 1) (Agent 2) ∷ Deliver (Agent 1) (Agent 2) ∷ Deliver (Agent 1) (Agent 2)
    ∷ Deliver (Agent 1) Director ∷ Deliver (Agent 2) (Agent 1) ∷ Deliver (Agent 2) (Agent 1) ∷ []

abbrev pub events : List Happening
events = no_fault (lost ++ admitted ++ succeeds ++ comes)

-- it runs as a joiner without a word
abbrev pub joining : World
joining = run toy events start

-- it takes the word, in which it would be the initiator's elder
abbrev pub heard : List Happening
heard = no_fault (Deliver (Agent 1) (Agent 2) ∷ [])

abbrev pub last : World
last = run toy heard joining

-- the initiator of a word, its host and its start, if there is a word
abbrev pub initiator_of : Option Membership → Option (ℕ × ℕ)
initiator_of None = None
initiator_of (Some w) = initiator w
