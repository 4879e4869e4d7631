-- A leader of an old term, whose host is lost, streams its tables to a joiner. The joiner's disk alone has the newest entry.
use Rattle.std.specs.Prelude.{Some, List, [], ◌∷◌, ◌++◌}
use Rattle.volt_base.specs.declared.entry.Entry.TheVariants.{Sp}
use Rattle.volt_wire.specs.declared.actor.Actor.TheVariants.{Director, Client, Agent, Site, Scanner}
use Rattle.volt_wire.specs.declared.event.Event.{Event}
use Rattle.volt_wire.specs.declared.event.Event.TheVariants.{Deliver, Sync, Submit, Item}
use Rattle.volt_wire.specs.declared.item.Item.TheVariants as item
use Rattle.cluster_model.specs.Disk.{Shown}
use Rattle.cluster_model.specs.World.{World, Input}
use Rattle.cluster_model.specs.Runs.{run, no_fault, Happening}
use Rattle.cluster_model.specs.Toy.{toy, put}
use Rattle.cluster_model.specs.Scenarios.{deployed, blank, begins, calls_on, at_once}

abbrev pub input : Input
input =
    blank (deployed 4 1 1 2) (calls_on 2 0 (put 1 10) ∷ [])
    (at_once (item.Lose 0) ∷ at_once (item.Lose 1) ∷ at_once (item.Rejoin 1) ∷ [])

abbrev pub start : World
start = begins input

-- host 0 is lost, but for its site; host 1 leads alone and answers the call
abbrev pub served : List Event
served =
    Item ∷ Deliver (Agent 0) Director ∷ Deliver (Agent 1) (Agent 0) ∷ Deliver (Agent 2) (Agent 0)
    ∷ Deliver (Agent 3) (Agent 0) ∷ Deliver (Agent 1) (Agent 2) ∷ Deliver (Agent 1) (Agent 3)
    ∷ Deliver (Site 1) (Agent 1) ∷ Submit 2 ∷ Deliver (Agent 1) (Client 2) ∷ Deliver (Site 1) (Agent 1)
    ∷ Sync 1 ∷ Deliver (Agent 1) (Site 1) ∷ Deliver (Agent 1) (Site 1) ∷ Deliver (Client 2) (Agent 0)
    ∷ Deliver (Client 2) (Agent 1) ∷ []

-- host 1 is lost
abbrev pub lost : List Event
lost =
    Item ∷ Deliver (Agent 1) Director ∷ Deliver (Site 1) Director ∷ Deliver (Scanner 1) Director ∷ []

-- it comes back, takes the first word from a slow agent, and asks the site of host 0
abbrev pub rejoins : List Event
rejoins =
    Item ∷ Deliver (Agent 1) Director ∷ Deliver (Agent 2) (Agent 1) ∷ Deliver (Agent 2) (Agent 1)
    ∷ Deliver (Agent 2) (Agent 1) ∷ Deliver (Agent 1) (Agent 2) ∷ Deliver (Site 1) (Agent 1)
    ∷ Deliver (Site 1) (Agent 1) ∷ Deliver (Site 0) (Site 1) ∷ Deliver (Site 1) (Site 0) ∷ []

-- what the disk of host 1 shows then
abbrev pub contents : List Shown
contents = Some (record { mark = 2; base = 0; log = Sp 1 2 11 (put 1 10) ∷ [] }) ∷ []

abbrev pub events : List Happening
events = no_fault (served ++ lost ++ rejoins)

abbrev pub last : World
last = run toy events start
