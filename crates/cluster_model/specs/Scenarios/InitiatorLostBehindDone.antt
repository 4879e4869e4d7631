-- A call on all partitions whose initiator is lost when its decision has reached one leader.
use Rattle.std.specs.Prelude.{true, List, [], ◌∷◌, ◌++◌}
use Rattle.volt_wire.specs.declared.actor.Actor.TheVariants.{Director, Client, Agent, Site, Scanner}
use Rattle.volt_wire.specs.declared.end.End.TheVariants as end
use Rattle.volt_wire.specs.declared.event.Event.{Event}
use Rattle.volt_wire.specs.declared.event.Event.TheVariants.{Deliver, Sync, Submit, Item}
use Rattle.volt_wire.specs.declared.item.Item.TheVariants as item
use Rattle.cluster_model.specs.World.{World, Input}
use Rattle.cluster_model.specs.Runs.{run, no_fault, Happening}
use Rattle.cluster_model.specs.Toy.{toy, put, move, gives}
use Rattle.cluster_model.specs.Scenarios.{Stampless, deployed, blank, begins, calls_on, calls_all, shows, after_calls}

-- Three hosts, three partitions with two copies each. Account 1 lies in partition 1, account 2 in partition 2.
abbrev pub input : Input
input =
    blank (deployed 3 2 1 2)
    (calls_on 2 1 (put 1 10) ∷ calls_on 2 2 (put 2 5) ∷ calls_all 2 (move 1 2 4) ∷ [])
    (after_calls 3 (item.Lose 0) ∷ [])

abbrev pub start : World
start = begins input

-- both accounts are put
abbrev pub puts : List Event
puts =
    Submit 2 ∷ Deliver Director (Client 2) ∷ Deliver (Agent 1) (Client 2) ∷ Deliver (Site 3) (Agent 1)
    ∷ Deliver (Site 2) (Site 3) ∷ Sync 2 ∷ Deliver (Site 3) (Site 2) ∷ Sync 3 ∷ Deliver (Agent 1) (Site 3)
    ∷ Deliver (Client 2) (Agent 1) ∷ Submit 2 ∷ Deliver Director (Client 2) ∷ Deliver (Agent 1) (Client 2)
    ∷ Deliver (Site 4) (Agent 1) ∷ Deliver (Site 5) (Site 4) ∷ Sync 4 ∷ Sync 5 ∷ Deliver (Site 4) (Site 5)
    ∷ Deliver (Agent 1) (Site 4) ∷ Deliver (Client 2) (Agent 1) ∷ []

-- the call runs in four rounds, and is decided
abbrev pub rounds : List Event
rounds =
    Submit 2 ∷ Deliver Director (Client 2) ∷ Deliver (Agent 1) (Client 2) ∷ Deliver (Agent 0) (Agent 1)
    ∷ Deliver (Site 0) (Agent 0) ∷ Deliver (Site 1) (Site 0) ∷ Deliver (Site 3) (Agent 0)
    ∷ Deliver (Site 2) (Site 3) ∷ Deliver (Site 4) (Agent 0) ∷ Deliver (Site 5) (Site 4) ∷ Sync 0 ∷ Sync 1
    ∷ Deliver (Site 0) (Site 1) ∷ Deliver (Agent 0) (Site 0) ∷ Sync 2 ∷ Deliver (Site 3) (Site 2) ∷ Sync 3
    ∷ Deliver (Agent 0) (Site 3) ∷ Sync 4 ∷ Sync 5 ∷ Deliver (Site 4) (Site 5) ∷ Deliver (Agent 0) (Site 4)
    ∷ Deliver (Site 0) (Agent 0) ∷ Deliver (Site 1) (Site 0) ∷ Deliver (Site 3) (Agent 0)
    ∷ Deliver (Site 2) (Site 3) ∷ Deliver (Site 4) (Agent 0) ∷ Deliver (Site 5) (Site 4) ∷ Sync 0 ∷ Sync 1
    ∷ Deliver (Site 0) (Site 1) ∷ Deliver (Agent 0) (Site 0) ∷ Sync 2 ∷ Deliver (Site 3) (Site 2) ∷ Sync 3
    ∷ Deliver (Agent 0) (Site 3) ∷ Sync 4 ∷ Sync 5 ∷ Deliver (Site 4) (Site 5) ∷ Deliver (Agent 0) (Site 4)
    ∷ Deliver (Site 0) (Agent 0) ∷ Deliver (Site 1) (Site 0) ∷ Deliver (Site 3) (Agent 0)
    ∷ Deliver (Site 2) (Site 3) ∷ Deliver (Site 4) (Agent 0) ∷ Deliver (Site 5) (Site 4) ∷ Sync 0 ∷ Sync 1
    ∷ Deliver (Site 0) (Site 1) ∷ Deliver (Agent 0) (Site 0) ∷ Sync 2 ∷ Deliver (Site 3) (Site 2) ∷ Sync 3
    ∷ Deliver (Agent 0) (Site 3) ∷ Sync 4 ∷ Sync 5 ∷ Deliver (Site 4) (Site 5) ∷ Deliver (Agent 0) (Site 4)
    ∷ Deliver (Site 0) (Agent 0) ∷ Deliver (Site 1) (Site 0) ∷ Deliver (Site 3) (Agent 0)
    ∷ Deliver (Site 2) (Site 3) ∷ Deliver (Site 4) (Agent 0) ∷ Deliver (Site 5) (Site 4) ∷ Sync 0 ∷ Sync 1
    ∷ Deliver (Site 0) (Site 1) ∷ Deliver (Agent 0) (Site 0) ∷ Sync 2 ∷ Deliver (Site 3) (Site 2) ∷ Sync 3
    ∷ Deliver (Agent 0) (Site 3) ∷ Sync 4 ∷ Sync 5 ∷ Deliver (Site 4) (Site 5) ∷ Deliver (Agent 0) (Site 4) ∷ []

-- the decision reaches slot 4, and host 0 is lost
abbrev pub lost : List Event
lost =
    Deliver (Site 4) (Agent 0) ∷ Item ∷ Deliver (Agent 0) Director ∷ []

-- the others go on; the next initiator hears of the decision
abbrev pub goes_on : List Event
goes_on =
    Deliver (Client 1) (Agent 0) ∷ Deliver (Client 2) (Agent 0) ∷ Deliver (Agent 1) (Agent 0)
    ∷ Deliver (Agent 2) (Agent 0) ∷ Deliver (Agent 1) (Agent 2) ∷ Deliver (Agent 1) (Agent 1)
    ∷ Deliver (Agent 0) (Agent 1) ∷ Deliver (Agent 2) (Agent 1) ∷ Deliver (Agent 0) (Agent 2)
    ∷ Deliver (Site 0) Director ∷ Deliver (Site 0) (Agent 0) ∷ Deliver (Site 1) (Agent 1)
    ∷ Deliver (Site 2) (Agent 2) ∷ Deliver (Site 3) Director ∷ Deliver (Site 3) (Agent 0)
    ∷ Deliver (Site 4) (Agent 1) ∷ Deliver (Site 5) (Agent 2) ∷ Deliver (Site 4) (Site 5)
    ∷ Deliver (Site 5) (Site 4) ∷ Deliver (Site 5) (Site 4) ∷ Deliver (Scanner 0) Director
    ∷ Deliver (Scanner 3) Director ∷ Sync 1 ∷ Deliver (Agent 1) (Site 1) ∷ Sync 2
    ∷ Deliver (Agent 1) (Site 2) ∷ Sync 4 ∷ Sync 5 ∷ Deliver (Site 4) (Site 5) ∷ Deliver (Agent 1) (Site 4)
    ∷ Deliver (Site 1) (Agent 1) ∷ Deliver (Site 2) (Agent 1) ∷ Sync 1 ∷ Deliver (Agent 1) (Site 1)
    ∷ Sync 2 ∷ Deliver (Agent 1) (Site 2) ∷ Deliver (Client 2) (Agent 1) ∷ []

abbrev pub events : List Happening
events = no_fault (puts ++ rounds ++ lost ++ goes_on)

abbrev pub last : World
last = run toy events start

abbrev pub shown : Stampless
shown =
    record {
      ends = (1, end.Ok (gives 1)) ∷ (2, end.Ok (gives 1)) ∷ (3, end.Ok (gives 6)) ∷ [];
      serial = 1 ∷ 2 ∷ 3 ∷ [];
      copies = shows 1 1 [] ∷ shows 2 2 (1 ∷ 6 ∷ []) ∷ shows 4 2 (2 ∷ 9 ∷ []) ∷ shows 5 2 (2 ∷ 9 ∷ []) ∷ [];
      looks = [];
      enabled = [];
      serves = true;
    }
