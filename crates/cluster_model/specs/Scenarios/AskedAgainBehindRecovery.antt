-- A call on all partitions is decided, but not answered, when all is recovered. It is asked again of the new initiator.
use Rattle.std.specs.Prelude.{true, List, [], ◌∷◌, ◌++◌}
use Rattle.volt_wire.specs.declared.actor.Actor.TheVariants.{Director, Client, Agent, Site, Scanner}
use Rattle.volt_wire.specs.declared.end.End.TheVariants as end
use Rattle.volt_wire.specs.declared.event.Event.{Event}
use Rattle.volt_wire.specs.declared.event.Event.TheVariants.{Deliver, Sync, Submit, Recover, Item}
use Rattle.volt_wire.specs.declared.item.Item.TheVariants as item
use Rattle.cluster_model.specs.World.{World, Input}
use Rattle.cluster_model.specs.Runs.{run, no_fault, Happening}
use Rattle.cluster_model.specs.Toy.{toy, put, move, gives}
use Rattle.cluster_model.specs.Scenarios.{Stampless, deployed, blank, begins, calls_on, calls_all, shows, after_calls}

abbrev pub input : Input
input =
    blank (deployed 2 1 1 2) (calls_on 2 0 (put 1 10) ∷ calls_on 2 0 (put 2 5) ∷ calls_all 2 (move 1 2 4) ∷ [])
    (after_calls 3 item.Recover ∷ [])

abbrev pub start : World
start = begins input

-- both accounts are put
abbrev pub puts : List Event
puts =
    Submit 2 ∷ Deliver Director (Client 2) ∷ Deliver (Agent 1) (Client 2) ∷ Deliver (Site 0) (Agent 1)
    ∷ Deliver (Site 1) (Site 0) ∷ Sync 0 ∷ Sync 1 ∷ Deliver (Site 0) (Site 1) ∷ Deliver (Agent 1) (Site 0)
    ∷ Deliver (Client 2) (Agent 1) ∷ Submit 2 ∷ Deliver Director (Client 2) ∷ Deliver (Agent 1) (Client 2)
    ∷ Deliver (Site 0) (Agent 1) ∷ Deliver (Site 1) (Site 0) ∷ Sync 0 ∷ Sync 1 ∷ Deliver (Site 0) (Site 1)
    ∷ Deliver (Agent 1) (Site 0) ∷ Deliver (Client 2) (Agent 1) ∷ []

-- the call on all partitions comes to the initiator
abbrev pub begun : List Event
begun =
    Submit 2 ∷ Deliver Director (Client 2) ∷ Deliver (Agent 1) (Client 2) ∷ Deliver (Agent 0) (Agent 1) ∷ []

-- one of its four rounds
abbrev pub round : List Event
round =
    Deliver (Site 0) (Agent 0) ∷ Deliver (Site 1) (Site 0) ∷ Sync 0 ∷ Sync 1 ∷ Deliver (Site 0) (Site 1)
    ∷ Deliver (Agent 0) (Site 0) ∷ []

-- its end is on one disk alone
abbrev pub decided : List Event
decided =
    Deliver (Site 0) (Agent 0) ∷ Sync 0 ∷ []

-- all is stopped and recovered
abbrev pub stopped : List Event
stopped =
    Item ∷ Deliver (Agent 0) Director ∷ Deliver (Agent 1) Director ∷ Deliver (Site 0) Director
    ∷ Deliver (Site 1) Director ∷ Deliver (Scanner 0) Director ∷ Deliver (Scanner 1) Director ∷ Recover ∷ []

-- The client hears of the new start of host 0 before it hears that its own agent has closed. It asks there, and is answered.
abbrev pub asked : List Event
asked =
    Deliver (Client 2) (Agent 0) ∷ Deliver (Client 2) (Agent 0) ∷ Deliver (Client 2) (Agent 1)
    ∷ Deliver (Agent 0) (Client 2) ∷ Deliver (Agent 0) (Agent 0) ∷ Deliver (Client 2) (Agent 0) ∷ []

-- so does the other client
abbrev pub heard : List Event
heard =
    Deliver (Client 1) (Agent 0) ∷ Deliver (Client 1) (Agent 0) ∷ Deliver (Client 1) (Agent 1)
    ∷ Deliver (Client 1) (Agent 1) ∷ Deliver (Client 2) (Agent 1) ∷ []

abbrev pub events : List Happening
events = no_fault (puts ++ begun ++ round ++ round ++ round ++ round ++ decided ++ stopped ++ asked ++ heard)

abbrev pub last : World
last = run toy events start

abbrev pub shown : Stampless
shown =
    record {
      ends = (1, end.Ok (gives 1)) ∷ (2, end.Ok (gives 1)) ∷ (3, end.Ok (gives 6)) ∷ [];
      serial = 1 ∷ 2 ∷ 3 ∷ [];
      copies = shows 0 3 (1 ∷ 6 ∷ 2 ∷ 9 ∷ []) ∷ shows 1 3 (1 ∷ 6 ∷ 2 ∷ 9 ∷ []) ∷ [];
      looks = [];
      enabled = [];
      serves = true;
    }
