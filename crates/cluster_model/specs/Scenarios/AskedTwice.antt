-- Two agents ask the leader for one call: it appends it once, and answers both.
use Rattle.std.specs.Prelude.{true, List, [], ◌∷◌, ◌++◌}
use Rattle.volt_wire.specs.declared.actor.Actor.{Actor}
use Rattle.volt_wire.specs.declared.actor.Actor.TheVariants.{Director, Client, Agent, Site, Scanner}
use Rattle.volt_wire.specs.declared.end.End.TheVariants as end
use Rattle.volt_wire.specs.declared.event.Event.{Event}
use Rattle.volt_wire.specs.declared.event.Event.TheVariants.{Deliver, Sync, Submit, Item}
use Rattle.volt_wire.specs.declared.item.Item.TheVariants as item
use Rattle.cluster_model.specs.World.{World, Input}
use Rattle.cluster_model.specs.Runs.{run, no_fault, Happening}
use Rattle.cluster_model.specs.Toy.{toy, put, gives}
use Rattle.cluster_model.specs.Scenarios.{Outline, deployed, blank, begins, calls_on, ends_so, point, shows, after_calls}

abbrev pub input : Input
input = blank (deployed 2 1 1 2) (calls_on 2 0 (put 1 10) ∷ []) (after_calls 1 (item.Lose 1) ∷ [])

abbrev pub start : World
start = begins input

-- The leader appends the call for agent 1, whose host is lost. The client asks agent 0, and this one the leader.
abbrev pub given : List Event
given =
    Submit 2 ∷ Deliver (Agent 1) (Client 2) ∷ Deliver (Site 0) (Agent 1) ∷ Deliver Director (Client 2) ∷ Item
    ∷ Deliver (Agent 1) Director ∷ Deliver (Client 2) (Agent 1) ∷ Deliver (Agent 0) (Client 2)
    ∷ Deliver (Site 0) (Agent 0) ∷ []

abbrev pub asked : World
asked = run toy (no_fault given) start

-- who waits for the one entry
abbrev pub askers : List Actor
askers = Agent 1 ∷ Agent 0 ∷ []

-- the leader is alone and syncs: both are answered
abbrev pub goes_on : List Event
goes_on =
    Deliver (Client 1) (Agent 1) ∷ Deliver (Agent 0) (Agent 1) ∷ Deliver (Agent 1) (Agent 0)
    ∷ Deliver (Site 0) (Agent 0) ∷ Deliver (Site 1) Director ∷ Deliver (Site 1) (Site 0)
    ∷ Deliver (Scanner 1) Director ∷ Sync 0 ∷ Deliver (Agent 0) (Site 0) ∷ Deliver (Client 2) (Agent 0)
    ∷ Deliver (Agent 0) (Site 0) ∷ Deliver (Agent 1) (Site 0) ∷ []

abbrev pub events : List Happening
events = no_fault (given ++ goes_on)

abbrev pub last : World
last = run toy events start

abbrev pub shown : Outline
shown =
    record {
      ends = ends_so 1 2 1 19 (end.Ok (gives 1)) ∷ [];
      serial = point 3 1 ∷ [];
      copies = shows 0 1 (1 ∷ 10 ∷ []) ∷ [];
      looks = [];
      enabled = [];
      serves = true;
    }
