-- Two hosts with a copy each: a disk fails as a recovery writes its base. The next recovery goes on with the same log.
use Rattle.std.specs.Prelude.{true, List, [], ◌∷◌, ◌++◌, Some}
use Rattle.volt_base.specs.declared.entry.Entry.TheVariants.{Sp}
use Rattle.volt_wire.specs.declared.actor.Actor.TheVariants.{Director, Client, Agent, Site, Scanner}
use Rattle.volt_wire.specs.declared.end.End.TheVariants as end
use Rattle.volt_wire.specs.declared.event.Event.{Event}
use Rattle.volt_wire.specs.declared.event.Event.TheVariants.{Deliver, Sync, Submit, Recover, Item}
use Rattle.volt_wire.specs.declared.item.Item.TheVariants as item
use Rattle.cluster_model.specs.Disk.{Shown}
use Rattle.cluster_model.specs.World.{World, Input}
use Rattle.cluster_model.specs.Environment.{DisksShow}
use Rattle.cluster_model.specs.Runs.{run, no_fault, Happening}
use Rattle.cluster_model.specs.Toy.{toy, put, add, gives}
use Rattle.cluster_model.specs.Scenarios.{Outline, deployed, blank, begins, calls_on, ends_so, point, shows, after_calls}

abbrev pub input : Input
input =
    blank (deployed 2 1 1 1) (calls_on 1 0 (put 1 10) ∷ calls_on 1 0 (add 1 5) ∷ [])
    (after_calls 1 item.Recover ∷ after_calls 1 item.Recover ∷ [])

abbrev pub start : World
start = begins input

-- a call is on the leader's disk alone, and all is stopped for a recovery
abbrev pub given : List Event
given =
    Submit 1 ∷ Deliver Director (Client 1) ∷ Deliver (Agent 0) (Client 1) ∷ Deliver (Site 0) (Agent 0) ∷ Sync 0
    ∷ Item ∷ Deliver (Agent 0) Director ∷ Deliver (Agent 1) Director ∷ Deliver (Site 0) Director
    ∷ Deliver (Site 1) Director ∷ Deliver (Scanner 0) Director ∷ Deliver (Scanner 1) Director ∷ []

-- The second disk fails as its base is written.
abbrev pub failing : Happening
failing = (Recover, DisksShow [] (Some (1, true)))

abbrev pub failed : World
failed = run toy (no_fault given ++ failing ∷ []) start

-- the first disk has its new base, and the second one shows what it showed or its new base
abbrev pub contents : List (List Shown)
contents =
    (Some (record { mark = 2; base = 1; log = Sp 1 1 4 (put 1 10) ∷ [] }) ∷ [])
    ∷ (Some (record { mark = 1; base = 0; log = [] })
    ∷ Some (record { mark = 2; base = 1; log = Sp 1 1 4 (put 1 10) ∷ [] }) ∷ []) ∷ []

-- another recovery, in which the second disk shows what it showed
abbrev pub again : List Event
again =
    Item ∷ Deliver (Agent 0) Director ∷ Deliver (Agent 1) Director ∷ Deliver (Site 0) Director
    ∷ Deliver (Site 1) Director ∷ Deliver (Scanner 0) Director ∷ Deliver (Scanner 1) Director ∷ Recover ∷ []

-- the client asks for its call again, and submits the next one
abbrev pub goes_on : List Event
goes_on =
    Deliver (Client 1) (Agent 0) ∷ Deliver (Client 1) (Agent 0) ∷ Deliver (Client 1) (Agent 1)
    ∷ Deliver (Client 1) (Agent 1) ∷ Deliver (Agent 0) (Client 1) ∷ Deliver (Agent 1) (Client 1)
    ∷ Deliver (Site 0) (Agent 0) ∷ Deliver (Agent 0) (Site 0) ∷ Deliver (Client 1) (Agent 0) ∷ Submit 1
    ∷ Deliver Director (Client 1) ∷ Deliver (Agent 0) (Client 1) ∷ Deliver (Site 0) (Agent 0)
    ∷ Deliver (Site 1) (Site 0) ∷ Sync 0 ∷ Sync 1 ∷ Deliver (Site 0) (Site 1) ∷ Deliver (Agent 0) (Site 0)
    ∷ Deliver (Client 1) (Agent 0) ∷ []

abbrev pub events : List Happening
events = no_fault given ++ failing ∷ no_fault (again ++ goes_on)

abbrev pub last : World
last = run toy events start

abbrev pub shown : Outline
shown =
    record {
      ends = ends_so 1 1 1 30 (end.Ok (gives 1)) ∷ ends_so 2 1 31 40 (end.Ok (gives 15)) ∷ [];
      serial = point 4 1 ∷ point 34 2 ∷ [];
      copies = shows 0 2 (1 ∷ 15 ∷ []) ∷ shows 1 2 (1 ∷ 15 ∷ []) ∷ [];
      looks = [];
      enabled = [];
      serves = true;
    }
