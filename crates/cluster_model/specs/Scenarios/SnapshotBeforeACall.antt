-- Two hosts with a copy each: a snapshot is taken while a call runs behind it.
use Rattle.std.specs.Prelude.{true, List, [], ◌∷◌, ◌++◌, Some}
use Rattle.volt_base.specs.declared.entry.Entry.TheVariants.{Sp, Done}
use Rattle.volt_base.specs.declared.entry.Outcome.TheVariants as outcome
use Rattle.volt_wire.specs.declared.actor.Actor.TheVariants.{Director, Client, Agent, Site, Scanner}
use Rattle.volt_wire.specs.declared.end.End.TheVariants as end
use Rattle.volt_wire.specs.declared.event.Event.{Event}
use Rattle.volt_wire.specs.declared.event.Event.TheVariants.{Deliver, Sync, Scan, Submit, Item}
use Rattle.volt_wire.specs.declared.item.Item.TheVariants as item
use Rattle.cluster_model.specs.Disk.{Shown}
use Rattle.cluster_model.specs.World.{World, Input}
use Rattle.cluster_model.specs.Runs.{run, no_fault, Happening}
use Rattle.cluster_model.specs.Toy.{toy, put, add, gives}
use Rattle.cluster_model.specs.Scenarios.{Outline, deployed, blank, begins, calls_on, ends_so, point, shows, after_calls}

abbrev pub input : Input
input =
    blank (deployed 2 1 1 1) (calls_on 1 0 (put 1 10) ∷ calls_on 1 0 (add 1 5) ∷ [])
    (after_calls 1 item.Snapshot ∷ [])

abbrev pub start : World
start = begins input

-- the first call is answered
abbrev pub put_first : List Event
put_first =
    Submit 1 ∷ Deliver Director (Client 1) ∷ Deliver (Agent 0) (Client 1) ∷ Deliver (Site 0) (Agent 0)
    ∷ Deliver (Site 1) (Site 0) ∷ Sync 0 ∷ Sync 1 ∷ Deliver (Site 0) (Site 1) ∷ Deliver (Agent 0) (Site 0)
    ∷ Deliver (Client 1) (Agent 0) ∷ []

-- the snapshot begins, and the second call runs behind it, before a site syncs
abbrev pub begun : List Event
begun =
    Item ∷ Deliver (Agent 0) Director ∷ Deliver (Agent 1) Director ∷ Deliver (Site 0) (Agent 0) ∷ Submit 1
    ∷ Deliver Director (Client 1) ∷ Deliver (Agent 0) (Client 1) ∷ Deliver (Site 0) (Agent 0)
    ∷ Deliver (Site 1) (Site 0) ∷ Deliver (Site 1) (Site 0) ∷ []

abbrev pub begins_base : World
begins_base = run toy (no_fault (put_first ++ begun)) start

-- what the disk of the leader shows after each part of its next Sync: the batch is split behind the snapshot
abbrev pub split : List Shown
split =
    Some (record { mark = 1; base = 0; log = Sp 1 1 4 (put 1 10) ∷ Done 1 outcome.Snapshot ∷ [] })
    ∷ Some (record { mark = 1; base = 0; log = Sp 1 1 4 (put 1 10) ∷ Done 1 outcome.Snapshot ∷ Sp 2 1 18 (add 1 5) ∷ [] }) ∷ []

-- both sites scan their tables, and write their bases
abbrev pub written : List Event
written =
    Deliver (Scanner 0) (Site 0) ∷ Deliver (Scanner 1) (Site 1) ∷ Sync 0 ∷ Sync 1 ∷ Deliver (Site 0) (Site 1)
    ∷ Deliver (Agent 0) (Site 0) ∷ Deliver (Agent 0) (Site 0) ∷ Deliver (Client 1) (Agent 0) ∷ Scan 0
    ∷ Deliver (Site 0) (Scanner 0) ∷ Sync 0 ∷ Scan 0 ∷ Deliver (Site 0) (Scanner 0) ∷ Sync 0 ∷ Scan 1
    ∷ Deliver (Site 1) (Scanner 1) ∷ Sync 1 ∷ Deliver (Site 0) (Site 1) ∷ Scan 1 ∷ Deliver (Site 1) (Scanner 1)
    ∷ Sync 1 ∷ Deliver (Site 0) (Site 1) ∷ []

abbrev pub events : List Happening
events = no_fault (put_first ++ begun ++ written)

abbrev pub last : World
last = run toy events start

-- what each disk shows then: a base with the snapshot, and the entry behind it
abbrev pub contents : List Shown
contents =
    Some (record { mark = 1; base = 2; log = Sp 1 1 4 (put 1 10) ∷ Done 1 outcome.Snapshot ∷ Sp 2 1 18 (add 1 5) ∷ [] }) ∷ []

abbrev pub shown : Outline
shown =
    record {
      ends = ends_so 1 1 1 10 (end.Ok (gives 1)) ∷ ends_so 2 1 15 28 (end.Ok (gives 15)) ∷ [];
      serial = point 4 1 ∷ point 18 2 ∷ [];
      copies = shows 0 2 (1 ∷ 15 ∷ []) ∷ shows 1 2 (1 ∷ 15 ∷ []) ∷ [];
      looks = [];
      enabled = [];
      serves = true;
    }
