-- One host: its disk loses power inside the batch of the first call, and all is recovered.
use Rattle.std.specs.Prelude.{ℕ, true, List, [], ◌∷◌, Some, None}
use Rattle.volt_base.specs.declared.entry.Entry.TheVariants.{Sp}
use Rattle.volt_wire.specs.declared.actor.Actor.TheVariants.{Director, Client, Agent, Site, Scanner}
use Rattle.volt_wire.specs.declared.end.End.TheVariants as end
use Rattle.volt_wire.specs.declared.event.Event.{Event}
use Rattle.volt_wire.specs.declared.event.Event.TheVariants.{Deliver, Sync, Submit, Recover, Item}
use Rattle.volt_wire.specs.declared.item.Item.TheVariants as item
use Rattle.cluster_model.specs.Disk.{Shown}
use Rattle.cluster_model.specs.World.{World, Input}
use Rattle.cluster_model.specs.Events.{step}
use Rattle.cluster_model.specs.Environment.{DiskFails, DisksShow}
use Rattle.cluster_model.specs.Runs.{by_first, run, Happening}
use Rattle.cluster_model.specs.Toy.{toy, put}
use Rattle.cluster_model.specs.Scenarios.{Outline, deployed, blank, begins, calls_on, ends_so, point, shows, at_once}

abbrev pub input : Input
input = blank (deployed 1 1 0 1) (calls_on 1 0 (put 1 10) ∷ []) (at_once (item.Power 0 4 1) ∷ [])

abbrev pub start : World
start = begins input

-- the site has applied the call and owes it to its disk
abbrev pub applied : World
applied = by_first toy 6 start

-- Its disk fails in the batch. The host stops, and a recovery is implied.
abbrev pub failing : Happening
failing = (Sync 0, DiskFails 0)

abbrev pub cut : World
cut = by_first toy 7 (step toy applied failing)

-- the batch isn't on the disk, or is
abbrev pub contents : List Shown
contents =
    Some (record { mark = 1; base = 0; log = [] })
    ∷ Some (record { mark = 1; base = 0; log = Sp 1 1 6 (put 1 10) ∷ [] }) ∷ []

-- the recovery, where the disk shows the content of this number
abbrev pub recovery : ℕ → List Happening
recovery n = (Recover, DisksShow (n ∷ []) None) ∷ []

abbrev pub last : ℕ → World
last n = by_first toy 1 (run toy (recovery n) cut)

abbrev pub events : List Event
events =
    Item ∷ Deliver (Site 0) Director ∷ Submit 1 ∷ Deliver Director (Client 1) ∷ Deliver (Agent 0) (Client 1)
    ∷ Deliver (Site 0) (Agent 0) ∷ Sync 0 ∷ Deliver (Agent 0) (Site 0) ∷ Deliver (Client 1) (Agent 0)
    ∷ Deliver (Scanner 0) (Site 0) ∷ Item ∷ Deliver (Agent 0) Director ∷ Deliver (Site 0) Director
    ∷ Deliver (Scanner 0) Director ∷ Recover ∷ Deliver (Client 1) (Agent 0) ∷ []

-- with the batch the call stands in the serial list, without it it doesn't
abbrev pub with_batch : Outline
with_batch =
    record {
      ends = ends_so 1 1 3 9 end.Lost ∷ [];
      serial = point 6 1 ∷ [];
      copies = shows 0 1 (1 ∷ 10 ∷ []) ∷ [];
      looks = [];
      enabled = [];
      serves = true;
    }

abbrev pub without_batch : Outline
without_batch =
    record {
      ends = ends_so 1 1 3 9 end.Lost ∷ [];
      serial = [];
      copies = shows 0 0 [] ∷ [];
      looks = [];
      enabled = [];
      serves = true;
    }
