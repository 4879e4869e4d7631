-- Two hosts with a copy each: both disks have the call, at two points; that with the later mark counts.
use Rattle.std.specs.Prelude.{true, List, [], ◌∷◌, Some}
use Rattle.volt_base.specs.declared.entry.Entry.TheVariants.{Sp}
use Rattle.volt_wire.specs.declared.actor.Actor.TheVariants.{Director, Client, Agent, Site, Scanner}
use Rattle.volt_wire.specs.declared.end.End.TheVariants as end
use Rattle.volt_wire.specs.declared.event.Event.{Event}
use Rattle.volt_wire.specs.declared.event.Event.TheVariants.{Deliver, Sync, Submit, Item}
use Rattle.volt_wire.specs.declared.item.Item.TheVariants as item
use Rattle.cluster_model.specs.Disk.{Shown}
use Rattle.cluster_model.specs.World.{World, Input}
use Rattle.cluster_model.specs.Runs.{by_first, run, no_fault, Happening}
use Rattle.cluster_model.specs.Toy.{toy, put, gives}
use Rattle.cluster_model.specs.Scenarios.{Outline, deployed, blank, begins, calls_on, ends_so, point, shows, at_once, after_calls}

abbrev pub input : Input
input =
    blank (deployed 2 1 1 2) (calls_on 2 0 (put 1 10) ∷ [])
    (after_calls 1 (item.Lose 0) ∷ at_once item.Quiet ∷ at_once item.Halt ∷ at_once item.Recover ∷ [])

abbrev pub start : World
start = begins input

abbrev pub given : List Event
given =
    Submit 2 ∷ Deliver (Agent 1) (Client 2) ∷ Deliver (Site 0) (Agent 1) ∷ Sync 0 ∷ Deliver Director (Client 2) ∷ Item
    ∷ Deliver (Agent 0) Director ∷ Deliver (Site 0) Director ∷ Deliver (Scanner 0) Director
    ∷ Deliver (Agent 1) (Agent 0) ∷ Deliver (Site 1) (Agent 1) ∷ Deliver (Site 1) (Site 0) ∷ []

abbrev pub given_run : List Happening
given_run = no_fault given

-- all is stopped and a recovery is asked for
abbrev pub stopped : World
stopped = by_first toy 26 (run toy given_run start)

-- what the disks of both slots show
abbrev pub contents : List (List Shown)
contents =
    (Some (record { mark = 1; base = 0; log = Sp 1 2 3 (put 1 10) ∷ [] }) ∷ [])
    ∷ (Some (record { mark = 2; base = 0; log = Sp 1 2 16 (put 1 10) ∷ [] }) ∷ []) ∷ []

abbrev pub last : World
last = by_first toy 30 stopped

abbrev pub shown : Outline
shown =
    record {
      ends = ends_so 1 2 1 19 (end.Ok (gives 1)) ∷ [];
      serial = point 16 1 ∷ [];
      copies = shows 0 1 (1 ∷ 10 ∷ []) ∷ shows 1 1 (1 ∷ 10 ∷ []) ∷ [];
      looks = [];
      enabled = [];
      serves = true;
    }
