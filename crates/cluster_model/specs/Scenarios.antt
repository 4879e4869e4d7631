-- What is written down of scenarios of the example's database.
pub mod PutAndGet
pub mod BelowZero
pub mod LeaderLostBehindPut
pub mod LeaderLostBeforePut
pub mod InitiatorLostBehindDone
pub mod InitiatorLostBeforeDecision
pub mod PowerCut
pub mod MarkBeforeLength
pub mod LostAndRejoined
pub mod PartitionDown
pub mod StreamOfAnOldTerm
pub mod JoinerHearsOfALoss
pub mod StopOvertakesStart
pub mod SecondJoinerOfASlot
pub mod StartBelowTheInitiators
pub mod StartBelowAMembers
pub mod ClientsAgentCloses
pub mod AskedTwice
pub mod LateRequest
pub mod LostCallRunsLater
pub mod AskedAgainBehindRecovery
pub mod SnapshotBeforeACall
pub mod RecoveryFailsAsItWrites
pub mod CancelledJoin
pub mod StreamFails
pub mod OutOfMemory
use Rattle.std.specs.Prelude.{ℕ, zero, suc, ◌==◌, Bool, true, false, List, [], ◌∷◌, Option, Some, None, map}
use Rattle.std.specs.List.{list_any}
use Rattle.volt_base.specs.declared.entry.Applied.{Applied}
use Rattle.volt_wire.specs.declared.end.End.{End}
use Rattle.volt_wire.specs.declared.event.Event.{Event}
use Rattle.volt_wire.specs.declared.item.Item.{Item}
use Rattle.volt_wire.specs.declared.item.TimedItem.{TimedItem}
use Rattle.cluster_model.specs.Client.{Ended}
use Rattle.cluster_model.specs.Director.{Seen}
use Rattle.cluster_model.specs.Words.{Deployment}
use Rattle.cluster_model.specs.World.{World, Input, AskedFor, first_world}
use Rattle.cluster_model.specs.Letters.{Letter}
use Rattle.cluster_model.specs.Events.{enabled, serves}
use Rattle.cluster_model.specs.Runs.{copies, serial, ended, first_step, first_enabled}
use Rattle.cluster_model.specs.Toy.{toy}

-- what a report says of a world
pub record Outline : Type 0 where
  pub ends : List Ended
  pub serial : List Applied
  pub copies : List Seen
  pub looks : List Seen
  -- the events that may happen, and whether the cluster serves
  pub enabled : List Event
  pub serves : Bool

abbrev pub outline : World → Outline
outline w =
    record {
      ends = ended w;
      serial = serial w;
      copies = copies toy w;
      looks = w.director.looks;
      enabled = enabled w;
      serves = serves w;
    }

-- the same where the scenario doesn't say at which stamps
pub record Stampless : Type 0 where
  pub ends : List (ℕ × End)
  pub serial : List ℕ
  pub copies : List Seen
  pub looks : List Seen
  pub enabled : List Event
  pub serves : Bool

abbrev pub stampless : Outline → Stampless
stampless o =
    record {
      ends = map (λ e. (e.call, e.end)) o.ends;
      serial = map (λ a. a.call) o.serial;
      copies = o.copies;
      looks = o.looks;
      enabled = o.enabled;
      serves = o.serves;
    }

-- a deployment of these hosts, sites for each host, spare copies and clients
abbrev pub deployed : ℕ → ℕ → ℕ → ℕ → Deployment
deployed hosts sites k clients = record { layout = record { hosts = hosts; sites = sites; k = k }; clients = clients }

-- the input of a deployment on blank disks, with these calls and items
abbrev pub blank : Deployment → List AskedFor → List TimedItem → Input
blank D calls items = record { deployment = D; calls = calls; items = items; base = 1 }

-- its first world
abbrev pub begins : Input → World
begins I = first_world toy I

-- a call of a client on one partition, or on all
abbrev pub calls_on : ℕ → ℕ → List ℕ → AskedFor
calls_on client part body = record { client = client; part = Some part; body = body }

abbrev pub calls_all : ℕ → List ℕ → AskedFor
calls_all client body = record { client = client; part = None; body = body }

abbrev pub at_once : Item → TimedItem
at_once i = record { after = 0; item = i }

abbrev pub after_calls : ℕ → Item → TimedItem
after_calls n i = record { after = n; item = i }

-- how a call ended
abbrev pub ends_so : ℕ → ℕ → ℕ → ℕ → End → Ended
ends_so call client submitted ended e =
    record { call = call; client = client; submitted = submitted; ended = ended; end = e }

abbrev pub point : ℕ → ℕ → Applied
point at call = record { call = call; point = at }

abbrev pub shows : ℕ → ℕ → List ℕ → Seen
shows slot position rows = record { slot = slot; position = position; rows = rows }

-- the first world of which this holds, after at most so many events that `first` chooses
abbrev pub until : (World → Bool) → ℕ → World → World
until test zero w = w
until test (suc n) w = elim (test w) as (λ _. World) [
  | true ↦ w
  | false ↦ until test n (first_step toy w (first_enabled w))
]
