-- What the laws ask of the last world, by evaluation.
use Rattle.std.proofs.Common.{◌≡◌, refl, sym, ◌∙◌, arith}
use Rattle.cluster_model.specs.Scenarios.AskedAgainBehindRecovery as behind_recovery
use Rattle.cluster_model.specs.Scenarios.InitiatorLostBehindDone as behind_done
use Rattle.cluster_model.specs.Scenarios.LeaderLostBehindPut as behind_put
use Rattle.cluster_model.specs.Scenarios.LostAndRejoined as rejoined
use Rattle.cluster_model.specs.SiteState.{site_term}
use Rattle.cluster_model.specs.Runs.{IsRun}
use Rattle.cluster_model.specs.Toy.{toy}
use Rattle.log_laws.specs.Copies.{AreCopies, HasLoaded, Leads, LeadsNext, OfOneTerm}
use Rattle.transaction_laws.specs.Worlds.{IsInitiator}
use Rattle.law_instances.specs.Instances.{answered, asks, asks_again, joins, loaded, moves, admits}

-- the slots 4 and 5 have the copies of partition 2, and run
pub copies-of-two : AreCopies behind_done.last 5 4
copies-of-two = record { first = refl; second = refl; alike = record { part = refl; term = refl } }

-- slot 4 leads
pub leads-two : Leads behind_done.last 4
leads-two = record { runs = refl; leads = refl }

-- host 1 is the initiator then
pub host-1 : IsInitiator behind_done.last 1
host-1 = record { runs = omega arith; word = _; decided = refl; initiates = refl }

-- the leaders of partition 1: slot 3 when its first call was answered, and slot 2 behind the loss
pub leads-next : LeadsNext answered behind_done.last 3 2
leads-next = record { first = record { runs = refl; leads = refl }; second = record { runs = refl; leads = refl }; part = refl; term = omega arith }

-- a leader is asked
pub asks-run : IsRun toy asks behind_put.start
asks-run = search

-- the next leader is asked again
pub asks_again-run : IsRun toy asks_again behind_put.start
asks_again-run = search

-- a call on all partitions is decided, and its end stands for good
pub moves-run : IsRun toy moves behind_recovery.start
moves-run = search

-- slot 0 has joined slot 1, which leads, and has loaded
pub joins-run : IsRun toy joins rejoined.start
joins-run = search

-- and it is admitted
pub admits-run : IsRun toy admits loaded
admits-run = search

pub has-loaded : HasLoaded loaded 0
has-loaded = (_, refl, refl)

pub leads-alone : Leads loaded 1
leads-alone = record { runs = refl; leads = refl }

joiner-term : site_term (loaded.sites 0) ≡ 2
joiner-term = refl

leader-term : site_term (loaded.sites 1) ≡ 2
leader-term = refl

pub joined-to : OfOneTerm loaded 0 1
joined-to = record { part = refl; term = joiner-term ∙ sym leader-term }
