-- What the instances speak of.
use Rattle.std.specs.Prelude.{ℕ, List, [], ◌∷◌, ◌++◌, take}
use Rattle.volt_wire.specs.declared.actor.Actor.TheVariants.{Director, Client, Agent, Site, Scanner}
use Rattle.volt_wire.specs.declared.event.Event.TheVariants.{Deliver, Sync, Scan, Submit, Item}
use Rattle.cluster_model.specs.Environment.{NoFault}
use Rattle.cluster_model.specs.Events.{step}
use Rattle.cluster_model.specs.World.{World}
use Rattle.cluster_model.specs.Runs.{run, no_fault, Happening}
use Rattle.cluster_model.specs.Toy.{toy}
use Rattle.cluster_model.specs.Scenarios.AskedAgainBehindRecovery as behind_recovery
use Rattle.cluster_model.specs.Scenarios.InitiatorLostBehindDone as behind_done
use Rattle.cluster_model.specs.Scenarios.LeaderLostBehindPut as behind_put
use Rattle.cluster_model.specs.Scenarios.LostAndRejoined as rejoined

-- each disk shows the first of its contents
abbrev pub first_shown : List ℕ
first_shown = 0 ∷ 0 ∷ 0 ∷ 0 ∷ 0 ∷ 0 ∷ []

-- the world when the first call was counted firm
abbrev pub answered : World
answered = run toy (take 8 behind_done.events) behind_done.start

-- and when its agent has the reply, and tells the client
abbrev pub told : World
told = run toy (take 9 behind_done.events) behind_done.start

-- Two accounts are put, and a call on all partitions moves a sum. The agent of host 1 asks the initiator for it, which decides
-- it, and hears that its end stands for good.
abbrev pub moves : List Happening
moves =
    no_fault
    (behind_recovery.puts ++ behind_recovery.begun ++ behind_recovery.round ++ behind_recovery.round ++ behind_recovery.round
    ++ behind_recovery.round ++ behind_recovery.decided
    ++ Deliver (Site 1) (Site 0) ∷ Sync 1 ∷ Deliver (Site 0) (Site 1) ∷ Deliver (Agent 0) (Site 0) ∷ [])

abbrev pub moved : World
moved = run toy moves behind_recovery.start

-- that agent has the answer, and tells the client
abbrev pub moved_told : World
moved_told = step toy moved (Deliver (Agent 1) (Agent 0), NoFault)

-- a client submits its call, and its agent asks the leader
abbrev pub asks : List Happening
asks = no_fault (take 2 behind_put.events)

abbrev pub requested : World
requested = run toy asks behind_put.start

-- The leader of a partition is lost when its call has reached the other copy. That one leads then, and is asked again; all that
-- it has comes to its disk.
abbrev pub asks_again : List Happening
asks_again = no_fault (take 16 behind_put.events)

-- the world when the reply is given again
abbrev pub given_again : World
given_again = run toy asks_again behind_put.start

-- the world when the first round is firm in partition 1, where account 1 lies
abbrev pub asked : World
asked = run toy (take 37 behind_done.events) behind_done.start

-- the world when an end of the transaction is firm in partition 0: the one that the next initiator sent
abbrev pub ended : World
ended = run toy (take 132 behind_done.events) behind_done.start

-- the world when the agent of host 0 has its Stop to take, and the one in which it has taken it
abbrev pub stopping : World
stopping = run toy (take 98 behind_done.events) behind_done.start

abbrev pub stopped : World
stopped = step toy stopping (Deliver (Agent 0) Director, NoFault)

-- the world when a word of agent 1 comes to it, and the one in which it has come
abbrev pub heeding : World
heeding = run toy (take 105 behind_done.events) behind_done.start

abbrev pub heedless : World
heedless = step toy heeding (Deliver (Agent 0) (Agent 1), NoFault)

-- The first call is firm in the copies of the hosts 0 and 1. Host 0 is lost and comes back, and its site loads what that of
-- host 1, which leads alone, streams.
abbrev pub joins : List Happening
joins =
    no_fault
    (Submit 2 ∷ Deliver Director (Client 2) ∷ Deliver (Agent 1) (Client 2) ∷ Deliver (Site 0) (Agent 1)
    ∷ Deliver (Site 1) (Site 0) ∷ Sync 1 ∷ Deliver (Site 0) (Site 1) ∷ Sync 0 ∷ Item ∷ Deliver (Agent 0) Director
    ∷ Deliver (Site 0) Director ∷ Deliver (Agent 1) (Agent 0) ∷ Deliver (Site 1) (Agent 1) ∷ Sync 1
    ∷ Deliver (Agent 1) (Site 1) ∷ Item ∷ Deliver (Agent 0) Director ∷ Deliver (Agent 0) (Agent 1)
    ∷ Deliver (Site 0) (Agent 0) ∷ Deliver (Site 0) (Agent 0) ∷ Deliver (Site 1) (Site 0) ∷ Deliver (Site 0) (Site 1)
    ∷ Deliver (Scanner 1) (Site 1) ∷ Scan 1 ∷ Deliver (Site 0) (Scanner 1) ∷ Scan 1 ∷ Deliver (Site 1) (Scanner 1)
    ∷ Deliver (Site 0) (Site 1) ∷ Sync 0 ∷ [])

abbrev pub loaded : World
loaded = run toy joins rejoined.start

-- Its agent asks to be admitted, and the initiator admits it: both say the word with its start, and the initiator decides it.
abbrev pub admits : List Happening
admits =
    no_fault
    (Deliver (Agent 0) (Site 0) ∷ Deliver (Agent 1) (Agent 0) ∷ Deliver (Agent 1) (Agent 0) ∷ Deliver (Agent 0) (Agent 1)
    ∷ Deliver (Agent 0) (Agent 1) ∷ Deliver (Agent 1) (Agent 0) ∷ [])

abbrev pub admitted : World
admitted = run toy admits loaded
