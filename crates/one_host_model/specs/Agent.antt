-- An agent hands the calls of clients to the leaders of their partitions, and the replies back.
use Rattle.std.specs.Prelude.{ℕ, ◌==◌, Bool, true, false, if◌then◌else◌, List, [], ◌∷◌, ◌++◌, Option, Some, None}
use Rattle.volt_wire.specs.declared.actor.Actor.{Actor}
use Rattle.volt_wire.specs.declared.actor.Actor.TheVariants.{Client, Site}
use Rattle.one_host_model.specs.declared.message.Msg.{Msg}
use Rattle.one_host_model.specs.declared.message.Msg.TheVariants as msg
use Rattle.one_host_model.specs.declared.state.Pending.{Pending}
use Rattle.one_host_model.specs.Actors.{Sends, nothing, only}

pub record AgentState : Type 0 where
  -- the number of its start; 0 where it isn't running
  pub start : ℕ
  -- the calls that it took and hasn't answered
  pub pending : List Pending

-- the client that waits for a call, if there is one
abbrev pub client_of : ℕ → List Pending → Option ℕ
client_of call [] = None
client_of call (p ∷ ps) = if p.call == call then Some p.client else client_of call ps

-- what is pending besides that call
abbrev pub without : ℕ → List Pending → List Pending
without call [] = []
without call (p ∷ ps) = if p.call == call then ps else p ∷ without call ps

-- Call: an agent of another start does nothing. Else the call is pending, and goes to the leader of its
-- partition. On one host the leader of a partition is the site of the slot with its number.
abbrev pub called : Bool → AgentState → ℕ → ℕ → AgentState
called true a call client = record a { pending = a.pending ++ record { call = call; client = client } ∷ [] }
called false a call client = a

-- An agent after a message
abbrev pub agent_after : AgentState → Actor → Msg → AgentState
agent_after a (Client n) (msg.Call call start (Some part) body) = called (start == a.start) a call n
agent_after a (Site i) (msg.Reply call start reply) = record a { pending = without call a.pending }
agent_after a from m = a

-- and what it sends: the call to the leader, or the reply to the client that waits for it
abbrev pub answers : Option ℕ → ℕ → List ℕ → Sends
answers None call reply = nothing
answers (Some n) call reply = only (Client n) (msg.Answer call reply)

abbrev pub agent_sends : AgentState → Actor → Msg → Sends
agent_sends a (Client n) (msg.Call call start (Some part) body) = if start == a.start then only (Site part) (msg.SpCall call start n body) else nothing
agent_sends a (Site i) (msg.Reply call start reply) = answers (client_of call a.pending) call reply
agent_sends a from m = nothing
