-- What the agent of a host knows.
use Rattle.std.specs.Prelude.{ℕ, ◌==◌, ◌&&◌, nat_lt, Bool, false, if◌then◌else◌, List, [], ◌∷◌, ◌++◌, Option, Some, None}
use Rattle.volt_base.specs.declared.entry.LastReply.{LastReply}
use Rattle.volt_base.specs.declared.entry.Outcome.{Outcome}
use Rattle.volt_wire.specs.Word.{Membership}
use Rattle.volt_wire.specs.declared.actor.Actor.TheVariants.{Client, Agent, Site, Scanner}
use Rattle.volt_wire.specs.declared.end.End.{End}
use Rattle.volt_wire.specs.declared.message.Msg.TheVariants as msg
pub use Rattle.cluster_model.specs.declared.initiating.Job.{Job}
pub use Rattle.cluster_model.specs.declared.initiating.Job.TheVariants.{RunCall, TakeSnapshot}
pub use Rattle.cluster_model.specs.declared.initiating.Queued.{Queued}
pub use Rattle.cluster_model.specs.declared.initiating.Queued.TheVariants.{ToRun, Admission}
pub use Rattle.cluster_model.specs.declared.initiating.Heard.{Heard}
pub use Rattle.cluster_model.specs.declared.initiating.Phase.{Phase}
pub use Rattle.cluster_model.specs.declared.initiating.Phase.TheVariants.{Off, Hears, Closes, Idle, Works}
use Rattle.cluster_model.specs.Words.{Deployment, initiator, is_slot_of, is_host, is_client, is_down}
use Rattle.cluster_model.specs.Letters.{Letter, Sends, Turn, becomes, sending, open_letter, only, Waiting}

-- a call that the agent took: who waits for it, the partition on which it runs or none for a call on all, and the start to
-- which the agent sent it last
pub record Pending : Type 0 where
  pub call : ℕ
  pub client : ℕ
  pub part : Option ℕ
  pub body : List ℕ
  pub target : ℕ

-- ---- the initiator's part

-- the job at hand
pub record Work : Type 0 where
  pub job : Job
  -- the number of its transaction
  pub transaction : ℕ
  -- the round that is under way, the parts of the rounds before it, and those that came of this one
  pub round : ℕ
  pub fed : List (List (List ℕ))
  pub gathered : List (ℕ × List ℕ)
  -- how it was decided
  pub decision : Option Outcome
  -- the partitions in which its end stands for good
  pub finished : List ℕ

pub record Initiating : Type 0 where
  pub phase : Phase
  pub work : Option Work
  -- the number of its next transaction; 0 where it hasn't been the initiator yet
  pub next : ℕ
  -- what waits, in order of coming
  pub queue : List Queued
  -- the last reply to each client that it knows of, by rising client
  pub replies : List LastReply

-- ---- the agent

pub record AgentState : Type 0 where
  -- the number of its start; 0 where it isn't running
  pub start : ℕ
  -- its own word, which it says to the others
  pub own : Option Membership
  -- the last word that it decided
  pub decided : Option Membership
  -- the word that it took as a joiner
  pub taken : Option Membership
  -- what each host's agent said last
  pub said : ℕ → Option Membership
  pub pending : List Pending
  -- its sites that have loaded their tables
  pub loaded : List ℕ
  pub initiating : Initiating
  -- the messages that wait for a higher term, in order of coming
  pub waiting : List Waiting

abbrev pub no_initiator : Initiating
no_initiator = record { phase = Off; work = None; next = 0; queue = []; replies = [] }

-- an agent of this start that knows nothing yet; with the start 0 one that isn't running
abbrev pub new_agent : ℕ → AgentState
new_agent start =
    record {
      start = start;
      own = None;
      decided = None;
      taken = None;
      said = λ h. None;
      pending = [];
      loaded = [];
      initiating = no_initiator;
      waiting = [];
    }

-- it is the initiator by the word that it has decided
abbrev pub is_initiator_in : ℕ → ℕ → Option (ℕ × ℕ) → Bool
is_initiator_in host start None = false
is_initiator_in host start (Some first) = first.0 == host && first.1 == start

abbrev pub initiates : ℕ → AgentState → Option Membership → Bool
initiates h a None = false
initiates h a (Some w) = is_initiator_in h a.start (initiator w)

-- ---- calls that are pending

abbrev pub client_of : ℕ → List Pending → Option ℕ
client_of call [] = None
client_of call (p ∷ ps) = if p.call == call then Some p.client else client_of call ps

-- by rising call
abbrev pub with_pending : Pending → List Pending → List Pending
with_pending p [] = p ∷ []
with_pending p (q ∷ qs) = if nat_lt p.call q.call then p ∷ q ∷ qs else q ∷ with_pending p qs

abbrev pub without_call : ℕ → List Pending → List Pending
without_call call [] = []
without_call call (p ∷ ps) = if p.call == call then ps else p ∷ without_call call ps

abbrev pub answers_client : AgentState → ℕ → End → Option ℕ → Turn AgentState
answers_client a call e None = becomes a
answers_client a call e (Some n) =
    sending (record a { pending = without_call call a.pending }) (only (Client n) (open_letter (msg.Answer call e)))

abbrev pub is_down_in : Deployment → Option Membership → Bool
is_down_in D None = false
is_down_in D (Some w) = is_down D w

-- Reply, MpReply: unless the agent is down, the client gets the answer, if the call is pending.
abbrev pub on_reply : Deployment → AgentState → ℕ → End → Turn AgentState
on_reply D a call e = if is_down_in D a.decided then becomes a else answers_client a call e (client_of call a.pending)

-- ---- stops

-- Closed goes to all other agents and to all clients.
abbrev pub closes : Deployment → ℕ → ℕ → Sends
closes D h start (Agent g) = if is_host D g then (if g == h then [] else open_letter (msg.Closed start) ∷ []) else []
closes D h start (Client n) = if is_client D n then open_letter (msg.Closed start) ∷ [] else []
closes D h start b = []

-- The agent stops, and sends Closed.
abbrev pub stops : Deployment → ℕ → ℕ → Turn AgentState
stops D h start = sending (new_agent 0) (closes D h start)

-- Stop to the other actors of a host of this start, from one of them that stops of itself
abbrev pub stops_others : Deployment → ℕ → ℕ → Sends
stops_others D h start (Agent g) = if g == h then open_letter (msg.Stop start) ∷ [] else []
stops_others D h start (Site s) = if is_slot_of D h s then open_letter (msg.Stop start) ∷ [] else []
stops_others D h start (Scanner x) = if is_slot_of D h x then open_letter (msg.Stop start) ∷ [] else []
stops_others D h start b = []

-- An agent of this start that stops of itself sends Closed, and stops the other actors of its host.
abbrev pub stops_with_host : Deployment → ℕ → ℕ → Turn AgentState
stops_with_host D h start =
    sending (new_agent 0) (λ b. elim b as (λ _. List Letter) [
      | Agent g ↦ closes D h start (Agent g)
      | _ ↦ closes D h start b ++ stops_others D h start b
    ])
