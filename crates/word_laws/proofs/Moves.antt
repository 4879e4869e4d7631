-- Of what the proofs speak: the state after a turn, what is kept in a later one, turns that bring no word, and events of agents.
use Rattle.std.proofs.Common.{◌≡◌, ◌<◌, true, false, ◌⊎◌, ◌==◌}
use Rattle.std.specs.Prelude.{ℕ, Some, None}
use Rattle.std.specs.List.{AllByRecursion, list_any}
use Rattle.volt_wire.specs.Word.{Membership}
use Rattle.volt_wire.specs.declared.actor.Actor.{Actor}
use Rattle.volt_wire.specs.declared.actor.Actor.TheVariants.{Agent}
use Rattle.volt_wire.specs.declared.message.Msg.TheVariants as msg
use Rattle.cluster_model.specs.Words.{is_in, admits}
use Rattle.cluster_model.specs.Letters.{Letter, Sends, Turn}
use Rattle.cluster_model.specs.AgentState.{AgentState}
use Rattle.cluster_model.specs.World.{took, sent, set_at}
use Rattle.cluster_steps.specs.Lists.{In}
use Rattle.word_laws.specs.Histories.{State, History, Admitted, Begun, Gone, OwnIs, Earlier, WordsHold, agent_start, names}

-- ---- states

-- the state after a turn of the agent of host n
abbrev pub after_agent : State → ℕ → AgentState → Sends → History → State
after_agent S n a out H = record S { agents = set_at S.agents n a; channel = sent S.channel (Agent n) out; history = H }

-- the state once the agent of host n took the first message from this actor
abbrev pub agent_popped : State → Actor → ℕ → State
agent_popped S from n = record S { channel = took S.channel from (Agent n) }

-- What is so in S is so in T, for what only grows.
pub record WordsLater (S T : State) : Type 0 where
  pub deployment : T.deployment ≡ S.deployment
  pub owner : T.owner ≡ S.owner
  pub first : T.history.first ≡ S.history.first
  -- of starts that began, which came before which
  pub earlier : (h r s : ℕ) → In s (S.history.began h) → Earlier r s (T.history.began h) → Earlier r s (S.history.began h)
  pub earlier_too : (h r s : ℕ) → Earlier r s (S.history.began h) → Earlier r s (T.history.began h)
  pub begun : (s : ℕ) → Begun S s → Begun T s
  pub gone : (s : ℕ) → Gone S s → Gone T s
  pub said : (s : ℕ) (w : Membership) → In w (S.history.said s) → In w (T.history.said s)
  pub took_word : (s : ℕ) (w : Membership) → S.history.took s ≡ Some w → T.history.took s ≡ Some w
  pub decided : (w : Membership) → In w S.history.decided → In w T.history.decided
  pub admitted : (x : Admitted) → In x S.history.admitted → In x T.history.admitted

-- ---- what an agent's own word says

-- that this start is lost
abbrev pub OwnLost : ℕ → AgentState → Type 0
OwnLost o a = OwnIs (λ w. is_in o w.lost ≡ true) a

-- that this start was admitted
abbrev pub OwnAdmits : ℕ → AgentState → Type 0
OwnAdmits j a = OwnIs (λ w. admits w j ≡ true) a

-- ---- a message that may be forgotten

-- The agent of host n has heeded a message from another agent: what it says of words is in its own word.
abbrev pub Heeded : State → ℕ → Letter → Type 0
Heeded S n l = elim l.body as (λ _. Type 0) [
  | msg.Word base lost admitted ↦
      0 < agent_start S n → l.start ≡ agent_start S n
      → ((S.agents n).own ≡ None) ⊎ ((j : ℕ) → list_any (λ a. a.0 == j) admitted ≡ true → OwnAdmits j (S.agents n))
  | msg.Closed o ↦
      0 < agent_start S n
      → OwnLost o (S.agents n) ⊎ ((w : Membership) → In w (S.history.said o) → names w (agent_start S n) ≡ false)
  | _ ↦ Unit {0}
]

-- ---- an event of an agent

-- what only grows while no recovery works
pub record Grows (G H : History) : Type 0 where
  pub first : H.first ≡ G.first
  pub began : (h s : ℕ) → In s (G.began h) → In s (H.began h)
  pub said : (s : ℕ) (w : Membership) → In w (G.said s) → In w (H.said s)
  pub took_word : (s : ℕ) (w : Membership) → G.took s ≡ Some w → H.took s ≡ Some w
  pub decided : (w : Membership) → In w G.decided → In w H.decided
  pub admitted : (x : Admitted) → In x G.admitted → In x H.admitted

-- A message tells of decided words alone, and of starts that have stopped.
abbrev pub TellsKnown : State → Letter → Type 0
TellsKnown S l = elim l.body as (λ _. Type 0) [
  | msg.Word base lost admitted ↦ ⊥
  | msg.Decided w ↦ In w S.history.decided
  | msg.View w ↦ In w S.history.decided
  | msg.Closed o ↦ Gone S o
  | _ ↦ Unit {0}
]

-- so does what an agent says to others than agents
abbrev pub ShownOk : State → Actor → Letter → Type 0
ShownOk S (Agent g) l = Unit {0}
ShownOk S b l = TellsKnown S l

-- no start is admitted, and any may be
abbrev pub Nobody : ℕ → ℕ → Type 0
Nobody j h = ⊥

abbrev pub Anyone : ℕ → ℕ → Type 0
Anyone j h = Unit {0}

-- The agent of host n took the first message from this actor, and that is its turn: what holds, holds after it, with a history
-- that grew.
pub record WordsGo (S : State) (n : ℕ) (from : Actor) (t : Turn AgentState) : Type 0 where
  pub history : History
  pub grows : Grows S.history history
  pub holds : WordsHold (after_agent (agent_popped S from n) n t.state t.sends history)
  pub shown : (b : Actor) → AllByRecursion (ShownOk (after_agent (agent_popped S from n) n t.state t.sends history) b) (t.sends b)
