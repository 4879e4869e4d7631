-- Which words a world holds, and what may be asked of the starts that are lost in them.
use Rattle.std.specs.Prelude.{ℕ, ◌≡◌, true, nat_lt, List, Option, Some, None}
use Rattle.std.specs.List.{AllByRecursion}
use Rattle.volt_wire.specs.Word.{Membership}
use Rattle.volt_wire.specs.declared.actor.Actor.{Actor}
use Rattle.volt_wire.specs.declared.actor.Actor.TheVariants.{Agent}
use Rattle.volt_wire.specs.declared.message.Msg.TheVariants as msg
use Rattle.cluster_model.specs.Letters.{Letter, Waiting}
use Rattle.cluster_model.specs.AgentState.{AgentState}
use Rattle.cluster_model.specs.World.{World}

-- this holds of each start that is lost in a word, if there is one
abbrev pub OfLost : (ℕ → Type 0) → Option Membership → Type 0
OfLost P None = Unit {0}
OfLost P (Some w) = AllByRecursion P w.lost

-- it holds of each start that is lost in the word of a message, and of a start that the message says has closed
abbrev pub OfLetter : (ℕ → Type 0) → Letter → Type 0
OfLetter P l = elim l.body as (λ _. Type 0) [
  | msg.Word base lost admitted ↦ AllByRecursion P lost
  | msg.Decided w ↦ AllByRecursion P w.lost
  | msg.View w ↦ AllByRecursion P w.lost
  | msg.Closed start ↦ P start
  | _ ↦ Unit {0}
]

-- the same of a message from an agent; others have no words
abbrev pub OfLetterFrom : (ℕ → Type 0) → Actor → Letter → Type 0
OfLetterFrom P (Agent h) l = OfLetter P l
OfLetterFrom P from l = Unit {0}

-- it holds of each start that is lost in a word of an agent: its own, the one it decided, the one it took, those that the
-- others said, and those of the messages that wait
pub record OfWords (P : ℕ → Type 0) (own decided taken : Option Membership) (said : ℕ → Option Membership) (waiting : List Waiting) : Type 0 where
  pub of_own : OfLost P own
  pub of_decided : OfLost P decided
  pub of_taken : OfLost P taken
  pub of_said : (g : ℕ) → OfLost P (said g)
  pub of_waiting : AllByRecursion (λ w. OfLetterFrom P w.from w.letter) waiting

abbrev pub OfAgent : (ℕ → Type 0) → AgentState → Type 0
OfAgent P a = OfWords P a.own a.decided a.taken a.said a.waiting

-- no agent runs with this start
abbrev pub IsStopped : World → ℕ → Type 0
IsStopped w s = (g : ℕ) → nat_lt 0 (w.agents g).start ≡ true → (w.agents g).start ≡ s → ⊥

-- No start whose agent runs is lost in a word of the world: neither in one that an agent holds, nor in one that travels from
-- an agent.
pub record LostAreStopped (w : World) : Type 0 where
  pub held : (h : ℕ) → OfAgent (IsStopped w) (w.agents h)
  pub travelling : (h : ℕ) (b : Actor) → AllByRecursion (OfLetter (IsStopped w)) (w.channel (Agent h) b)
