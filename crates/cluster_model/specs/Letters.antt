-- Messages under way, and what an event makes of its actor.
use Rattle.std.specs.Prelude.{ℕ, ◌==◌, ◌||◌, Bool, true, false, if◌then◌else◌, nat_lt, List, [], ◌∷◌, ◌++◌, filter}
use Rattle.volt_base.specs.declared.entry.Entry.{Entry}
use Rattle.volt_wire.specs.declared.actor.Actor.{Actor}
use Rattle.volt_wire.specs.declared.actor.Actor.TheVariants.{Director, Client, Agent, Site, Scanner}
use Rattle.volt_wire.specs.declared.message.Msg.{Msg}

-- whether two actors are one
abbrev pub same : Actor → Actor → Bool
same Director Director = true
same (Client a) (Client b) = a == b
same (Agent a) (Agent b) = a == b
same (Site a) (Site b) = a == b
same (Scanner a) (Scanner b) = a == b
same _ _ = false

-- A scan stands for the blocks that it is to read out.
abbrev pub Blocks : Type 0
Blocks = List (List ℕ)

-- A message under way.
pub record Letter : Type 0 where
  -- the start of the receiver that is meant, or 0
  pub start : ℕ
  -- the term that the message is for, or 0
  pub term : ℕ
  pub body : Msg Blocks
  -- History, which no code keeps: where a stream starts, the log whose tables it reads out.
  pub past : List Entry

-- a message for no start and no term
abbrev pub open_letter : Msg Blocks → Letter
open_letter m = record { start = 0; term = 0; body = m; past = [] }

-- one for a start
abbrev pub letter_to : ℕ → Msg Blocks → Letter
letter_to start m = record { start = start; term = 0; body = m; past = [] }

-- one for a start and a term
abbrev pub letter_in : ℕ → ℕ → Msg Blocks → Letter
letter_in term start m = record { start = start; term = term; body = m; past = [] }

-- What an event sends: to each actor, its messages in order.
abbrev pub Sends : Type 0
Sends = Actor → List Letter

abbrev pub no_sends : Sends
no_sends b = []

-- one message to one actor
abbrev pub only : {A : Type 0} → Actor → A → Actor → List A
only to l b = if same to b then l ∷ [] else []

-- What an event makes of its actor: the state after it, and what it sends.
pub record Turn (A : Type 0) : Type 0 where
  pub state : A
  pub sends : Sends

-- nothing is sent
abbrev pub becomes : {A : Type 0} → A → Turn A
becomes s = record { state = s; sends = no_sends }

abbrev pub sending : {A : Type 0} → A → Sends → Turn A
sending s sends = record { state = s; sends = sends }

infixl 12 ◌▸◌
-- first one, then the other on the state that it left
abbrev pub ◌▸◌ : {A : Type 0} → Turn A → (A → Turn A) → Turn A
t ▸ f = let u = f t.state in record { state = u.state; sends = λ b. t.sends b ++ u.sends b }

-- ---- what an actor does with a message that comes: it takes it, drops it (Refused), or keeps it until it gets to its term

pub data Arrival : Type 0 where
  Taken : Arrival
  Refused : Arrival
  Waits : Arrival

-- A message for another start of its receiver is dropped. So is one of a lower term than the receiver's; one of a
-- higher term waits. A message without a term is taken in any.
abbrev pub in_term : ℕ → ℕ → Arrival
in_term here there =
    if there == 0 || there == here then Taken else if nat_lt there here then Refused else Waits

abbrev pub arrival : ℕ → ℕ → Letter → Arrival
arrival start here l = if l.start == 0 || l.start == start then in_term here l.term else Refused

-- a message that waits for its receiver to get to its term, and who sent it
pub record Waiting : Type 0 where
  pub from : Actor
  pub letter : Letter

-- of those that wait, the ones of a term, and the ones of a higher term
abbrev pub of_term : ℕ → List Waiting → List Waiting
of_term term ws = filter (λ w. w.letter.term == term) ws

abbrev pub above_term : ℕ → List Waiting → List Waiting
above_term term ws = filter (λ w. nat_lt term w.letter.term) ws
