-- What the laws of the definitions speak of.
use Rattle.std.specs.Prelude.{ℕ, ◌≡◌, ◌+◌, ◌≤◌, Bool, true, false, List, [], ◌∷◌, ◌++◌, map, flat_map, None}
use Rattle.volt_wire.specs.declared.actor.Actor.{Actor}
use Rattle.volt_wire.specs.declared.actor.Actor.TheVariants.{Director, Client, Agent, Site, Scanner}
use Rattle.volt_wire.specs.declared.event.Event.{Event}
use Rattle.volt_wire.specs.declared.event.Event.TheVariants as event
use Rattle.volt_wire.specs.declared.item.TimedItem.{TimedItem}
use Rattle.cluster_model.specs.Engine.{Database}
use Rattle.volt_wire.specs.declared.item.Item.{Item}
use Rattle.volt_wire.specs.declared.item.Item.TheVariants as item
use Rattle.volt_wire.specs.declared.message.Msg.TheVariants as msg
use Rattle.cluster_model.specs.Letters.{same, Letter, Sends}
use Rattle.cluster_model.specs.Director.{does_next}
use Rattle.cluster_model.specs.Environment.{Environment, DisksShow}
use Rattle.cluster_model.specs.Recover.{new_base}
use Rattle.cluster_model.specs.World.{World, took, new_word}
use Rattle.cluster_model.specs.Events.{may_do, step}
use Rattle.cluster_model.specs.Runs.{Happening}

-- ---- an event changes one actor

-- an event that isn't the recovery of all
abbrev pub is_one_actors : Event → Bool
is_one_actors event.Recover = false
is_one_actors _ = true

-- the actor of an event
abbrev pub actor_of : Event → Actor
actor_of (event.Deliver to from) = to
actor_of (event.Sync i) = Site i
actor_of (event.Scan i) = Scanner i
actor_of event.Recover = Director
actor_of event.Item = Director
actor_of (event.Submit n) = Client n
actor_of (event.Idle a) = a

-- the channels once the event has taken its message: of one channel the first, if there is one
abbrev pub left_by : World → Event → Actor → Actor → List Letter
left_by w (event.Deliver to from) a b = took w.channel from to a b
left_by w e a b = w.channel a b

-- From a world to the one after an event of this actor: every other actor is as before, and to the channels from this actor
-- alone something is appended.
pub record ChangesOne (w v : World) (e : Event) (a : Actor) : Type 0 where
  pub director : same Director a ≡ false → v.director ≡ w.director
  pub clients : (n : ℕ) → same (Client n) a ≡ false → v.clients n ≡ w.clients n
  pub agents : (h : ℕ) → same (Agent h) a ≡ false → v.agents h ≡ w.agents h
  pub sites : (i : ℕ) → same (Site i) a ≡ false → v.sites i ≡ w.sites i
  pub scanners : (i : ℕ) → same (Scanner i) a ≡ false → v.scanners i ≡ w.scanners i
  pub appends : (b c : Actor) → (more : List Letter) × (v.channel b c ≡ left_by w e b c ++ more)
  pub others : (b c : Actor) → same a b ≡ false → v.channel b c ≡ left_by w e b c

-- ---- the end of a channel

-- the last of these letters is this one
abbrev pub EndsWith : Letter → List Letter → Type 0
EndsWith l ls = (prefix : List Letter) × (ls ≡ prefix ++ l ∷ [])

-- ---- starts

-- the starts that stand in messages
abbrev pub start_in_letter : Letter → List ℕ
start_in_letter l = elim l.body as (λ _. List ℕ) [
  | msg.Start start ↦ start ∷ []
  | _ ↦ []
]

abbrev pub starts_in : List Letter → List ℕ
starts_in ls = flat_map start_in_letter ls

-- the start that an item gives to its host
abbrev pub drawn_for : Sends → Item → List ℕ
drawn_for sends (item.Rejoin host) = starts_in (sends (Agent host))
drawn_for sends i = []

abbrev pub drawn_by_item : World → Bool → List TimedItem → List ℕ
drawn_by_item w true (next ∷ left) = drawn_for (does_next w.deployment true w.director (next ∷ left)).sends next.item
drawn_by_item w _ items = []

-- the starts with which all hosts begin in a recovery that works
abbrev pub drawn_by_recovery : World → Environment → List ℕ
drawn_by_recovery w (DisksShow shown None) = map (λ m. m.1) (new_word w.deployment (new_base w shown) w.director.next_start).first
drawn_by_recovery w o = []

-- the starts that an event gives to hosts
abbrev pub drawn_by : World → Event → Environment → List ℕ
drawn_by w event.Item o = drawn_by_item w (may_do w w.director.items) w.director.items
drawn_by w event.Recover o = drawn_by_recovery w o
drawn_by w e o = []

-- the starts that hosts get in a run, in order
abbrev pub drawn_in : Database → List Happening → World → List ℕ
drawn_in E [] w = []
drawn_in E (e ∷ es) w = drawn_by w e.0 e.1 ++ drawn_in E es (step E w e)

-- numbers rise from this one on, none of them twice
abbrev pub RiseFrom : ℕ → List ℕ → Type 0
RiseFrom low [] = Unit {0}
RiseFrom low (x ∷ xs) = (low ≤ x) × RiseFrom (x + 1) xs
