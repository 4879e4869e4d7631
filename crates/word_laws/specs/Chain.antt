-- What the laws of words say of a world: the epoch that it is in, and the words that its agents have.
use Rattle.std.specs.Prelude.{ℕ, ◌≡◌, ◌<◌, ◌⊎◌, false, Some}
use Rattle.volt_wire.specs.Word.{Membership}
use Rattle.cluster_model.specs.Words.{Deployment, is_host, is_in, not_lost, members, initiator, leader, start_of_slot}
use Rattle.cluster_model.specs.AgentState.{new_agent}
use Rattle.cluster_model.specs.World.{World}
use Rattle.cluster_steps.specs.Lists.{In}
use Rattle.word_laws.specs.Histories.{State, History, WordsHold, Within, names}

-- ---- epochs

-- what the laws of words look at in a world, with the host of each start and the history of the epoch
abbrev pub state_of : World → (ℕ → ℕ) → History → State
state_of w owner history = record {
  deployment = w.deployment;
  next = w.director.next_start;
  agents = w.agents;
  channel = w.channel;
  owner = owner;
  history = history;
}

-- An epoch that the world is in: its words were said, decided and admitted as its history says, and all holds that holds of
-- words. The agents of hosts that aren't there never run.
pub record InEpoch (w : World) : Type 0 where
  pub owner : ℕ → ℕ
  pub history : History
  pub holds : WordsHold (state_of w owner history)
  pub strangers : (h : ℕ) → is_host w.deployment h ≡ false → w.agents h ≡ new_agent 0

-- ---- words of a world

-- an agent has decided this word, or took it as a joiner
abbrev pub HasDecided : World → Membership → Type 0
HasDecided w m = (h : ℕ) × (((w.agents h).decided ≡ Some m) ⊎ ((w.agents h).taken ≡ Some m))

-- it is an agent's own word, or one that it has decided, took, or heard from another agent
abbrev pub HasWord : World → Membership → Type 0
HasWord w m = HasDecided w m ⊎ ((h : ℕ) × (((w.agents h).own ≡ Some m) ⊎ ((g : ℕ) × ((w.agents h).said g ≡ Some m))))

-- of each host at most one start is there that isn't lost
abbrev pub OneStartPerHost : Membership → Type 0
OneStartPerHost m = (h r s : ℕ) → In (h, r) (not_lost m) → In (h, s) (not_lost m) → r ≡ s

-- ---- an earlier and a later word

-- A member that only the later word names has a greater start than each member of both.
abbrev pub MembersRise : Membership → Membership → Type 0
MembersRise m n = (h s g t : ℕ) → In (h, s) (members m) → In (h, s) (members n) → In (g, t) (members n) → names m t ≡ false → s < t

-- If the initiator of the earlier word isn't lost in the later one, it is that one's too.
abbrev pub KeepsInitiator : Membership → Membership → Type 0
KeepsInitiator m n = Within m n → (h s : ℕ) → initiator m ≡ Some (h, s) → is_in s n.lost ≡ false → initiator n ≡ Some (h, s)

-- If the start of a leader's host isn't lost in the later word, it leads its partition there too.
abbrev pub KeepsLeaders : Deployment → Membership → Membership → Type 0
KeepsLeaders D m n = Within m n → (part slot s : ℕ) → leader D m part ≡ Some slot → start_of_slot D m slot ≡ Some s → is_in s n.lost ≡ false
    → leader D n part ≡ Some slot
