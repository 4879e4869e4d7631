-- The world: a state for each actor, the messages under way, and what one event makes of it.
use Rattle.std.specs.Prelude.{ℕ, zero, suc, ◌+◌, ◌==◌, ◌&&◌, Bool, true, false, if◌then◌else◌, List, [], ◌∷◌, ◌++◌, length, None}
use Rattle.volt_base.specs.Semantics.{Semantics}
use Rattle.volt_wire.specs.declared.actor.Actor.{Actor}
use Rattle.volt_wire.specs.declared.actor.Actor.TheVariants.{Director, Client, Agent, Site, Scanner}
use Rattle.volt_wire.specs.declared.event.Event.{Event}
use Rattle.volt_wire.specs.declared.event.Event.TheVariants.{Deliver, Sync, Submit}
use Rattle.one_host_model.specs.declared.message.Msg.{Msg}
use Rattle.one_host_model.specs.declared.message.Msg.TheVariants as msg
use Rattle.one_host_model.specs.declared.input.WorldCall.{WorldCall}
use Rattle.one_host_model.specs.Actors.{same, Sends}
use Rattle.one_host_model.specs.declared.state.Due.{Due}
use Rattle.one_host_model.specs.Client.{ClientState, may_submit, submitted, submit_sends, client_after}
use Rattle.one_host_model.specs.Agent.{AgentState, agent_after, agent_sends}
use Rattle.one_host_model.specs.Site.{SiteState, owes, synced, sync_sends, site_after}

pub record World : Type 0 where
  -- how many calls the director was told of
  pub told : ℕ
  pub clients : ℕ → ClientState
  pub agents : ℕ → AgentState
  pub sites : ℕ → SiteState
  -- the messages from one actor to another that weren't taken yet, the oldest first
  pub channel : Actor → Actor → List Msg
  -- the events so far. The k-th has stamp k.
  pub trace : List Event

-- ---- changes of one place

abbrev pub set_at : {A : Type 0} → (ℕ → A) → ℕ → A → ℕ → A
set_at f i a j = if j == i then a else f j

abbrev pub rest : {A : Type 0} → List A → List A
rest [] = []
rest (x ∷ xs) = xs

-- the channels after `to` took the first message from `from`
abbrev pub took : (Actor → Actor → List Msg) → Actor → Actor → Actor → Actor → List Msg
took channel from to a b = if same to b && same from a then rest (channel a b) else channel a b

-- the channels after `from` sent these messages
abbrev pub sent : (Actor → Actor → List Msg) → Actor → Sends → Actor → Actor → List Msg
sent channel from sends a b = if same from a then channel a b ++ sends b else channel a b

-- ---- events

-- the director counts the calls that it is told of
abbrev pub told_after : ℕ → Msg → ℕ
told_after told msg.Told = told + 1
told_after told m = told

-- The receiver takes a message: its state changes by the row of the message, and what the row says is sent.
-- A scanner does nothing with it.
abbrev pub received : (S : Semantics) → ℕ → World → Actor → Actor → Msg → World
received S stamp w Director from m = record w { told = told_after w.told m; channel = took w.channel from Director }
received S stamp w (Client n) from m =
    record w {
      clients = set_at w.clients n (client_after stamp n (w.clients n) m);
      channel = took w.channel from (Client n);
    }
received S stamp w (Agent h) from m =
    record w {
      agents = set_at w.agents h (agent_after (w.agents h) from m);
      channel = sent (took w.channel from (Agent h)) (Agent h) (agent_sends (w.agents h) from m);
    }
received S stamp w (Site i) from m =
    record w {
      sites = set_at w.sites i (site_after S stamp i (w.sites i) from m);
      channel = took w.channel from (Site i);
    }
received S stamp w (Scanner i) from m = record w { channel = took w.channel from (Scanner i) }

abbrev pub delivered : (S : Semantics) → ℕ → World → Actor → Actor → List Msg → World
delivered S stamp w to from [] = w
delivered S stamp w to from (m ∷ ms) = received S stamp w to from m

-- No block is scanned, nothing recovers, no item is done and no actor is idle in this world.
abbrev pub happens : (S : Semantics) → ℕ → World → Event → World
happens S stamp w (Deliver to from) = delivered S stamp w to from (w.channel from to)
happens S stamp w (Sync i) =
    record w {
      sites = set_at w.sites i (synced (w.sites i));
      channel = sent w.channel (Site i) (sync_sends (w.sites i));
    }
happens S stamp w (Submit n) =
    record w {
      clients = set_at w.clients n (submitted stamp (w.clients n) (w.clients n).left);
      channel = sent w.channel (Client n) (submit_sends (w.clients n).left);
    }
happens S stamp w e = w

abbrev pub is_some_message : List Msg → Bool
is_some_message [] = false
is_some_message (m ∷ ms) = true

-- whether an event may happen
abbrev pub can : World → Event → Bool
can w (Deliver to from) = is_some_message (w.channel from to)
can w (Sync i) = owes (w.sites i)
can w (Submit n) = may_submit (w.clients n).left (w.clients n).pending
can w e = false

-- the world after an event
abbrev pub step : (S : Semantics) → World → Event → World
step S w e = let v = happens S (length w.trace + 1) w e in record v { trace = v.trace ++ e ∷ [] }

-- ---- the first world

-- the calls of client n among these, the first of which has this number
abbrev pub due : ℕ → ℕ → List WorldCall → List Due
due n number [] = []
due n number (c ∷ cs) =
    if c.client == n
    then record { call = number; part = c.part; body = c.body } ∷ due n (number + 1) cs
    else due n (number + 1) cs

-- the agent of host 0, the one host, has start 1
abbrev pub first_agent : ℕ → AgentState
first_agent zero = record { start = 1; pending = [] }
first_agent (suc h) = record { start = 0; pending = [] }

abbrev pub first_world : List WorldCall → World
first_world calls =
    record {
      told = 0;
      clients = λ n. record { left = due n 1 calls; pending = None; ended = [] };
      agents = first_agent;
      sites = λ i. record { log = []; on_disk = 0; waiting = [] };
      channel = λ a b. [];
      trace = [];
    }
