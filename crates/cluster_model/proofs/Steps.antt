-- An event changes one actor.
use Rattle.std.proofs.Common.{◌≡◌, true, false, List, [], ◌∷◌, ◌++◌, append-nil, refl, sym, inl, inr, ◌==◌}
use Rattle.std.proofs.lemmas.Bool.{cases_Bool, and_parts}
use Rattle.std.specs.Prelude.{ℕ}
use Rattle.volt_wire.specs.declared.actor.Actor.{Actor}
use Rattle.volt_wire.specs.declared.actor.Actor.TheVariants.{Director, Client, Agent, Site, Scanner}
use Rattle.volt_wire.specs.declared.event.Event.{Event}
use Rattle.volt_wire.specs.declared.event.Event.TheVariants as event
use Rattle.cluster_model.specs.Engine.{Database}
use Rattle.cluster_model.specs.Letters.{same, Letter, Sends, no_sends}
use Rattle.cluster_model.specs.Director.{does_next}
use Rattle.cluster_model.specs.Client.{submits, client_takes}
use Rattle.cluster_model.specs.Agent.{agent_turn}
use Rattle.cluster_model.specs.Sync.{site_turn, sync_turn}
use Rattle.cluster_model.specs.Scanner.{scanner_turn, scan_turn}
use Rattle.cluster_model.specs.Environment.{Environment}
use Rattle.cluster_model.specs.World.{World, set_at, took, sent, stamp_of}
use Rattle.cluster_model.specs.Events.{delivered, step, can, may_do, is_actor, is_some_letter}
use Rattle.cluster_model.specs.Laws.{ChangesOne, is_one_actors, actor_of}

abbrev Channels : Type 0
Channels = Actor → Actor → List Letter

-- ---- one place of a function

set_at-other : {A : Type 0} (f : ℕ → A) (i : ℕ) (x : A) (j : ℕ) → (j == i) ≡ false → set_at f i x j ≡ f j
set_at-other f i x j e = rw e refl

-- ---- channels

pub sent-appends : (ch : Channels) (a : Actor) (sends : Sends) (b c : Actor) → (more : List Letter) × (sent ch a sends b c ≡ ch b c ++ more)
sent-appends ch a sends b c = elim (cases_Bool (same a b)) [
  | inl q ↦ (sends c, rw q refl)
  | inr q ↦ ([], rw (q, append-nil) refl)
]

pub sent-others : (ch : Channels) (a : Actor) (sends : Sends) (b c : Actor) → same a b ≡ false → sent ch a sends b c ≡ ch b c
sent-others ch a sends b c e = rw e refl

nothing-appends : (ls : List Letter) → (more : List Letter) × (ls ≡ ls ++ more)
nothing-appends ls = ([], sym (append-nil ls))

-- ---- by the receiver of a message

-- the director takes a message
director_takes-one : (E : Database) (w : World) (from : Actor) (l : Letter) (ls : List Letter) (o : Environment)
    → ChangesOne w (delivered E w Director from (l ∷ ls) o) (event.Deliver Director from) Director
director_takes-one E w from l ls o = record {
  director = λ e. absurd (cc);
  clients = λ n e. refl;
  agents = λ h e. refl;
  sites = λ i e. refl;
  scanners = λ i e. refl;
  appends = λ b c. sent-appends (took w.channel from Director) Director no_sends b c;
  others = λ b c e. sent-others (took w.channel from Director) Director no_sends b c e;
}

site_takes-one : (E : Database) (w : World) (i : ℕ) (from : Actor) (l : Letter) (ls : List Letter) (o : Environment)
    → ChangesOne w (delivered E w (Site i) from (l ∷ ls) o) (event.Deliver (Site i) from) (Site i)
site_takes-one E w i from l ls o = record {
  director = λ e. refl;
  clients = λ n e. refl;
  agents = λ h e. refl;
  sites = λ j e. set_at-other w.sites i _ j e;
  scanners = λ j e. refl;
  appends = λ b c. sent-appends (took w.channel from (Site i)) (Site i) (site_turn E w.deployment (stamp_of w) i (w.sites i) from l o).sends b c;
  others = λ b c e. sent-others (took w.channel from (Site i)) (Site i) (site_turn E w.deployment (stamp_of w) i (w.sites i) from l o).sends b c e;
}

client_takes-one : (E : Database) (w : World) (n : ℕ) (from : Actor) (l : Letter) (ls : List Letter) (o : Environment)
    → ChangesOne w (delivered E w (Client n) from (l ∷ ls) o) (event.Deliver (Client n) from) (Client n)
client_takes-one E w n from l ls o = record {
  director = λ e. refl;
  clients = λ m e. set_at-other w.clients n _ m e;
  agents = λ h e. refl;
  sites = λ j e. refl;
  scanners = λ j e. refl;
  appends = λ b c. sent-appends (took w.channel from (Client n)) (Client n) (client_takes w.deployment (stamp_of w) n (w.clients n) from l).sends b c;
  others = λ b c e. sent-others (took w.channel from (Client n)) (Client n) (client_takes w.deployment (stamp_of w) n (w.clients n) from l).sends b c e;
}

agent_takes-one : (E : Database) (w : World) (h : ℕ) (from : Actor) (l : Letter) (ls : List Letter) (o : Environment)
    → ChangesOne w (delivered E w (Agent h) from (l ∷ ls) o) (event.Deliver (Agent h) from) (Agent h)
agent_takes-one E w h from l ls o = record {
  director = λ e. refl;
  clients = λ m e. refl;
  agents = λ g e. set_at-other w.agents h _ g e;
  sites = λ j e. refl;
  scanners = λ j e. refl;
  appends = λ b c. sent-appends (took w.channel from (Agent h)) (Agent h) (agent_turn E w.deployment h (stamp_of w) (w.agents h) from l o).sends b c;
  others = λ b c e. sent-others (took w.channel from (Agent h)) (Agent h) (agent_turn E w.deployment h (stamp_of w) (w.agents h) from l o).sends b c e;
}

scanner_takes-one : (E : Database) (w : World) (i : ℕ) (from : Actor) (l : Letter) (ls : List Letter) (o : Environment)
    → ChangesOne w (delivered E w (Scanner i) from (l ∷ ls) o) (event.Deliver (Scanner i) from) (Scanner i)
scanner_takes-one E w i from l ls o = record {
  director = λ e. refl;
  clients = λ m e. refl;
  agents = λ g e. refl;
  sites = λ j e. refl;
  scanners = λ j e. set_at-other w.scanners i _ j e;
  appends = λ b c. sent-appends (took w.channel from (Scanner i)) (Scanner i) (scanner_turn w.deployment i (w.scanners i) from l o).sends b c;
  others = λ b c e. sent-others (took w.channel from (Scanner i)) (Scanner i) (scanner_turn w.deployment i (w.scanners i) from l o).sends b c e;
}

received-one : (E : Database) (w : World) (to from : Actor) (l : Letter) (ls : List Letter) (o : Environment)
    → ChangesOne w (delivered E w to from (l ∷ ls) o) (event.Deliver to from) to
received-one E w Director from l ls o = director_takes-one E w from l ls o
received-one E w (Client n) from l ls o = client_takes-one E w n from l ls o
received-one E w (Agent h) from l ls o = agent_takes-one E w h from l ls o
received-one E w (Site i) from l ls o = site_takes-one E w i from l ls o
received-one E w (Scanner i) from l ls o = scanner_takes-one E w i from l ls o

delivered-one : (E : Database) (w : World) (to from : Actor) (ls : List Letter) (o : Environment) → is_some_letter ls ≡ true
    → ChangesOne w (delivered E w to from ls o) (event.Deliver to from) to
delivered-one E w to from [] o e = absurd (cc)
delivered-one E w to from (l ∷ ls) o e = received-one E w to from l ls o

-- ---- by the event

pub event-one : (E : Database) (w : World) (e : Event) (o : Environment) → is_one_actors e ≡ true → can w e ≡ true
    → ChangesOne w (step E w (e, o)) e (actor_of e)
event-one E w (event.Deliver to from) o is may =
    let some = (and_parts (is_some_letter (w.channel from to)) (is_actor w.deployment to) may).0 in
    let d = delivered-one E w to from (w.channel from to) o some in record {
      director = d.director;
      clients = d.clients;
      agents = d.agents;
      sites = d.sites;
      scanners = d.scanners;
      appends = d.appends;
      others = d.others;
    }
event-one E w (event.Sync i) o is may = record {
  director = λ e. refl;
  clients = λ m e. refl;
  agents = λ g e. refl;
  sites = λ j e. set_at-other w.sites i _ j e;
  scanners = λ j e. refl;
  appends = λ b c. sent-appends w.channel (Site i) (sync_turn E w.deployment i (w.sites i) o).sends b c;
  others = λ b c e. sent-others w.channel (Site i) (sync_turn E w.deployment i (w.sites i) o).sends b c e;
}
event-one E w (event.Scan i) o is may = record {
  director = λ e. refl;
  clients = λ m e. refl;
  agents = λ g e. refl;
  sites = λ j e. refl;
  scanners = λ j e. set_at-other w.scanners i _ j e;
  appends = λ b c. sent-appends w.channel (Scanner i) (scan_turn w.deployment i (w.scanners i) o).sends b c;
  others = λ b c e. sent-others w.channel (Scanner i) (scan_turn w.deployment i (w.scanners i) o).sends b c e;
}
event-one E w event.Recover o is may = absurd (cc)
event-one E w event.Item o is may = record {
  director = λ e. absurd (cc);
  clients = λ m e. refl;
  agents = λ g e. refl;
  sites = λ j e. refl;
  scanners = λ j e. refl;
  appends = λ b c. sent-appends w.channel Director (does_next w.deployment (may_do w w.director.items) w.director w.director.items).sends b c;
  others = λ b c e. sent-others w.channel Director (does_next w.deployment (may_do w w.director.items) w.director w.director.items).sends b c e;
}
event-one E w (event.Submit n) o is may = record {
  director = λ e. refl;
  clients = λ m e. set_at-other w.clients n _ m e;
  agents = λ g e. refl;
  sites = λ j e. refl;
  scanners = λ j e. refl;
  appends = λ b c. sent-appends w.channel (Client n) (submits w.deployment (stamp_of w) (w.clients n) (w.clients n).left).sends b c;
  others = λ b c e. sent-others w.channel (Client n) (submits w.deployment (stamp_of w) (w.clients n) (w.clients n).left).sends b c e;
}
event-one E w (event.Idle a) o is may = record {
  director = λ e. refl;
  clients = λ m e. refl;
  agents = λ g e. refl;
  sites = λ j e. refl;
  scanners = λ j e. refl;
  appends = λ b c. nothing-appends (w.channel b c);
  others = λ b c e. refl;
}
