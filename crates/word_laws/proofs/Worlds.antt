-- Each world of a run is in an epoch of which all holds, and from one recovery that works to the next the history only grows.
use Rattle.std.proofs.Common.{◌≡◌, ◌+◌, ◌<◌, Bool, true, false, List, [], ◌∷◌, ◌++◌, append-nil, refl, sym, subst, ap, ◌∙◌, inl, inr, ◌==◌, arith, zero, suc}
use Rattle.std.proofs.lemmas.Bool.{and_parts, eqb-true, false≢true, or_cases}
use Rattle.std.proofs.lemmas.Bool.Decides.{nat_tests}
use Rattle.std.proofs.lemmas.List.Folds.{list_any-append}
use Rattle.std.specs.Prelude.{ℕ, ◌&&◌, ◌||◌, not, nat_lt, nat_le, map, Option, Some, None, is_none}
use Rattle.std.specs.List.{list_any, range_with_len, AllByRecursion}
use Rattle.volt_wire.specs.declared.actor.Actor.{Actor}
use Rattle.volt_wire.specs.declared.actor.Actor.TheVariants.{Director, Client, Agent, Site, Scanner}
use Rattle.volt_wire.specs.declared.event.Event.{Event}
use Rattle.volt_wire.specs.declared.event.Event.TheVariants as event
use Rattle.volt_wire.specs.declared.item.Item.{Item}
use Rattle.volt_wire.specs.declared.item.Item.TheVariants as item
use Rattle.volt_wire.specs.declared.item.TimedItem.{TimedItem}
use Rattle.volt_wire.specs.declared.message.Msg.TheVariants as msg
use Rattle.cluster_model.specs.Engine.{Database}
use Rattle.cluster_model.specs.Words.{Deployment, is_host, parts, slots}
use Rattle.cluster_model.specs.Letters.{same, Letter, Turn, open_letter, Sends}
use Rattle.cluster_model.specs.Director.{DirectorState, does, does_next}
use Rattle.cluster_model.specs.Environment.{Environment, NoFault, DiskFails, NoMemory, DisksShow}
use Rattle.cluster_model.specs.AgentState.{new_agent}
use Rattle.cluster_model.specs.Agent.{agent_turn, start_after}
use Rattle.cluster_model.specs.World.{World, Input, first_world, set_at, sent, stamp_of, with_director, member_agent, new_word, greatest_done, greatest_replies}
use Rattle.cluster_model.specs.Recover.{recovers, starts_anew, stays_stopped, new_base, new_log}
use Rattle.cluster_model.specs.Events.{is_actor, is_some_letter, can, allows, delivered, recovered_with, may_do, happens, step}
use Rattle.cluster_model.specs.Runs.{Happening, has_failed, may_happen, renews_by, renews_at, renews}
use Rattle.cluster_model.specs.Laws.{starts_in}
use Rattle.cluster_model.proofs.Starts.{takes-next}
use Rattle.word_laws.specs.Histories.{History, WordsHold}
use Rattle.word_laws.specs.Chain.{state_of, InEpoch}
use Rattle.cluster_steps.proofs.Lists.{if-false}
use Rattle.cluster_steps.proofs.Channels.{starts-if, stops_all-starts}
use Rattle.word_laws.proofs.Moves.{Grows, ShownOk}
use Rattle.word_laws.proofs.Steps.{channel-holds}
use Rattle.word_laws.proofs.Epochs.{new_history, new_owner, boot-holds, recovery-holds}
use Rattle.word_laws.proofs.Draws.{director-inert-holds, draws-holds}
use Rattle.word_laws.proofs.AgentEvents.{agent-event}

-- ---- an agent that is there is a host's

none-same : (n : ℕ) (f : ℕ → Actor) → ((g : ℕ) → same (Agent n) (f g) ≡ false) → (xs : List ℕ) → list_any (same (Agent n)) (map f xs) ≡ false
none-same n f apart [] = refl
none-same n f apart (x ∷ xs) = rw (apart x) (none-same n f apart xs)

agent-within : (n low len : ℕ) → list_any (same (Agent n)) (map Agent (range_with_len low len)) ≡ true → n < low + len
agent-within n low zero e = absurd (false≢true e)
agent-within n low (suc len) e = elim (or_cases (n == low) (list_any (same (Agent n)) (map Agent (range_with_len (low + 1) len))) e) [
  | inl q ↦ let k = eqb-true n low q in omega (arith, k)
  | inr q ↦ let k = agent-within n (low + 1) len q in omega (arith, k)
]

pub actor-host : (D : Deployment) (n : ℕ) → is_actor D (Agent n) ≡ true → is_host D n ≡ true
actor-host D n e =
    let Test : Actor → Bool = same (Agent n) in
    let clients = map Client (range_with_len 1 D.clients) in
    let agents = map Agent (range_with_len 0 D.layout.hosts) in
    let sites = map Site (range_with_len 0 (slots D)) in
    let scanners = map Scanner (range_with_len 0 (slots D)) in
    let parts_are : list_any Test (clients ++ agents ++ sites ++ scanners) ≡ (((list_any Test clients || list_any Test agents) || list_any Test sites) || list_any Test scanners) =
    list_any-append Test (clients ++ agents ++ sites) scanners
    ∙ ap (λ x. x || list_any Test scanners) (list_any-append Test (clients ++ agents) sites ∙ ap (λ x. x || list_any Test sites) (list_any-append Test clients agents)) in
    let no_client = none-same n Client (λ g. refl) (range_with_len 1 D.clients) in
    let no_site = none-same n Site (λ g. refl) (range_with_len 0 (slots D)) in
    let no_scanner = none-same n Scanner (λ g. refl) (range_with_len 0 (slots D)) in
    let among : list_any Test agents ≡ true = only-second (list_any Test clients) (list_any Test agents) (list_any Test sites) (list_any Test scanners) no_client no_site no_scanner (sym parts_are ∙ e) in
    let below : n < 0 + D.layout.hosts = agent-within n 0 D.layout.hosts among in
    grind (arith, nat_tests, below)
  where
    only-second : (a b c d : Bool) → a ≡ false → c ≡ false → d ≡ false → (((a || b) || c) || d) ≡ true → b ≡ true
    only-second a true c d p q r e = refl
    only-second true false c d p q r e = absurd (false≢true (sym p))
    only-second false false true d p q r e = absurd (false≢true (sym q))
    only-second false false false d p q r e = sym r ∙ e

pub host-apart : (D : Deployment) (n h : ℕ) → is_host D n ≡ true → is_host D h ≡ false → (h == n) ≡ false
host-apart D n h is not_one = grind (arith, nat_tests, is, not_one)

-- ---- histories that grow

pub grows-same : (G : History) → Grows G G
grows-same G = record {
  first = refl;
  began = λ h s i. i;
  said = λ s w i. i;
  took_word = λ s w e. e;
  decided = λ w i. i;
  admitted = λ x i. i;
}

pub grows-then : (F G H : History) → Grows F G → Grows G H → Grows F H
grows-then F G H p q = record {
  first = q.first ∙ p.first;
  began = λ h s i. q.began h s (p.began h s i);
  said = λ s w i. q.said s w (p.said s w i);
  took_word = λ s w e. q.took_word s w (p.took_word s w e);
  decided = λ w i. q.decided w (p.decided w i);
  admitted = λ x i. q.admitted x (p.admitted x i);
}

-- a later world: in the same epoch, unless one begins anew
pub record WordsReach (G : History) (anew : Bool) (v : World) : Type 0 where
  pub next : InEpoch v
  pub grows : anew ≡ false → Grows G next.history

still : (w : World) (c : Bool) (k : InEpoch w) → WordsReach k.history c w
still w c k = record { next = k; grows = λ e. grows-same k.history }

-- where the history stays
keeps : (w v : World) (c : Bool) (k : InEpoch w) (owner : ℕ → ℕ) → WordsHold (state_of v owner k.history) → ((h : ℕ) → is_host v.deployment h ≡ false → v.agents h ≡ new_agent 0) → WordsReach k.history c v
keeps w v c k owner holds strangers = record { next = record { owner = owner; history = k.history; holds = holds; strangers = strangers }; grows = λ e. grows-same k.history }

-- the event is noted in the trace
noted : (G : History) (c : Bool) (v : World) (trace : List Event) → WordsReach G c v → WordsReach G c (record v { trace = trace })
noted G c v trace r = record {
  next = record { owner = r.next.owner; history = r.next.history; holds = r.next.holds; strangers = r.next.strangers };
  grows = r.grows;
}

-- ---- another actor takes a message

others-hold : (w : World) (k : InEpoch w) (ch : Actor → Actor → List Letter) → ((h g : ℕ) → ch (Agent h) (Agent g) ≡ w.channel (Agent h) (Agent g))
    → ((h : ℕ) → starts_in (ch Director (Agent h)) ≡ starts_in (w.channel Director (Agent h))) → WordsHold (record (state_of w k.owner k.history) { channel = ch })
others-hold w k ch stays starts = channel-holds (state_of w k.owner k.history) ch stays starts k.holds

to_site-reaches : (E : Database) (w : World) (i : ℕ) (from : Actor) (ls : List Letter) (o : Environment) (c : Bool) (k : InEpoch w) → WordsReach k.history c (delivered E w (Site i) from ls o)
to_site-reaches E w i from [] o c k = still w c k
to_site-reaches E w i from (l ∷ ls) o c k = keeps w (delivered E w (Site i) from (l ∷ ls) o) c k k.owner
    (others-hold w k (delivered E w (Site i) from (l ∷ ls) o).channel (λ h g. refl) (λ h. refl)) k.strangers

to_client-reaches : (E : Database) (w : World) (n : ℕ) (from : Actor) (ls : List Letter) (o : Environment) (c : Bool) (k : InEpoch w) → WordsReach k.history c (delivered E w (Client n) from ls o)
to_client-reaches E w n from [] o c k = still w c k
to_client-reaches E w n from (l ∷ ls) o c k = keeps w (delivered E w (Client n) from (l ∷ ls) o) c k k.owner
    (others-hold w k (delivered E w (Client n) from (l ∷ ls) o).channel (λ h g. refl) (λ h. refl)) k.strangers

to_scanner-reaches : (E : Database) (w : World) (i : ℕ) (from : Actor) (ls : List Letter) (o : Environment) (c : Bool) (k : InEpoch w) → WordsReach k.history c (delivered E w (Scanner i) from ls o)
to_scanner-reaches E w i from [] o c k = still w c k
to_scanner-reaches E w i from (l ∷ ls) o c k = keeps w (delivered E w (Scanner i) from (l ∷ ls) o) c k k.owner
    (others-hold w k (delivered E w (Scanner i) from (l ∷ ls) o).channel (λ h g. refl) (λ h. refl)) k.strangers

to_director-reaches : (E : Database) (w : World) (from : Actor) (ls : List Letter) (o : Environment) (c : Bool) (k : InEpoch w) → WordsReach k.history c (delivered E w Director from ls o)
to_director-reaches E w from [] o c k = still w c k
to_director-reaches E w from (l ∷ ls) o c k = keeps w (delivered E w Director from (l ∷ ls) o) c k k.owner
    (subst (λ n. WordsHold (record (state_of w k.owner k.history) { next = n; channel = (delivered E w Director from (l ∷ ls) o).channel })) (takes-next w.director from l)
    (others-hold w k (delivered E w Director from (l ∷ ls) o).channel (λ h g. refl) (λ h. ap starts_in (append-nil (w.channel Director (Agent h)))))) k.strangers

-- ---- the director does an item

-- one in which no start is drawn
plain-reaches : (w : World) (t : Turn DirectorState) (c : Bool) (k : InEpoch w) → w.director.next_start ≡ t.state.next_start → ((g : ℕ) → starts_in (t.sends (Agent g)) ≡ [])
    → WordsReach k.history c (with_director w t)
plain-reaches w t c k same none = keeps w (with_director w t) c k k.owner
    (subst (λ n. WordsHold (record (state_of w k.owner k.history) { next = n; channel = sent w.channel Director t.sends })) same
    (director-inert-holds (state_of w k.owner k.history) t.sends k.holds none)) k.strangers

item-reaches : (w : World) (left : List TimedItem) (i : Item) (c : Bool) (k : InEpoch w) → WordsReach k.history c (with_director w (does w.deployment (record w.director { items = left }) i))
item-reaches w left (item.Lose host) c k = plain-reaches w (does w.deployment (record w.director { items = left }) (item.Lose host)) c k refl
    (λ g. starts-if (g == host) (open_letter (msg.Stop (w.director.last_start host)) ∷ []) refl)
item-reaches w left (item.Rejoin host) c k = keeps w (with_director w (does w.deployment (record w.director { items = left }) (item.Rejoin host))) c k (set_at k.owner w.director.next_start host)
    (draws-holds (state_of w k.owner k.history) host k.holds) k.strangers
item-reaches w left item.Snapshot c k = plain-reaches w (does w.deployment (record w.director { items = left }) item.Snapshot) c k refl
    (λ g. starts-if (is_host w.deployment g) (open_letter msg.Snap ∷ []) refl)
item-reaches w left (item.Power slot call choice) c k = plain-reaches w (does w.deployment (record w.director { items = left }) (item.Power slot call choice)) c k refl (λ g. refl)
item-reaches w left (item.Look slot) c k = plain-reaches w (does w.deployment (record w.director { items = left }) (item.Look slot)) c k refl (λ g. refl)
item-reaches w left item.Halt c k = plain-reaches w (does w.deployment (record w.director { items = left }) item.Halt) c k refl (λ g. stops_all-starts w.deployment w.director.last_start g)
item-reaches w left item.Recover c k = plain-reaches w (does w.deployment (record w.director { items = left }) item.Recover) c k refl (λ g. stops_all-starts w.deployment w.director.last_start g)
item-reaches w left item.Quiet c k = plain-reaches w (does w.deployment (record w.director { items = left }) item.Quiet) c k refl (λ g. refl)

next-reaches : (w : World) (may : Bool) (items : List TimedItem) (c : Bool) (k : InEpoch w) → WordsReach k.history c (with_director w (does_next w.deployment may w.director items))
next-reaches w true (next ∷ left) c k = item-reaches w left next.item c k
next-reaches w true [] c k = plain-reaches w (does_next w.deployment true w.director []) c k refl (λ g. stops_all-starts w.deployment w.director.last_start g)
next-reaches w false items c k = plain-reaches w (does_next w.deployment false w.director items) c k refl (λ g. stops_all-starts w.deployment w.director.last_start g)

-- ---- an epoch begins

pub first-holds : (E : Database) (I : Input) → InEpoch (first_world E I)
first-holds E I =
    let D = I.deployment in
    let number = greatest_done E (λ p. []) (parts D) + 1 in
    record {
      owner = new_owner 1 (λ s. 0);
      history = new_history D (new_word D I.base 1) 1;
      holds = boot-holds D I.base number [];
      strangers = λ h e. if-false (is_host D h) (member_agent (new_word D I.base 1) number [] 1 h) (new_agent 0) e;
    }

anew-reaches : (E : Database) (w : World) (shown : List ℕ) (k : InEpoch w) → WordsReach k.history true (starts_anew E w shown)
anew-reaches E w shown k =
    let D = w.deployment in
    let start = w.director.next_start in
    let base = new_base w shown in
    let number = greatest_done E (new_log E w shown) (parts D) + 1 in
    let replies = greatest_replies E (new_log E w shown) (parts D) in
    record {
      next = record {
        owner = new_owner start k.owner;
        history = new_history D (new_word D base start) start;
        holds = recovery-holds (state_of w k.owner k.history) base number replies k.holds k.strangers;
        strangers = λ h e. if-false (is_host D h) (member_agent (new_word D base start) number replies start h) (w.agents h) e ∙ k.strangers h e;
      };
      grows = λ e. absurd (false≢true (sym e));
    }

recovers-reaches : (E : Database) (w : World) (shown : List ℕ) (failed : Option (ℕ × Bool)) (k : InEpoch w) → WordsReach k.history (is_none failed) (recovers E w shown failed)
recovers-reaches E w shown None k = anew-reaches E w shown k
recovers-reaches E w shown (Some failed) k = keeps w (stays_stopped E w shown failed) false k k.owner k.holds k.strangers

recovery-reaches : (E : Database) (w : World) (o : Environment) (k : InEpoch w) → WordsReach k.history (renews_by o) (recovered_with E w o)
recovery-reaches E w NoFault k = still w false k
recovery-reaches E w (DiskFails answered) k = still w false k
recovery-reaches E w (NoMemory answered) k = still w false k
recovery-reaches E w (DisksShow shown failed) k = recovers-reaches E w shown failed k

-- ---- an agent takes a message

-- an agent that may find no memory runs once it has taken its message
pub memory-runs : (w : World) (n answered : ℕ) (from : Actor) (l : Letter) (ls : List Letter) (o : Environment) → w.channel from (Agent n) ≡ l ∷ ls
    → allows w (event.Deliver (Agent n) from) o ≡ true
    → o ≡ NoMemory answered → nat_lt 0 (start_after (w.agents n) from l) ≡ true
memory-runs w n answered from l ls o is may e =
    let out : allows w (event.Deliver (Agent n) from) (NoMemory answered) ≡ true = subst (λ x. allows w (event.Deliver (Agent n) from) x ≡ true) e may in
    let some : (nat_lt 0 (start_after (w.agents n) from l) && nat_le answered 0) ≡ true = rw is at out in
    (and_parts (nat_lt 0 (start_after (w.agents n) from l)) (nat_le answered 0) some).0

-- It is in the same epoch then, and others than agents are shown what is known.
pub record AgentReach (G : History) (v : World) (sends : Sends) : Type 0 where
  pub next : InEpoch v
  pub grows : Grows G next.history
  pub shown : (b : Actor) → AllByRecursion (ShownOk (state_of v next.owner next.history) b) (sends b)

pub agent-reach : (E : Database) (w : World) (n : ℕ) (from : Actor) (l : Letter) (ls : List Letter) (o : Environment) (k : InEpoch w) → w.channel from (Agent n) ≡ l ∷ ls
    → is_host w.deployment n ≡ true → allows w (event.Deliver (Agent n) from) o ≡ true
    → AgentReach k.history (delivered E w (Agent n) from (l ∷ ls) o) (agent_turn E w.deployment n (stamp_of w) (w.agents n) from l o).sends
agent-reach E w n from l ls o k is host may =
    let g = agent-event E (state_of w k.owner k.history) n (stamp_of w) from l ls o is host (λ answered e. memory-runs w n answered from l ls o is may e) k.holds in
    record {
      next = record {
        owner = k.owner;
        history = g.history;
        holds = g.holds;
        strangers = λ h e. if-false (h == n) (agent_turn E w.deployment n (stamp_of w) (w.agents n) from l o).state (w.agents h) (host-apart w.deployment n h host e) ∙ k.strangers h e;
      };
      grows = g.grows;
      shown = g.shown;
    }

to_agent-reaches : (E : Database) (w : World) (n : ℕ) (from : Actor) (ls : List Letter) (o : Environment) (c : Bool) (k : InEpoch w) → w.channel from (Agent n) ≡ ls
    → is_host w.deployment n ≡ true → allows w (event.Deliver (Agent n) from) o ≡ true → WordsReach k.history c (delivered E w (Agent n) from ls o)
to_agent-reaches E w n from [] o c k is host may = still w c k
to_agent-reaches E w n from (l ∷ ls) o c k is host may = let r = agent-reach E w n from l ls o k is host may in record { next = r.next; grows = λ e. r.grows }

-- ---- events

delivered-reaches : (E : Database) (w : World) (to from : Actor) (o : Environment) (k : InEpoch w) → is_actor w.deployment to ≡ true → allows w (event.Deliver to from) o ≡ true
    → WordsReach k.history false (delivered E w to from (w.channel from to) o)
delivered-reaches E w Director from o k there may = to_director-reaches E w from (w.channel from Director) o false k
delivered-reaches E w (Client n) from o k there may = to_client-reaches E w n from (w.channel from (Client n)) o false k
delivered-reaches E w (Agent n) from o k there may = to_agent-reaches E w n from (w.channel from (Agent n)) o false k refl (actor-host w.deployment n there) may
delivered-reaches E w (Site i) from o k there may = to_site-reaches E w i from (w.channel from (Site i)) o false k
delivered-reaches E w (Scanner i) from o k there may = to_scanner-reaches E w i from (w.channel from (Scanner i)) o false k

pub happens-reaches : (E : Database) (w : World) (e : Event) (o : Environment) (k : InEpoch w) → can w e ≡ true → allows w e o ≡ true → WordsReach k.history (renews_at e o) (happens E w e o)
happens-reaches E w (event.Deliver to from) o k may environment = delivered-reaches E w to from o k (and_parts (is_some_letter (w.channel from to)) (is_actor w.deployment to) may).1 environment
happens-reaches E w (event.Sync i) o k may environment = keeps w (happens E w (event.Sync i) o) false k k.owner (others-hold w k (happens E w (event.Sync i) o).channel (λ h g. refl) (λ h. refl)) k.strangers
happens-reaches E w (event.Scan i) o k may environment = keeps w (happens E w (event.Scan i) o) false k k.owner (others-hold w k (happens E w (event.Scan i) o).channel (λ h g. refl) (λ h. refl)) k.strangers
happens-reaches E w event.Recover o k may environment = recovery-reaches E w o k
happens-reaches E w event.Item o k may environment = next-reaches w (may_do w w.director.items) w.director.items false k
happens-reaches E w (event.Submit n) o k may environment = keeps w (happens E w (event.Submit n) o) false k k.owner (others-hold w k (happens E w (event.Submit n) o).channel (λ h g. refl) (λ h. refl)) k.strangers
happens-reaches E w (event.Idle a) o k may environment = still w false k

step-reaches : (E : Database) (w : World) (e : Happening) → may_happen w e ≡ true → (k : InEpoch w) → WordsReach k.history (renews e) (step E w e)
step-reaches E w e may k =
    let outer = and_parts (not (has_failed w) && can w e.0) (allows w e.0 e.1) may in
    let inner = and_parts (not (has_failed w)) (can w e.0) outer.0 in
    let v = happens E w e.0 e.1 in
    noted k.history (renews e) v (v.trace ++ e.0 ∷ []) (happens-reaches E w e.0 e.1 k inner.1 outer.1)

-- The world after an event is in an epoch.
pub step-holds : (E : Database) (w : World) (e : Happening) → may_happen w e ≡ true → InEpoch w → InEpoch (step E w e)
step-holds E w e may k = (step-reaches E w e may k).next

-- It is the same one, unless a recovery works.
pub step-grows : (E : Database) (w : World) (e : Happening) → may_happen w e ≡ true → renews e ≡ false → (k : InEpoch w) → (next : InEpoch (step E w e)) × Grows k.history next.history
step-grows E w e may same k = let r = step-reaches E w e may k in (r.next, r.grows same)
