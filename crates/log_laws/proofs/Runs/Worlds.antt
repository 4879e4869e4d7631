-- Each world of a run has a history of which all holds, and from one recovery that works to the next it only grows.
use Rattle.log_laws.proofs.Names.{◌≡◌, ◌+◌, ◌<◌, Bool, true, false, List, [], ◌∷◌, ◌++◌, refl, sym, subst, ap, ◌∙◌, ◌==◌, inl, inr, arith, zero, suc, and_parts, eqb-true, false≢true, or_cases, nat_tests, list_any-append, ℕ, ◌≤◌, ◌&&◌, ◌||◌, not, nat_lt, map, Some, None, list_any, range_with_len, Actor, Director, Client, Agent, Site, Scanner, Event, Database, Deployment, slots, part_of_slot, is_host, same, Letter, Turn, SiteState, is_member_site, leads, agent_turn, owes_in, may_sync, site_turn, sync_turn, Environment, NoFault, DiskFails, NoMemory, DisksShow, World, AuthoritativeLog, Stopped, Input, stamp_of, took, authoritative_after, with_site, stops_with, stays_stopped, is_actor, is_some_letter, can, allows, delivered, recovered_with, may_do, happens, step, Happening, Reached, RunsInEpoch, has_failed, may_happen, renews_by, renews_at, renews, reached-kept, in-epoch-kept, if-false, set-here, set-both, actor-host, host-apart, memory-runs, Logs, LogState, LogsHold, site_start, log_state, AuthoritativeOk, HasLogs}
use Rattle.volt_wire.specs.declared.event.Event.TheVariants as event
use Rattle.log_laws.proofs.Kept.{Onward, onward-same, onward-then}
use Rattle.log_laws.proofs.Kept.Moves.{Grown}
use Rattle.log_laws.proofs.Runs.Leading.{AuthoritativeRises, rises-same, rises-then, authoritative-still, authoritative-turned, authoritative-rises, authoritative-counted}
use Rattle.log_laws.proofs.Runs.Boots.{first-logs, anew-logs}
use Rattle.log_laws.proofs.Runs.Others.{Keeps, to_client-logs, to_director-logs, to_scanner-logs, scan-logs, submit-logs, next-logs, stopped-logs}
use Rattle.log_laws.proofs.Agents.AgentEvents.{agent-event}
use Rattle.log_laws.proofs.Runs.SiteEvents.{turn-after, sync-after}

-- ---- a site that is there is a slot's

none-same : (n : ℕ) (f : ℕ → Actor) → ((g : ℕ) → same (Site n) (f g) ≡ false) → (xs : List ℕ) → list_any (same (Site n)) (map f xs) ≡ false
none-same n f apart [] = refl
none-same n f apart (x ∷ xs) = rw (apart x) (none-same n f apart xs)

site-within : (n low len : ℕ) → list_any (same (Site n)) (map Site (range_with_len low len)) ≡ true → n < low + len
site-within n low zero e = absurd (false≢true e)
site-within n low (suc len) e = elim (or_cases (n == low) (list_any (same (Site n)) (map Site (range_with_len (low + 1) len))) e) [
  | inl q ↦ let k = eqb-true n low q in omega (arith, k)
  | inr q ↦ let k = site-within n (low + 1) len q in omega (arith, k)
]

pub actor-slot : (D : Deployment) (n : ℕ) → is_actor D (Site n) ≡ true → nat_lt n (slots D) ≡ true
actor-slot D n e =
    let Test : Actor → Bool = same (Site n) in
    let clients = map Client (range_with_len 1 D.clients) in
    let agents = map Agent (range_with_len 0 D.layout.hosts) in
    let sites = map Site (range_with_len 0 (slots D)) in
    let scanners = map Scanner (range_with_len 0 (slots D)) in
    let parts_are : list_any Test (clients ++ agents ++ sites ++ scanners) ≡ (((list_any Test clients || list_any Test agents) || list_any Test sites) || list_any Test scanners) =
    list_any-append Test (clients ++ agents ++ sites) scanners
    ∙ ap (λ x. x || list_any Test scanners) (list_any-append Test (clients ++ agents) sites ∙ ap (λ x. x || list_any Test sites) (list_any-append Test clients agents)) in
    let no_client = none-same n Client (λ g. refl) (range_with_len 1 D.clients) in
    let no_agent = none-same n Agent (λ g. refl) (range_with_len 0 D.layout.hosts) in
    let no_scanner = none-same n Scanner (λ g. refl) (range_with_len 0 (slots D)) in
    let among : list_any Test sites ≡ true = only-third (list_any Test clients) (list_any Test agents) (list_any Test sites) (list_any Test scanners) no_client no_agent no_scanner (sym parts_are ∙ e) in
    let below : n < 0 + slots D = site-within n 0 (slots D) among in
    grind (arith, nat_tests, below)
  where
    only-third : (a b c d : Bool) → a ≡ false → b ≡ false → d ≡ false → (((a || b) || c) || d) ≡ true → c ≡ true
    only-third a b true d p q r e = refl
    only-third true b false d p q r e = absurd (false≢true (sym p))
    only-third false true false d p q r e = absurd (false≢true (sym q))
    only-third false false false d p q r e = sym r ∙ e

-- ---- a later world

-- one with a history, which is the same one and has only grown, unless an epoch begins anew
pub record LogsReach (w : World) (F : Logs) (anew : Bool) (v : World) : Type 0 where
  pub next : HasLogs v
  pub onward : anew ≡ false → Onward F next.logs
  pub rises : anew ≡ false → (p : ℕ) → AuthoritativeRises (w.authoritative p) (v.authoritative p)

same-reaches : (w : World) (c : Bool) (k : HasLogs w) → LogsReach w k.logs c w
same-reaches w c k = record { next = k; onward = λ e. onward-same k.logs; rises = λ e p. rises-same (w.authoritative p) }

-- where the history stays
keeps-reaches : (w v : World) (c : Bool) (k : HasLogs w) → Keeps w k v → LogsReach w k.logs c v
keeps-reaches w v c k n = record {
  next = n.next;
  onward = λ e. subst (Onward k.logs) (sym n.logs) (onward-same k.logs);
  rises = λ e p. subst (AuthoritativeRises (w.authoritative p)) (ap (λ f. f p) (sym n.authoritative)) (rises-same (w.authoritative p));
}

-- the event is noted in the trace
noted : (w : World) (F : Logs) (c : Bool) (v : World) (trace : List Event) → LogsReach w F c v → LogsReach w F c (record v { trace = trace })
noted w F c v trace r = let n = r.next in record {
  next = record { owner = n.owner; history = n.history; logs = n.logs; holds = n.holds; strangers = n.strangers; authoritative = n.authoritative; counted = n.counted };
  onward = r.onward;
  rises = r.rises;
}

-- ---- events of sites

-- after the turn of a site
pub site-reaches : (w : World) (c : Bool) (k : HasLogs w) (channel : Actor → Actor → List Letter) (stops : List Stopped) (i : ℕ) (t : Turn SiteState) (G : Logs)
    → LogsHold (log_state (with_site (record w { channel = channel; stops = stops }) i t) k.owner k.history G) → Grown w.deployment i t.state k.logs G
    → LogsReach w k.logs c (with_site (record w { channel = channel; stops = stops }) i t)
site-reaches w c k channel stops i t G H grown = record {
  next = record {
    owner = k.owner;
    history = k.history;
    logs = G;
    holds = H;
    strangers = k.strangers;
    authoritative = set-both (λ p l. AuthoritativeOk G p l) w.authoritative own after own-authoritative
        (λ p n. authoritative-still w.deployment i t.state k.logs G grown p (w.authoritative p) (k.authoritative p) (λ u h is new. n (sym new.part_is)));
    counted = set-both (λ c s. is_member_site s ≡ true → leads w.deployment c s ≡ true → s.firm ≤ (v.authoritative (part_of_slot w.deployment c)).firm) w.sites i t.state
        (λ runs authoritative. subst (λ l. t.state.firm ≤ l.firm) (sym (set-here w.authoritative own after)) (authoritative-counted w.deployment i t.state (w.authoritative own) authoritative))
        (λ c n runs authoritative. let a = k.counted c runs authoritative in let b = (rises (part_of_slot w.deployment c)).firm in omega (arith, a, b));
  };
  onward = λ e. grown.onward;
  rises = λ e. rises;
}
  where
    v : World
    v = with_site (record w { channel = channel; stops = stops }) i t

    T : LogState
    T = log_state v k.owner k.history G

    own : ℕ
    own = part_of_slot w.deployment i

    after : AuthoritativeLog
    after = authoritative_after w.deployment i t.state (w.authoritative own)

    site : T.sites i ≡ t.state
    site = set-here w.sites i t.state

    own-authoritative : AuthoritativeOk G own after
    own-authoritative = subst (λ s. AuthoritativeOk G own (authoritative_after w.deployment i s (w.authoritative own))) site
        (authoritative-turned T H k.logs i (subst (λ s. Grown w.deployment i s k.logs G) (sym site) grown) (w.authoritative own) (k.authoritative own))

    rises : (p : ℕ) → AuthoritativeRises (w.authoritative p) (v.authoritative p)
    rises = set-both (λ p l. AuthoritativeRises (w.authoritative p) l) w.authoritative own after (authoritative-rises w.deployment i t.state (w.authoritative own)) (λ p n. rises-same (w.authoritative p))

-- its history is the one that the turn leaves
pub site-next : (w : World) (c : Bool) (k : HasLogs w) (channel : Actor → Actor → List Letter) (stops : List Stopped) (i : ℕ) (t : Turn SiteState) (G : Logs)
    → (H : LogsHold (log_state (with_site (record w { channel = channel; stops = stops }) i t) k.owner k.history G)) (grown : Grown w.deployment i t.state k.logs G)
    → let n = (site-reaches w c k channel stops i t G H grown).next in (n.owner ≡ k.owner) × (n.history ≡ k.history) × (n.logs ≡ G)
unfolding site-reaches
site-next w c k channel stops i t G H grown = (refl, refl, refl)

to_site-reaches : (E : Database) (w : World) (i : ℕ) (from : Actor) (ls : List Letter) (o : Environment) (c : Bool) (k : HasLogs w) → w.channel from (Site i) ≡ ls
    → nat_lt i (slots w.deployment) ≡ true → LogsReach w k.logs c (delivered E w (Site i) from ls o)
to_site-reaches E w i from [] o c k is slot = same-reaches w c k
to_site-reaches E w i from (l ∷ ls) o c k is slot =
    let S = log_state w k.owner k.history k.logs in
    let r = turn-after E (stamp_of w) S k.holds i slot refl from l ls o is in
    site-reaches w c k (took w.channel from (Site i)) (stops_with (stamp_of w) w.stops (Site i) o) i (site_turn E w.deployment (stamp_of w) i (w.sites i) from l o) r.0 r.1 r.2

sync-reaches : (E : Database) (w : World) (i : ℕ) (o : Environment) (c : Bool) (k : HasLogs w) → may_sync (w.sites i) ≡ true → LogsReach w k.logs c (happens E w (event.Sync i) o)
sync-reaches E w i o c k may =
    let S = log_state w k.owner k.history k.logs in
    let up = (and_parts (nat_lt 0 (w.sites i).start) (owes_in (w.sites i) (w.sites i).joining) may).0 in
    let runs : 0 < site_start S i = grind (arith, nat_tests, up) in
    let r = sync-after E S k.holds i refl runs o in
    site-reaches w c k w.channel (stops_with (stamp_of w) w.stops (Site i) o) i (sync_turn E w.deployment i (w.sites i) o) r.0 r.1 r.2

-- ---- events of agents

to_agent-reaches : (E : Database) (w : World) (n : ℕ) (from : Actor) (ls : List Letter) (o : Environment) (c : Bool) (k : HasLogs w) → w.channel from (Agent n) ≡ ls
    → is_host w.deployment n ≡ true → allows w (event.Deliver (Agent n) from) o ≡ true → LogsReach w k.logs c (delivered E w (Agent n) from ls o)
to_agent-reaches E w n from [] o c k is host may = same-reaches w c k
to_agent-reaches E w n from (l ∷ ls) o c k is host may =
    let S = log_state w k.owner k.history k.logs in
    let r = agent-event E S n (stamp_of w) from l ls o is host (λ answered e. memory-runs w n answered from l ls o is may e) k.holds in
    record {
      next = record {
        owner = k.owner;
        history = r.history;
        logs = k.logs;
        holds = r.holds;
        strangers = λ h e.
            if-false (h == n) (agent_turn E w.deployment n (stamp_of w) (w.agents n) from l o).state (w.agents h) (host-apart w.deployment n h host e) ∙ k.strangers h e;
        authoritative = k.authoritative;
        counted = k.counted;
      };
      onward = λ e. onward-same k.logs;
      rises = λ e p. rises-same (w.authoritative p);
    }

-- ---- events

delivered-reaches : (E : Database) (w : World) (to from : Actor) (o : Environment) (k : HasLogs w) → is_actor w.deployment to ≡ true → allows w (event.Deliver to from) o ≡ true
    → LogsReach w k.logs false (delivered E w to from (w.channel from to) o)
delivered-reaches E w Director from o k there may =
    keeps-reaches w (delivered E w Director from (w.channel from Director) o) false k (to_director-logs E w from (w.channel from Director) o k)
delivered-reaches E w (Client n) from o k there may =
    keeps-reaches w (delivered E w (Client n) from (w.channel from (Client n)) o) false k (to_client-logs E w n from (w.channel from (Client n)) o k)
delivered-reaches E w (Agent n) from o k there may = to_agent-reaches E w n from (w.channel from (Agent n)) o false k refl (actor-host w.deployment n there) may
delivered-reaches E w (Site i) from o k there may = to_site-reaches E w i from (w.channel from (Site i)) o false k refl (actor-slot w.deployment i there)
delivered-reaches E w (Scanner i) from o k there may =
    keeps-reaches w (delivered E w (Scanner i) from (w.channel from (Scanner i)) o) false k (to_scanner-logs E w i from (w.channel from (Scanner i)) o k)

recovery-reaches : (E : Database) (w : World) (o : Environment) (k : HasLogs w) → LogsReach w k.logs (renews_by o) (recovered_with E w o)
recovery-reaches E w NoFault k = same-reaches w false k
recovery-reaches E w (DiskFails answered) k = same-reaches w false k
recovery-reaches E w (NoMemory answered) k = same-reaches w false k
recovery-reaches E w (DisksShow shown None) k =
    record { next = anew-logs E w shown k; onward = λ e. absurd (false≢true (sym e)); rises = λ e p. absurd (false≢true (sym e)) }
recovery-reaches E w (DisksShow shown (Some failed)) k = keeps-reaches w (stays_stopped E w shown failed) false k (stopped-logs E w shown failed k)

happens-reaches : (E : Database) (w : World) (e : Event) (o : Environment) (k : HasLogs w) → can w e ≡ true → allows w e o ≡ true → LogsReach w k.logs (renews_at e o) (happens E w e o)
happens-reaches E w (event.Deliver to from) o k may environment =
    delivered-reaches E w to from o k (and_parts (is_some_letter (w.channel from to)) (is_actor w.deployment to) may).1 environment
happens-reaches E w (event.Sync i) o k may environment = sync-reaches E w i o false k (and_parts (nat_lt i (slots w.deployment)) (may_sync (w.sites i)) may).1
happens-reaches E w (event.Scan i) o k may environment = keeps-reaches w (happens E w (event.Scan i) o) false k (scan-logs w i o k)
happens-reaches E w event.Recover o k may environment = recovery-reaches E w o k
happens-reaches E w event.Item o k may environment = keeps-reaches w (happens E w event.Item o) false k (next-logs w (may_do w w.director.items) w.director.items k)
happens-reaches E w (event.Submit n) o k may environment = keeps-reaches w (happens E w (event.Submit n) o) false k (submit-logs w n k)
happens-reaches E w (event.Idle a) o k may environment = same-reaches w false k

step-reaches : (E : Database) (w : World) (e : Happening) → may_happen w e ≡ true → (k : HasLogs w) → LogsReach w k.logs (renews e) (step E w e)
step-reaches E w e may k =
    let outer = and_parts (not (has_failed w) && can w e.0) (allows w e.0 e.1) may in
    let inner = and_parts (not (has_failed w)) (can w e.0) outer.0 in
    let v = happens E w e.0 e.1 in
    noted w k.logs (renews e) v (v.trace ++ e.0 ∷ []) (happens-reaches E w e.0 e.1 k inner.1 outer.1)

-- ---- reached worlds

-- Each world that is reached has a history of its logs.
pub logs-agree : (E : Database) (input : Input) (w : World) → Reached E input w → HasLogs w
logs-agree E input w r = reached-kept E HasLogs (λ v e may k. (step-reaches E v e may k).next) input w (λ is. first-logs E input is.base) r

-- Where no recovery works on the way, it is the same one, and has only grown.
pub epoch-reaches : (E : Database) (v w : World) → RunsInEpoch E v w → (k : HasLogs v) → LogsReach v k.logs false w
epoch-reaches E v w r k = in-epoch-kept E (LogsReach v k.logs false) goes-on v w r (same-reaches v false k)
  where
    goes-on : (u : World) (e : Happening) → may_happen u e ≡ true → renews e ≡ false → LogsReach v k.logs false u → LogsReach v k.logs false (step E u e)
    goes-on u e may same n = let s = step-reaches E u e may n.next in record {
      next = s.next;
      onward = λ f. onward-then k.logs n.next.logs s.next.logs (n.onward f) (s.onward same);
      rises = λ f p. rises-then (v.authoritative p) (u.authoritative p) ((step E u e).authoritative p) (n.rises f p) (s.rises same p);
    }
