-- In each world of a run what disks show is well, and what was counted firm survives each event.
use Rattle.disk_laws.proofs.Names.{◌≡◌, ◌≤◌, Bool, true, false, List, [], ◌∷◌, ◌++◌, length, refl, sym, subst, ap, ◌∙◌, ◌==◌, arith, and_parts, length-take-le, ℕ, ◌&&◌, not, nat_lt, Some, None, Actor, Director, Client, Agent, Site, Scanner, Event, Database, slots, is_host, Letter, Turn, SiteState, agent_turn, may_sync, site_turn, sync_turn, Environment, DisksShow, World, Stopped, Input, stamp_of, took, with_site, stops_with, starts_anew, stays_stopped, is_actor, is_some_letter, is_shown, is_slot_or_none, may_recover, can, allows, delivered, recovered_with, may_do, happens, step, Happening, Reached, RunsTo, has_failed, may_happen, reached-kept, runs-kept, if-false, actor-host, host-apart, memory-runs, Logs, LogState, LogsHold, log_state, HasLogs, prefix-trans, prefix-length, prefixes-order, prefix-take, Grown, Onward, onward-same, AuthoritativeRises, first-logs, anew-logs, Keeps, to_client-logs, to_director-logs, to_scanner-logs, scan-logs, submit-logs, next-logs, stopped-logs, agent-event, turn-after, sync-after, actor-slot, site-reaches, site-next, keeps-firm, Survives, firm_entries, DisksHold}
use Rattle.volt_wire.specs.declared.event.Event.TheVariants as event
use Rattle.log_laws.proofs.Runs.Leading.{rises-same}
use Rattle.disk_laws.proofs.SiteDisks.{authoritative-raised}
use Rattle.disk_laws.proofs.Syncs.{sync-disks, sync-runs}
use Rattle.disk_laws.proofs.Choices.{no-choice-lacks}
use Rattle.disk_laws.proofs.Recoveries.{stopped-hold}
use Rattle.disk_laws.proofs.Boots.{firm_in, first-disks, anew-disks}
use Rattle.disk_laws.proofs.Others.{disks-plain, disks-agent}
use Rattle.disk_laws.proofs.Turning.{DisksGo}
use Rattle.disk_laws.proofs.SiteTurns.{site_turn-kept}

-- ---- worlds

-- A world with a history of its logs, and what its disks show, whether or not a recovery was stopped since the last one that worked.
pub record HasDisks (w : World) : Type 0 where
  pub logs : HasLogs w
  pub halted : Bool
  pub disks : DisksHold (log_state w logs.owner logs.history logs.logs) (firm_in w) halted

-- So it is in a later world, and what was firm survives.
pub record DisksGoOn (w v : World) : Type 0 where
  pub next : HasDisks v
  pub survives : (p : ℕ) → Survives w v p

-- ---- what survives

-- in one epoch
survives-onward : (w v : World) (k : HasLogs w) (n : HasLogs v) → Onward k.logs n.logs → ((p : ℕ) → AuthoritativeRises (w.authoritative p) (v.authoritative p)) → (p : ℕ) → Survives w v p
survives-onward w v k n onward rises p = let f = keeps-firm w v k n onward rises p in record { within = f.within; more = f.more; kept = f.kept }

pub survives-same : (w : World) (k : HasLogs w) (p : ℕ) → Survives w w p
survives-same w k = survives-onward w w k k (onward-same k.logs) (λ p. rises-same (w.authoritative p))

-- as many entries are there as were counted
firm-length : (w : World) (p : ℕ) → (w.authoritative p).firm ≤ length (w.authoritative p).log → length (firm_entries w p) ≡ (w.authoritative p).firm
firm-length w p within = length-take-le (w.authoritative p).firm (w.authoritative p).log within

-- one event behind another
pub survives-then : (u v w : World) (p : ℕ) → Survives u v p → Survives v w p → Survives u w p
survives-then u v w p f g = record {
  within = f.within;
  more = let a = f.more in let b = g.more in omega (arith, a, b);
  kept = prefix-trans (firm_entries u p) (firm_entries v p) (w.authoritative p).log
      (prefixes-order (firm_entries u p) (firm_entries v p) (v.authoritative p).log f.kept (prefix-take (v.authoritative p).firm (v.authoritative p).log)
      (let a = firm-length u p f.within in let b = firm-length v p g.within in let c = f.more in omega (arith, a, b, c)))
      g.kept;
}

-- a recovery that works
survives-anew : (E : Database) (w : World) (shown : List ℕ) (d : HasDisks w) → is_shown w shown None ≡ true → (p : ℕ) → Survives w (starts_anew E w shown) p
survives-anew E w shown d e p =
    let within = (survives-same w d.logs p).within in
    let prefix = no-choice-lacks E w d.logs (firm_in w) d.halted d.disks shown e p (d.logs.authoritative p) in
    record {
      within = within;
      more = let a = firm-length w p within in let b = prefix-length (firm_entries w p) ((starts_anew E w shown).authoritative p).log prefix in omega (arith, a, b);
      kept = prefix;
    }

-- ---- later worlds

same-goes : (w : World) → HasDisks w → DisksGoOn w w
same-goes w d = record { next = d; survives = survives-same w d.logs }

-- with the same histories of words and logs
keeps-goes : (w v : World) (d : HasDisks w) (n : Keeps w d.logs v) → DisksHold (log_state v n.next.owner d.logs.history d.logs.logs) (firm_in v) d.halted → DisksGoOn w v
keeps-goes w v d n disks = record {
  next = record {
    logs = n.next;
    halted = d.halted;
    disks = subst (λ h. DisksHold (log_state v n.next.owner h n.next.logs) (firm_in v) d.halted) (sym n.history)
        (subst (λ G. DisksHold (log_state v n.next.owner d.logs.history G) (firm_in v) d.halted) (sym n.logs) disks);
  };
  survives = keeps-survives w v d n;
}
  where
    keeps-survives : (w v : World) (d : HasDisks w) (n : Keeps w d.logs v) → (p : ℕ) → Survives w v p
    keeps-survives w v d n = survives-onward w v d.logs n.next (subst (Onward d.logs.logs) (sym n.logs) (onward-same d.logs.logs))
        (λ p. subst (AuthoritativeRises (w.authoritative p)) (ap (λ f. f p) (sym n.authoritative)) (rises-same (w.authoritative p)))

-- the event is noted in the trace
noted : (w v : World) (trace : List Event) → DisksGoOn w v → DisksGoOn w (record v { trace = trace })
noted w v trace g = let n = g.next.logs in record {
  next = record {
    logs = record { owner = n.owner; history = n.history; logs = n.logs; holds = n.holds; strangers = n.strangers; authoritative = n.authoritative; counted = n.counted };
    halted = g.next.halted;
    disks = g.next.disks;
  };
  survives = λ p. let s = g.survives p in record { within = s.within; more = s.more; kept = s.kept };
}

-- ---- events of clients, the director and scanners

module _ (w : World) (d : HasDisks w) where
  abbrev S : LogState
  S = log_state w d.logs.owner d.logs.history d.logs.logs

  -- what disks show is as it was
  plain : (next : ℕ) (ch : Actor → Actor → List Letter) (owner : ℕ → ℕ) → ((i c : ℕ) → ch (Site i) (Site c) ≡ w.channel (Site i) (Site c))
      → DisksHold (record S { words = record S.words { next = next; channel = ch; owner = owner } }) (firm_in w) d.halted
  plain = disks-plain S (firm_in w) d.halted d.disks

to_client-goes : (E : Database) (w : World) (n : ℕ) (from : Actor) (ls : List Letter) (o : Environment) → HasDisks w → DisksGoOn w (delivered E w (Client n) from ls o)
to_client-goes E w n from [] o d = same-goes w d
to_client-goes E w n from (l ∷ ls) o d =
    let v = delivered E w (Client n) from (l ∷ ls) o in
    let k = to_client-logs E w n from (l ∷ ls) o d.logs in
    keeps-goes w v d k (plain w d v.director.next_start v.channel k.next.owner (λ i c. refl))

to_director-goes : (E : Database) (w : World) (from : Actor) (ls : List Letter) (o : Environment) → HasDisks w → DisksGoOn w (delivered E w Director from ls o)
to_director-goes E w from [] o d = same-goes w d
to_director-goes E w from (l ∷ ls) o d =
    let v = delivered E w Director from (l ∷ ls) o in
    let k = to_director-logs E w from (l ∷ ls) o d.logs in
    keeps-goes w v d k (plain w d v.director.next_start v.channel k.next.owner (λ i c. refl))

to_scanner-goes : (E : Database) (w : World) (i : ℕ) (from : Actor) (ls : List Letter) (o : Environment) → HasDisks w → DisksGoOn w (delivered E w (Scanner i) from ls o)
to_scanner-goes E w i from [] o d = same-goes w d
to_scanner-goes E w i from (l ∷ ls) o d =
    let v = delivered E w (Scanner i) from (l ∷ ls) o in
    let k = to_scanner-logs E w i from (l ∷ ls) o d.logs in
    keeps-goes w v d k (plain w d v.director.next_start v.channel k.next.owner (λ i c. refl))

-- what they do of themselves
scan-goes : (E : Database) (w : World) (i : ℕ) (o : Environment) → HasDisks w → DisksGoOn w (happens E w (event.Scan i) o)
scan-goes E w i o d =
    let v = happens E w (event.Scan i) o in
    let k = scan-logs w i o d.logs in
    keeps-goes w v d k (plain w d v.director.next_start v.channel k.next.owner (λ i c. refl))

submit-goes : (E : Database) (w : World) (n : ℕ) (o : Environment) → HasDisks w → DisksGoOn w (happens E w (event.Submit n) o)
submit-goes E w n o d =
    let v = happens E w (event.Submit n) o in
    let k = submit-logs w n d.logs in
    keeps-goes w v d k (plain w d v.director.next_start v.channel k.next.owner (λ i c. refl))

item-goes : (E : Database) (w : World) (o : Environment) → HasDisks w → DisksGoOn w (happens E w event.Item o)
item-goes E w o d =
    let v = happens E w event.Item o in
    let k = next-logs w (may_do w w.director.items) w.director.items d.logs in
    keeps-goes w v d k (plain w d v.director.next_start v.channel k.next.owner (λ i c. refl))

-- ---- events of agents

to_agent-goes : (E : Database) (w : World) (n : ℕ) (from : Actor) (ls : List Letter) (o : Environment) → HasDisks w → w.channel from (Agent n) ≡ ls
    → is_host w.deployment n ≡ true → allows w (event.Deliver (Agent n) from) o ≡ true → DisksGoOn w (delivered E w (Agent n) from ls o)
to_agent-goes E w n from [] o d is host may = same-goes w d
to_agent-goes E w n from (l ∷ ls) o d is host may =
    let k = d.logs in
    let S = log_state w k.owner k.history k.logs in
    let v = delivered E w (Agent n) from (l ∷ ls) o in
    let t = agent_turn E w.deployment n (stamp_of w) (w.agents n) from l o in
    let r = agent-event E S n (stamp_of w) from l ls o is host (λ answered e. memory-runs w n answered from l ls o is may e) k.holds in
    let next : HasLogs v = record {
      owner = k.owner;
      history = r.history;
      logs = k.logs;
      holds = r.holds;
      strangers = λ h e. if-false (h == n) t.state (w.agents h) (host-apart w.deployment n h host e) ∙ k.strangers h e;
      authoritative = k.authoritative;
      counted = k.counted;
    } in
    record {
      next = record { logs = next; halted = d.halted; disks = disks-agent S (firm_in w) d.halted d.disks n from t r };
      survives = survives-onward w v k next (onward-same k.logs) (λ p. rises-same (w.authoritative p));
    }

-- ---- events of sites

-- after the turn of a site
module _ (w : World) (d : HasDisks w) (channel : Actor → Actor → List Letter) (stops : List Stopped) (i : ℕ) (t : Turn SiteState) where
  abbrev after-turn : World
  after-turn = with_site (record w { channel = channel; stops = stops }) i t

  site-goes : (G : Logs) (H : LogsHold (log_state after-turn d.logs.owner d.logs.history G)) → Grown w.deployment i t.state d.logs.logs G
      → DisksGo (log_state w d.logs.owner d.logs.history d.logs.logs) (log_state after-turn d.logs.owner d.logs.history G) (firm_in after-turn) d.halted → DisksGoOn w after-turn
  site-goes G H grown go =
      let k = d.logs in
      let r = site-reaches w false k channel stops i t G H grown in
      let e = site-next w false k channel stops i t G H grown in
      record {
        next = record {
          logs = r.next;
          halted = d.halted;
          disks = subst (λ x. DisksHold (log_state after-turn x r.next.history r.next.logs) (firm_in after-turn) d.halted) (sym e.0)
              (subst (λ x. DisksHold (log_state after-turn k.owner x r.next.logs) (firm_in after-turn) d.halted) (sym e.1)
              (subst (λ x. DisksHold (log_state after-turn k.owner k.history x) (firm_in after-turn) d.halted) (sym e.2) go.disks));
        };
        survives = survives-onward w after-turn k r.next (r.onward refl) (r.rises refl);
      }

to_site-goes : (E : Database) (w : World) (i : ℕ) (from : Actor) (ls : List Letter) (o : Environment) → HasDisks w → w.channel from (Site i) ≡ ls
    → nat_lt i (slots w.deployment) ≡ true → DisksGoOn w (delivered E w (Site i) from ls o)
to_site-goes E w i from [] o d is slot = same-goes w d
to_site-goes E w i from (l ∷ ls) o d is slot =
    let k = d.logs in
    let S = log_state w k.owner k.history k.logs in
    let r = turn-after E (stamp_of w) S k.holds i slot refl from l ls o is in
    let t = site_turn E w.deployment (stamp_of w) i (w.sites i) from l o in
    let channel = took w.channel from (Site i) in
    let stops = stops_with (stamp_of w) w.stops (Site i) o in
    site-goes w d channel stops i t r.0 r.1 r.2
    (site_turn-kept S k.holds (firm_in w) d.halted d.disks i slot E (stamp_of w) from l ls o is (firm_in (after-turn w d channel stops i t)) r.0 r.1 r.2
    (authoritative-raised w.deployment i t.state w.authoritative))

sync-goes : (E : Database) (w : World) (i : ℕ) (o : Environment) → HasDisks w → nat_lt i (slots w.deployment) ≡ true → may_sync (w.sites i) ≡ true
    → DisksGoOn w (happens E w (event.Sync i) o)
sync-goes E w i o d slot may =
    let k = d.logs in
    let S = log_state w k.owner k.history k.logs in
    let r = sync-after E S k.holds i refl (sync-runs (w.sites i) may) o in
    let t = sync_turn E w.deployment i (w.sites i) o in
    let stops = stops_with (stamp_of w) w.stops (Site i) o in
    site-goes w d w.channel stops i t r.0 r.1 r.2
    (sync-disks E S k.holds (firm_in w) d.halted d.disks i slot may o (firm_in (after-turn w d w.channel stops i t)) r.0 r.1 r.2 (authoritative-raised w.deployment i t.state w.authoritative))

-- ---- recoveries

anew-goes : (E : Database) (w : World) (shown : List ℕ) → HasDisks w → is_shown w shown None ≡ true → DisksGoOn w (starts_anew E w shown)
anew-goes E w shown d e = record {
  next = record { logs = anew-logs E w shown d.logs; halted = false; disks = anew-disks E w shown d.logs (firm_in w) d.halted d.disks };
  survives = survives-anew E w shown d e;
}

stopped-goes : (E : Database) (w : World) (shown : List ℕ) (failed : ℕ × Bool) → HasDisks w → may_recover w ≡ true → allows w event.Recover (DisksShow shown (Some failed)) ≡ true
    → DisksGoOn w (stays_stopped E w shown failed)
stopped-goes E w shown failed d may environment =
    let n = stopped-logs E w shown failed d.logs in
    record {
      next = record { logs = n.next; halted = true; disks = stopped-hold E w d.logs (firm_in w) d.halted d.disks shown failed may environment n.next n.logs };
      survives = survives-onward w (stays_stopped E w shown failed) d.logs n.next
          (subst (Onward d.logs.logs) (sym n.logs) (onward-same d.logs.logs)) (λ p. rises-same (w.authoritative p));
    }

recovery-goes : (E : Database) (w : World) (o : Environment) → HasDisks w → may_recover w ≡ true → allows w event.Recover o ≡ true → DisksGoOn w (recovered_with E w o)
recovery-goes E w (DisksShow shown None) d may environment = anew-goes E w shown d (and_parts (is_shown w shown None) (is_slot_or_none w.deployment None) environment).0
recovery-goes E w (DisksShow shown (Some failed)) d may environment = stopped-goes E w shown failed d may environment
recovery-goes E w x d may environment = same-goes w d

-- ---- events

delivered-goes : (E : Database) (w : World) (to from : Actor) (o : Environment) → HasDisks w → is_actor w.deployment to ≡ true → allows w (event.Deliver to from) o ≡ true
    → DisksGoOn w (delivered E w to from (w.channel from to) o)
delivered-goes E w Director from o d there may = to_director-goes E w from (w.channel from Director) o d
delivered-goes E w (Client n) from o d there may = to_client-goes E w n from (w.channel from (Client n)) o d
delivered-goes E w (Agent n) from o d there may = to_agent-goes E w n from (w.channel from (Agent n)) o d refl (actor-host w.deployment n there) may
delivered-goes E w (Site i) from o d there may = to_site-goes E w i from (w.channel from (Site i)) o d refl (actor-slot w.deployment i there)
delivered-goes E w (Scanner i) from o d there may = to_scanner-goes E w i from (w.channel from (Scanner i)) o d

happens-goes : (E : Database) (w : World) (e : Event) (o : Environment) → HasDisks w → can w e ≡ true → allows w e o ≡ true → DisksGoOn w (happens E w e o)
happens-goes E w (event.Deliver to from) o d may environment = delivered-goes E w to from o d (and_parts (is_some_letter (w.channel from to)) (is_actor w.deployment to) may).1 environment
happens-goes E w (event.Sync i) o d may environment = let p = and_parts (nat_lt i (slots w.deployment)) (may_sync (w.sites i)) may in sync-goes E w i o d p.0 p.1
happens-goes E w (event.Scan i) o d may environment = scan-goes E w i o d
happens-goes E w event.Recover o d may environment = recovery-goes E w o d may environment
happens-goes E w event.Item o d may environment = item-goes E w o d
happens-goes E w (event.Submit n) o d may environment = submit-goes E w n o d
happens-goes E w (event.Idle a) o d may environment = same-goes w d

pub step-goes : (E : Database) (w : World) (e : Happening) → may_happen w e ≡ true → HasDisks w → DisksGoOn w (step E w e)
step-goes E w e may d =
    let outer = and_parts (not (has_failed w) && can w e.0) (allows w e.0 e.1) may in
    let inner = and_parts (not (has_failed w)) (can w e.0) outer.0 in
    let v = happens E w e.0 e.1 in
    noted w v (v.trace ++ e.0 ∷ []) (happens-goes E w e.0 e.1 d inner.1 outer.1)

-- ---- reached worlds

-- All holds in each world that is reached.
pub disks-agree : (E : Database) (input : Input) (w : World) → Reached E input w → HasDisks w
disks-agree E input w r = reached-kept E HasDisks (λ v e may d. (step-goes E v e may d).next) input w
    (λ is. record { logs = first-logs E input is.base; halted = false; disks = first-disks E input is.base }) r

-- What is firm survives all that happens.
pub runs-go : (E : Database) (v w : World) → RunsTo E v w → HasDisks v → DisksGoOn v w
runs-go E v w r d = runs-kept E (DisksGoOn v) goes-on v w r (same-goes v d)
  where
    goes-on : (u : World) (e : Happening) → may_happen u e ≡ true → DisksGoOn v u → DisksGoOn v (step E u e)
    goes-on u e may g = let n = step-goes E u e may g.next in
        record { next = n.next; survives = λ p. survives-then v u (step E u e) p (g.survives p) (n.survives p) }
