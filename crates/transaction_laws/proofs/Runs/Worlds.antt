-- In each world of a run all that is to hold of transactions holds.
use Rattle.volt_wire.specs.declared.event.Event.TheVariants as event
use Rattle.volt_wire.specs.declared.message.Msg.TheVariants as msg
use Rattle.word_laws.specs.Histories as word
use Rattle.cluster_model.specs.Words.{is_client}
use Rattle.cluster_model.specs.World.{AskedFor, is_call_for, is_part_or_all}
use Rattle.call_laws.specs.Submissions.{Grows, numbered}
use Rattle.call_laws.proofs.Worlds.{first-asks, step-asks}
use Rattle.transaction_laws.proofs.Names.{Actor, Agent, AgentAsks, AllBefore, AllByRecursion, AskedIn, Deployment, HasSubmissions, SiteAsks, Submissions, list_all, ltb-true, nat_le, none-and-some, same-some, ◌==◌, Bool, CallsHold, Client, Database, Director, DiskFails, DisksHold, DisksShow, Environment, Event, Firm, Grown, Happening, HasLogs, Input, IsInput, IsLaidOut, Keeps, Letter, List, LogState, Logs, LogsHold, NoFault, NoMemory, None, Reached, Scanner, Site, SiteState, Some, Stopped, Transactions, Turn, World, [], actor-host, actor-slot, agent_turn, all-from, allows, and_parts, anew-disks, anew-logs, ap, arith, authoritative-raised, can, delivered, disks-agent, disks-plain, false, firm_in, first-disks, first-logs, first_world, happens, has_failed, host-apart, if-false, if◌then◌else◌, is_actor, is_host, is_shown, is_slot_or_none, is_some_letter, length, length-append, log_state, may_do, may_happen, may_recover, may_sync, member_site, memory-runs, nat_lt, new_base, new_log, new_site, new_word, next-logs, no_site, not, part_of_slot, reached-kept, recovered_with, refl, scan-logs, set-both, site-next, site-reaches, site_turn, site_turn-kept, slots, stamp_of, start_from, starts_anew, stays_stopped, step, stopped-hold, stopped-logs, stops_with, submit-logs, subst, sym, sync-after, sync-disks, sync-runs, sync_turn, to_client-logs, to_director-logs, to_scanner-logs, took, true, turn-after, waits-plain, with_site, ℕ, ◌&&◌, ◌++◌, ◌+◌, ◌<◌, ◌==◌, ◌∙◌, ◌∷◌, ◌≡◌}
use Rattle.transaction_laws.proofs.Kept.{Brings, Ending, WaitsTold, calls-plain, submitted-on, with_submitted}
use Rattle.transaction_laws.proofs.Agents.AgentEvents.{agent-calls}
use Rattle.transaction_laws.proofs.Sites.SiteEvents.{site-calls, sync-calls}
use Rattle.transaction_laws.proofs.Runs.Blank.{Blank, turn-blank, sync-blank}
use Rattle.transaction_laws.proofs.Runs.Epochs.{first-calls, anew-calls, new_transactions, stopped-calls}

-- ---- worlds

-- A world with its histories, after so many events, in which these calls were submitted.
pub record HasCalls (E : Database) (A : Submissions) (now : ℕ) (w : World) : Type 0 where
  pub laid : IsLaidOut w.deployment
  pub logs : HasLogs w
  pub halted : Bool
  pub disks : DisksHold (log_state w logs.owner logs.history logs.logs) (firm_in w) halted
  pub transactions : Transactions
  pub submitted : transactions.submitted ≡ A
  pub calls : CallsHold E (log_state w logs.owner logs.history logs.logs) (firm_in w) halted transactions now
  pub blank : (i : ℕ) → Blank (w.sites i)

-- what disks show and what is known of transactions, in a state
pub record Known (E : Database) (A : Submissions) (now : ℕ) (T : LogState) (F : Firm) (halted : Bool) : Type 0 where
  pub disks : DisksHold T F halted
  pub transactions : Transactions
  pub submitted : transactions.submitted ≡ A
  pub calls : CallsHold E T F halted transactions now

known-has : (E : Database) (A : Submissions) (now : ℕ) (w : World) (halted : Bool) → IsLaidOut w.deployment → (k : HasLogs w)
    → Known E A now (log_state w k.owner k.history k.logs) (firm_in w) halted → ((i : ℕ) → Blank (w.sites i)) → HasCalls E A now w
known-has E A now w halted laid k n blank = record { laid = laid; logs = k; halted = halted; disks = n.disks; transactions = n.transactions; submitted = n.submitted; calls = n.calls; blank = blank }

-- What is known of the calls that are under way and that wait: each was submitted, before an event with this stamp.
pub record Facts (A : Submissions) (stamp : ℕ) (w : World) : Type 0 where
  pub past : AllBefore A stamp
  pub channels : (a b : Actor) → AllByRecursion (AskedIn w.deployment A a b) (w.channel a b)
  pub agents : (h : ℕ) → AgentAsks w.deployment A h (w.agents h)
  pub sites : (i : ℕ) → SiteAsks w.deployment A i (w.sites i)

-- of the first message of a channel
pub first-asked : (A : Submissions) (stamp : ℕ) (w : World) → Facts A stamp w → (from to : Actor) (l : Letter) (ls : List Letter) → w.channel from to ≡ l ∷ ls → AskedIn w.deployment A from to l
first-asked A stamp w f from to l ls is = (subst (AllByRecursion (AskedIn w.deployment A from to)) is (f.channels from to)).0

-- ---- events of clients, the director and scanners

module _ (E : Database) (A : Submissions) (now : ℕ) (w : World) (d : HasCalls E A now w) where
  abbrev S : LogState
  S = log_state w d.logs.owner d.logs.history d.logs.logs

  -- nothing happens
  same-calls : HasCalls E A (now + 1) w
  same-calls = record {
    laid = d.laid;
    logs = d.logs;
    halted = d.halted;
    disks = d.disks;
    transactions = _;
    submitted = d.submitted;
    calls = calls-plain E S (firm_in w) d.halted d.transactions now d.logs.holds d.calls w.director.next_start w.channel d.logs.owner (λ h c. refl) (λ c h. refl) d.logs.holds;
    blank = d.blank;
  }

  -- Numbers and owners of starts are others, and messages but those between agents and sites.
  plain-known : (next : ℕ) (ch : Actor → Actor → List Letter) (owner : ℕ → ℕ)
      → ((i c : ℕ) → ch (Site i) (Site c) ≡ w.channel (Site i) (Site c)) → ((h c : ℕ) → ch (Agent h) (Site c) ≡ w.channel (Agent h) (Site c))
      → ((c h : ℕ) → ch (Site c) (Agent h) ≡ w.channel (Site c) (Agent h))
      → LogsHold (record S { words = record S.words { next = next; channel = ch; owner = owner } })
      → Known E A (now + 1) (record S { words = record S.words { next = next; channel = ch; owner = owner } }) (firm_in w) d.halted
  plain-known next ch owner between down up h = record {
    disks = disks-plain S (firm_in w) d.halted d.disks next ch owner between;
    transactions = _;
    submitted = d.submitted;
    calls = calls-plain E S (firm_in w) d.halted d.transactions now d.logs.holds d.calls next ch owner down up h;
  }

-- with the same histories of words and logs
kept-holds : (w v : World) (k : HasLogs w) (n : Keeps w k v) → LogsHold (log_state v n.next.owner k.history k.logs)
kept-holds w v k n =
    subst (λ h. LogsHold (log_state v n.next.owner h k.logs)) n.history (subst (λ G. LogsHold (log_state v n.next.owner n.next.history G)) n.logs n.next.holds)

keeps-calls : (E : Database) (A : Submissions) (now : ℕ) (w v : World) (k : HasLogs w) (n : Keeps w k v) (halted : Bool) → IsLaidOut v.deployment → ((i : ℕ) → Blank (v.sites i))
    → Known E A now (log_state v n.next.owner k.history k.logs) (firm_in v) halted → HasCalls E A now v
keeps-calls E A now w v k n halted laid blank known = known-has E A now v halted laid n.next
    (subst (λ h. Known E A now (log_state v n.next.owner h n.next.logs) (firm_in v) halted) (sym n.history)
    (subst (λ G. Known E A now (log_state v n.next.owner k.history G) (firm_in v) halted) (sym n.logs) known))
    blank

module _ (E : Database) (A : Submissions) (now : ℕ) (w : World) (d : HasCalls E A now w) where
  to_client-calls : (n : ℕ) (from : Actor) (ls : List Letter) (o : Environment) → HasCalls E A (now + 1) (delivered E w (Client n) from ls o)
  to_client-calls n from [] o = same-calls E A now w d
  to_client-calls n from (l ∷ ls) o =
      let v = delivered E w (Client n) from (l ∷ ls) o in
      let k = to_client-logs E w n from (l ∷ ls) o d.logs in
      keeps-calls E A (now + 1) w v d.logs k d.halted d.laid d.blank
      (plain-known E A now w d v.director.next_start v.channel k.next.owner (λ i c. refl) (λ h c. refl) (λ c h. refl) (kept-holds w v d.logs k))

  to_director-calls : (from : Actor) (ls : List Letter) (o : Environment) → HasCalls E A (now + 1) (delivered E w Director from ls o)
  to_director-calls from [] o = same-calls E A now w d
  to_director-calls from (l ∷ ls) o =
      let v = delivered E w Director from (l ∷ ls) o in
      let k = to_director-logs E w from (l ∷ ls) o d.logs in
      keeps-calls E A (now + 1) w v d.logs k d.halted d.laid d.blank
      (plain-known E A now w d v.director.next_start v.channel k.next.owner (λ i c. refl) (λ h c. refl) (λ c h. refl) (kept-holds w v d.logs k))

  to_scanner-calls : (i : ℕ) (from : Actor) (ls : List Letter) (o : Environment) → HasCalls E A (now + 1) (delivered E w (Scanner i) from ls o)
  to_scanner-calls i from [] o = same-calls E A now w d
  to_scanner-calls i from (l ∷ ls) o =
      let v = delivered E w (Scanner i) from (l ∷ ls) o in
      let k = to_scanner-logs E w i from (l ∷ ls) o d.logs in
      keeps-calls E A (now + 1) w v d.logs k d.halted d.laid d.blank
      (plain-known E A now w d v.director.next_start v.channel k.next.owner (λ i c. refl) (λ h c. refl) (λ c h. refl) (kept-holds w v d.logs k))

  -- what they do of themselves
  scan-calls : (i : ℕ) (o : Environment) → HasCalls E A (now + 1) (happens E w (event.Scan i) o)
  scan-calls i o =
      let v = happens E w (event.Scan i) o in
      let k = scan-logs w i o d.logs in
      keeps-calls E A (now + 1) w v d.logs k d.halted d.laid d.blank
      (plain-known E A now w d v.director.next_start v.channel k.next.owner (λ i c. refl) (λ h c. refl) (λ c h. refl) (kept-holds w v d.logs k))

  submit-calls : (n : ℕ) (o : Environment) → HasCalls E A (now + 1) (happens E w (event.Submit n) o)
  submit-calls n o =
      let v = happens E w (event.Submit n) o in
      let k = submit-logs w n d.logs in
      keeps-calls E A (now + 1) w v d.logs k d.halted d.laid d.blank
      (plain-known E A now w d v.director.next_start v.channel k.next.owner (λ i c. refl) (λ h c. refl) (λ c h. refl) (kept-holds w v d.logs k))

  item-calls : (o : Environment) → HasCalls E A (now + 1) (happens E w event.Item o)
  item-calls o =
      let v = happens E w event.Item o in
      let k = next-logs w (may_do w w.director.items) w.director.items d.logs in
      keeps-calls E A (now + 1) w v d.logs k d.halted d.laid d.blank
      (plain-known E A now w d v.director.next_start v.channel k.next.owner (λ i c. refl) (λ h c. refl) (λ c h. refl) (kept-holds w v d.logs k))

-- ---- events of agents

-- of what calls are answered nothing is said here
abbrev Anything : Ending
Anything call e = Unit {0}

brings-anything : (from : Actor) (l : Letter) → Brings Anything from l
brings-anything Director l = tt
brings-anything (Client c) l = tt
brings-anything (Scanner x) l = tt
brings-anything (Agent h) l = elim l.body as (λ m. Brings Anything (Agent h) (record l { body = m })) [ msg.MpReply call e ↦ tt | m ↦ tt ]
brings-anything (Site c) l = elim l.body as (λ m. Brings Anything (Site c) (record l { body = m })) [ msg.Reply call start e ↦ tt | m ↦ tt ]

to_agent-calls : (E : Database) (A : Submissions) (w : World) (n : ℕ) (from : Actor) (ls : List Letter) (o : Environment) → (d : HasCalls E A (length w.trace) w) → w.channel from (Agent n) ≡ ls
    → is_host w.deployment n ≡ true → allows w (event.Deliver (Agent n) from) o ≡ true → Facts A (length w.trace + 1) w → HasCalls E A (length w.trace + 1) (delivered E w (Agent n) from ls o)
to_agent-calls E A w n from [] o d is host may facts = same-calls E A (length w.trace) w d
to_agent-calls E A w n from (l ∷ ls) o d is host may facts =
    let k = d.logs in
    let S = log_state w k.owner k.history k.logs in
    let t = agent_turn E w.deployment n (stamp_of w) (w.agents n) from l o in
    let f = subst (λ z. Facts z (length w.trace + 1) w) (sym d.submitted) facts in
    let r = agent-calls E S (firm_in w) Anything d.halted d.transactions (length w.trace) n from l ls o (record { down = λ call part. tt; replied = λ call e k. tt })
    (brings-anything from l) (all-from (WaitsTold Anything) (w.agents n).waiting (λ x i. brings-anything x.from x.letter)) d.laid k.holds d.calls is host
    f.past (f.agents n) (first-asked d.transactions.submitted (length w.trace + 1) w f from (Agent n) l ls is)
    (λ answered e. memory-runs w n answered from l ls o is may e) in
    record {
      laid = d.laid;
      logs = record {
        owner = k.owner;
        history = r.0.history;
        logs = k.logs;
        holds = r.0.holds;
        strangers = λ h e. if-false (h == n) t.state (w.agents h) (host-apart w.deployment n h host e) ∙ k.strangers h e;
        authoritative = k.authoritative;
        counted = k.counted;
      };
      halted = d.halted;
      disks = disks-agent S (firm_in w) d.halted d.disks n from t r.0;
      transactions = r.1;
      submitted = r.3 ∙ d.submitted;
      calls = r.2;
      blank = d.blank;
    }

-- ---- events of sites

-- after the turn of a site
module _ (E : Database) (A : Submissions) (w : World) (d : HasCalls E A (length w.trace) w) (channel : Actor → Actor → List Letter) (stops : List Stopped) (i : ℕ) (t : Turn SiteState) where
  abbrev after-turn : World
  after-turn = with_site (record w { channel = channel; stops = stops }) i t

  site-known : (G : Logs) (H : LogsHold (log_state after-turn d.logs.owner d.logs.history G)) → Grown w.deployment i t.state d.logs.logs G
      → Known E A (length w.trace + 1) (log_state after-turn d.logs.owner d.logs.history G) (firm_in after-turn) d.halted → Blank t.state → HasCalls E A (length w.trace + 1) after-turn
  site-known G H grown known blank =
      let k = d.logs in
      let r = site-reaches w false k channel stops i t G H grown in
      let e = site-next w false k channel stops i t G H grown in
      let Are : (ℕ → ℕ) → word.History → Logs → Type 0 = λ x h y. Known E A (length w.trace + 1) (log_state after-turn x h y) (firm_in after-turn) d.halted in
      known-has E A (length w.trace + 1) after-turn d.halted d.laid r.next
      (subst (λ x. Are x r.next.history r.next.logs) (sym e.0) (subst (λ h. Are k.owner h r.next.logs) (sym e.1) (subst (Are k.owner k.history) (sym e.2) known)))
      (set-both (λ c s. Blank s) w.sites i t.state blank (λ c n. d.blank c))

to_site-calls : (E : Database) (A : Submissions) (w : World) (i : ℕ) (from : Actor) (ls : List Letter) (o : Environment) → HasCalls E A (length w.trace) w → w.channel from (Site i) ≡ ls
    → nat_lt i (slots w.deployment) ≡ true → Facts A (length w.trace + 1) w → HasCalls E A (length w.trace + 1) (delivered E w (Site i) from ls o)
to_site-calls E A w i from [] o d is slot facts = same-calls E A (length w.trace) w d
to_site-calls E A w i from (l ∷ ls) o d is slot facts =
    let k = d.logs in
    let S = log_state w k.owner k.history k.logs in
    let r = turn-after E (stamp_of w) S k.holds i slot refl from l ls o is in
    let t = site_turn E w.deployment (stamp_of w) i (w.sites i) from l o in
    let f = subst (λ z. Facts z (length w.trace + 1) w) (sym d.submitted) facts in
    let channel = took w.channel from (Site i) in
    let stops = stops_with (stamp_of w) w.stops (Site i) o in
    let M = firm_in (after-turn E A w d channel stops i t) in
    let raised = authoritative-raised w.deployment i t.state w.authoritative in
    let go = site_turn-kept S k.holds (firm_in w) d.halted d.disks i slot E (stamp_of w) from l ls o is M r.0 r.1 r.2 raised in
    let c = site-calls E S k.holds (firm_in w) d.halted d.transactions (length w.trace) d.calls d.laid i slot d.disks from l ls is f.past (f.sites i)
    (first-asked d.transactions.submitted (length w.trace + 1) w f from (Site i) l ls is) o r.0 M r.1 r.2 r.3 r.4 go raised in
    site-known E A w d channel stops i t r.0 r.1 r.2 (record { disks = go.disks; transactions = _; submitted = d.submitted; calls = c.1 })
    (turn-blank E w.deployment (stamp_of w) i (w.sites i) (d.blank i) (waits-plain S k.holds i) from l o)

site-syncs : (E : Database) (A : Submissions) (w : World) (i : ℕ) (o : Environment) → HasCalls E A (length w.trace) w → nat_lt i (slots w.deployment) ≡ true → may_sync (w.sites i) ≡ true
    → HasCalls E A (length w.trace + 1) (happens E w (event.Sync i) o)
site-syncs E A w i o d slot may =
    let k = d.logs in
    let S = log_state w k.owner k.history k.logs in
    let up = sync-runs (w.sites i) may in
    let r = sync-after E S k.holds i refl up o in
    let t = sync_turn E w.deployment i (w.sites i) o in
    let stops = stops_with (stamp_of w) w.stops (Site i) o in
    let M = firm_in (after-turn E A w d w.channel stops i t) in
    let raised = authoritative-raised w.deployment i t.state w.authoritative in
    let go = sync-disks E S k.holds (firm_in w) d.halted d.disks i slot may o M r.0 r.1 r.2 raised in
    let c = sync-calls E S k.holds (firm_in w) d.halted d.transactions (length w.trace) d.calls d.laid i slot d.disks up o r.0 M r.1 r.2 r.3 r.4 go raised in
    site-known E A w d w.channel stops i t r.0 r.1 r.2 (record { disks = go.disks; transactions = _; submitted = d.submitted; calls = c.1 }) (sync-blank E w.deployment i (w.sites i) up o)

-- ---- recoveries

-- no site of a recovery that works is blank, and the logs of others are as they were
anew-blank : (E : Database) (w : World) (shown : List ℕ) → 0 < w.director.next_start → ((i : ℕ) → Blank (w.sites i)) → (i : ℕ) → Blank ((starts_anew E w shown).sites i)
anew-blank E w shown some blank i = choice (nat_lt i (slots w.deployment))
  where
    new : SiteState
    new = new_site w.deployment i (w.sites i) (new_word w.deployment (new_base w shown) w.director.next_start) (start_from w.deployment w.director.next_start i)
        (new_log E w shown (part_of_slot w.deployment i))

    choice : (b : Bool) → Blank (if b then new else w.sites i)
    choice true z = absurd (omega (arith, some, z))
    choice false z = blank i z

recovery-calls : (E : Database) (A : Submissions) (w : World) (o : Environment) → HasCalls E A (length w.trace) w → Facts A (length w.trace + 1) w → may_recover w ≡ true → allows w event.Recover o ≡ true
    → HasCalls E A (length w.trace + 1) (recovered_with E w o)
recovery-calls E A w NoFault d facts may environment = same-calls E A (length w.trace) w d
recovery-calls E A w (DiskFails answered) d facts may environment = same-calls E A (length w.trace) w d
recovery-calls E A w (NoMemory answered) d facts may environment = same-calls E A (length w.trace) w d
recovery-calls E A w (DisksShow shown None) d facts may environment =
    let e = (and_parts (is_shown w shown None) (is_slot_or_none w.deployment None) environment).0 in
    record {
      laid = d.laid;
      logs = anew-logs E w shown d.logs;
      halted = false;
      disks = anew-disks E w shown d.logs (firm_in w) d.halted d.disks;
      transactions = _;
      submitted = d.submitted;
      calls = anew-calls E w shown d.logs (firm_in w) d.halted d.disks d.transactions (length w.trace) (length w.trace + 1) d.calls (omega arith)
          (λ call s is. let r = facts.past call s (sym (ap (λ z. z call) d.submitted) ∙ is) in (r.0, (let b = r.1 in omega (arith, b)))) e d.laid;
      blank = anew-blank E w shown d.logs.holds.words.some d.blank;
    }
recovery-calls E A w (DisksShow shown (Some failed)) d facts may environment =
    let v = stays_stopped E w shown failed in
    let n = stopped-logs E w shown failed d.logs in
    record {
      laid = d.laid;
      logs = n.next;
      halted = true;
      disks = stopped-hold E w d.logs (firm_in w) d.halted d.disks shown failed may environment n.next n.logs;
      transactions = d.transactions;
      submitted = d.submitted;
      calls = stopped-calls E w d.logs (firm_in w) d.halted d.disks d.transactions (length w.trace) (length w.trace + 1) d.calls (omega arith) shown failed may environment n.next n.history n.logs;
      blank = d.blank;
    }

-- ---- events

delivered-calls : (E : Database) (A : Submissions) (w : World) (to from : Actor) (o : Environment) → HasCalls E A (length w.trace) w → is_actor w.deployment to ≡ true
    → allows w (event.Deliver to from) o ≡ true → Facts A (length w.trace + 1) w → HasCalls E A (length w.trace + 1) (delivered E w to from (w.channel from to) o)
delivered-calls E A w Director from o d there may facts = to_director-calls E A (length w.trace) w d from (w.channel from Director) o
delivered-calls E A w (Client n) from o d there may facts = to_client-calls E A (length w.trace) w d n from (w.channel from (Client n)) o
delivered-calls E A w (Agent n) from o d there may facts = to_agent-calls E A w n from (w.channel from (Agent n)) o d refl (actor-host w.deployment n there) may facts
delivered-calls E A w (Site i) from o d there may facts = to_site-calls E A w i from (w.channel from (Site i)) o d refl (actor-slot w.deployment i there) facts
delivered-calls E A w (Scanner i) from o d there may facts = to_scanner-calls E A (length w.trace) w d i from (w.channel from (Scanner i)) o

happens-calls : (E : Database) (A : Submissions) (w : World) (e : Event) (o : Environment) → HasCalls E A (length w.trace) w → Facts A (length w.trace + 1) w → can w e ≡ true → allows w e o ≡ true
    → HasCalls E A (length w.trace + 1) (happens E w e o)
happens-calls E A w (event.Deliver to from) o d facts may environment =
    delivered-calls E A w to from o d (and_parts (is_some_letter (w.channel from to)) (is_actor w.deployment to) may).1 environment facts
happens-calls E A w (event.Sync i) o d facts may environment = let p = and_parts (nat_lt i (slots w.deployment)) (may_sync (w.sites i)) may in site-syncs E A w i o d p.0 p.1
happens-calls E A w (event.Scan i) o d facts may environment = scan-calls E A (length w.trace) w d i o
happens-calls E A w event.Recover o d facts may environment = recovery-calls E A w o d facts may environment
happens-calls E A w event.Item o d facts may environment = item-calls E A (length w.trace) w d o
happens-calls E A w (event.Submit n) o d facts may environment = submit-calls E A (length w.trace) w d n o
happens-calls E A w (event.Idle a) o d facts may environment = same-calls E A (length w.trace) w d

-- the event is noted in the trace
noted : (E : Database) (A : Submissions) (now : ℕ) (w : World) (trace : List Event) → HasCalls E A now w → HasCalls E A now (record w { trace = trace })
noted E A now w trace d = let n = d.logs in record {
  laid = d.laid;
  logs = record { owner = n.owner; history = n.history; logs = n.logs; holds = n.holds; strangers = n.strangers; authoritative = n.authoritative; counted = n.counted };
  halted = d.halted;
  disks = d.disks;
  transactions = d.transactions;
  submitted = d.submitted;
  calls = d.calls;
  blank = d.blank;
}

-- it isn't noted before
delivered-trace : (E : Database) (w : World) (to from : Actor) (ls : List Letter) (o : Environment) → (delivered E w to from ls o).trace ≡ w.trace
delivered-trace E w to from [] o = refl
delivered-trace E w Director from (l ∷ ls) o = refl
delivered-trace E w to from (l ∷ ls) o = refl

recovered-trace : (E : Database) (w : World) (o : Environment) → (recovered_with E w o).trace ≡ w.trace
recovered-trace E w (DisksShow shown None) = refl
recovered-trace E w o = refl

happens-trace : (E : Database) (w : World) (e : Event) (o : Environment) → (happens E w e o).trace ≡ w.trace
happens-trace E w (event.Deliver to from) o = delivered-trace E w to from (w.channel from to) o
happens-trace E w event.Recover o = recovered-trace E w o
happens-trace E w e o = refl

step-calls : (E : Database) (A : Submissions) (w : World) (e : Happening) → may_happen w e ≡ true → HasCalls E A (length w.trace) w → Facts A (length w.trace + 1) w
    → HasCalls E A (length (step E w e).trace) (step E w e)
step-calls E A w e may d facts =
    let outer = and_parts (not (has_failed w) && can w e.0) (allows w e.0 e.1) may in
    let inner = and_parts (not (has_failed w)) (can w e.0) outer.0 in
    let v = happens E w e.0 e.1 in
    let same : length w.trace + 1 ≡ length (v.trace ++ e.0 ∷ []) = sym (length-append v.trace (e.0 ∷ []) ∙ ap (λ t. length t + 1) (happens-trace E w e.0 e.1)) in
    subst (λ n. HasCalls E A n (step E w e)) same (noted E A (length w.trace + 1) v (v.trace ++ e.0 ∷ []) (happens-calls E A w e.0 e.1 d facts inner.1 outer.1))

-- with more calls that were submitted
more-calls : (E : Database) (A B : Submissions) (now : ℕ) (w : World) → HasCalls E A now w → Grows A B → HasCalls E B now w
more-calls E A B now w d more = record {
  laid = d.laid;
  logs = d.logs;
  halted = d.halted;
  disks = d.disks;
  transactions = with_submitted d.transactions B;
  submitted = refl;
  calls = submitted-on E (log_state w d.logs.owner d.logs.history d.logs.logs) (firm_in w) d.transactions B
      (λ call s is. more call s (sym (ap (λ z. z call) d.submitted) ∙ is)) d.halted now d.calls;
  blank = d.blank;
}

-- ---- reached worlds

-- no site of the first world is blank but where there is no slot
first-blank : (E : Database) (I : Input) (i : ℕ) → Blank ((first_world E I).sites i)
first-blank E I i = choice (nat_lt i (slots I.deployment))
  where
    choice : (b : Bool) → Blank (if b then member_site I.deployment i no_site (new_word I.deployment I.base 1) (start_from I.deployment 1 i) [] else no_site)
    choice true z = absurd (omega (arith, z))
    choice false z = refl

-- A world of a run of this input, with its histories and those of its submissions.
pub record AllCalls (E : Database) (I : Input) (w : World) : Type 0 where
  pub input : IsInput I
  pub asked : HasSubmissions I (length w.trace) w
  pub calls : HasCalls E asked.submissions (length w.trace) w

-- the calls of an input are of clients
numbered-client : (D : Deployment) (call first : ℕ) (cs : List AskedFor) → list_all (is_call_for D) cs ≡ true → (c : AskedFor) → numbered call first cs ≡ Some c → 0 < c.client
numbered-client D call first [] all c is = absurd (none-and-some refl is)
numbered-client D call first (x ∷ cs) all c is = choice (call == first) refl is (λ e. numbered-client D call (first + 1) cs (and_parts (is_call_for D x) (list_all (is_call_for D) cs) all).1 c e)
  where
    choice : (b : Bool) → (call == first) ≡ b → (if b then Some x else numbered call (first + 1) cs) ≡ Some c → (numbered call (first + 1) cs ≡ Some c → 0 < c.client) → 0 < c.client
    choice true q e later =
        let for_part = and_parts (is_client D x.client) (is_part_or_all D x.part) (and_parts (is_call_for D x) (list_all (is_call_for D) cs) all).0 in
        let some = and_parts (nat_lt 0 x.client) (nat_le x.client D.clients) for_part.0 in
        subst (λ z. 0 < z.client) (same-some e) (ltb-true 0 x.client some.0)
    choice false q e later = later e

pub asked-facts : (I : Input) (w : World) → IsInput I → (d : HasSubmissions I (length w.trace) w) → Facts d.submissions (length w.trace + 1) w
asked-facts I w is d = record {
  past = λ call s e. let k = d.each call s e in (numbered-client I.deployment call 1 I.calls is.calls _ k.asked, (let p = k.past in omega (arith, p)));
  channels = d.channels;
  agents = d.agents;
  sites = d.sites;
}

-- all of it, after an event, with all that was submitted before
pub step-grows : (E : Database) (I : Input) (w : World) (e : Happening) → may_happen w e ≡ true → (d : AllCalls E I w) → (n : AllCalls E I (step E w e)) × Grows d.asked.submissions n.asked.submissions
step-grows E I w e may d =
    let n = step-asks E I w e may d.asked in
    let k = step-calls E d.asked.submissions w e may d.calls (asked-facts I w d.input d.asked) in
    (record { input = d.input; asked = n.0; calls = more-calls E d.asked.submissions n.0.submissions (length (step E w e).trace) (step E w e) k n.1 }, n.1)

-- All holds in each world that is reached.
pub calls-agree : (E : Database) (I : Input) (w : World) → Reached E I w → AllCalls E I w
calls-agree E I w r = reached-kept E (AllCalls E I) (λ v e may d. (step-grows E I v e may d).0) I w first r
  where
    first : IsInput I → AllCalls E I (first_world E I)
    first is = record {
      input = is;
      asked = first-asks E I;
      calls = record {
        laid = is.deployment.layout;
        logs = first-logs E I is.base;
        halted = false;
        disks = first-disks E I is.base;
        transactions = new_transactions E I.deployment I.base (λ p. []) (first-asks E I).submissions;
        submitted = refl;
        calls = first-calls E I is.base is.deployment.layout 0 (first-asks E I).submissions;
        blank = first-blank E I;
      };
    }
