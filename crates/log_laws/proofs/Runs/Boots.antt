-- How an epoch begins: all holds of logs in the first world, and once a recovery has worked.
use Rattle.volt_base.specs.declared.entry.LastReply.{LastReply}
use Rattle.cluster_model.specs.World.{greatest_replies}
use Rattle.log_laws.proofs.Names.{◌≡◌, ◌+◌, ◌<◌, ◌≤◌, Bool, true, false, List, [], ◌∷◌, append-nil, refl, sym, subst, ap, ◌∙◌, inl, inr, ◌==◌, arith, zero, suc, and_parts, and_from, cases_Bool, eq-eqb, eqb-true, false≢true, nat_tests, mod_below, ℕ, ◌*◌, ◌&&◌, not, nat_lt, if◌then◌else◌, length, map, Some, None, AllByRecursion, Entry, Membership, Actor, Director, Client, Agent, Site, Database, Deployment, slots, parts, part_of_slot, host_of_slot, is_host, is_in, term_of, copies, start_of_slot, Letter, AgentState, new_agent, starts_in, SiteState, site_term, is_joiner, is_member_site, no_site, stopped_site, member_site, World, Input, first_world, new_word, greatest_done, first_initiating, member_agent, start_from, is_of_host, new_channels, new_base, new_log, starts_anew, In, eqb-same, if-true, if-false, none-and-some, same-some, in-one, in-map-from, all-from, epoch_state, new_history, new_owner, boot-holds, recovery-holds, start_of-first, first-there, Entered, Streaming, Leadership, Logs, LogState, IsSlot, HasBeen, AckOk, EnteredOk, LeadershipOk, LeadsIn, FollowsIn, MemberOk, KeepsOk, SiteOk, ViewsOk, LoadsOk, ForeignOk, LogsHold, part, site_start, log_at, term_at, agent_to_site, between, line, views, sent_term, log_state, AuthoritativeOk, HasLogs}
use Rattle.volt_wire.specs.declared.message.Msg.TheVariants as msg
use Rattle.word_laws.specs.Histories as word
use Rattle.log_laws.proofs.Plain.{in-is_in, copy-member, none-or-some}

-- ---- the history with which an epoch begins

-- with what a slot's site enters the first term
abbrev pub first_entry : Deployment → ℕ → (ℕ → List Entry) → ℕ → Entered
first_entry D start log c = record {
  start = start_from D start c;
  log = log (part_of_slot D c);
  floor = length (log (part_of_slot D c));
  firm = length (log (part_of_slot D c));
}

-- the leader of each partition has begun the first term with its log
abbrev pub first_leadership : (ℕ → List Entry) → ℕ → Leadership
first_leadership log p = record { begun = log p; log = log p }

abbrev pub new_logs : Deployment → ℕ → ℕ → (ℕ → List Entry) → Logs
new_logs D base start log = record {
  ran = λ c. if nat_lt c (slots D) then start_from D start c ∷ [] else [];
  entered = λ c t. if nat_lt c (slots D) && t == base then Some (first_entry D start log c) else None;
  streamed = λ c t. None;
  leadership = λ p t. if t == base then Some (first_leadership log p) else None;
  reach = λ p t. if t == base then length (log p) else 0;
}

-- no start is under way, and no stream
abbrev pub NoStart : Letter → Type 0
NoStart l = elim l.body as (λ _. Type 0) [ msg.Start s ↦ ⊥ | msg.StreamStart head ↦ ⊥ | _ ↦ Unit {0} ]

-- a site that isn't running
pub record Rests (s : SiteState) : Type 0 where
  pub start : s.start ≡ 0
  pub term : site_term s ≤ s.greatest
  pub earlier : s.earlier ≤ s.greatest
  pub joining : s.joining ≡ None
  pub view : s.view ≡ None
  pub waiting : s.waiting ≡ []
  pub asks : s.asks ≡ []
  pub joiners : s.joiners ≡ []

-- What is so as an epoch begins: each site runs as a member of the first word with its partition's log, and each host's agent as
-- one too. Slots outside the deployment rest, and so do agents of others than hosts. Nothing is under way between actors of hosts.
pub record SitesBegin (D : Deployment) (base start number : ℕ) (replies : List LastReply) (agents : ℕ → AgentState) (channel : Actor → Actor → List Letter) (log : ℕ → List Entry)
    (sites : ℕ → SiteState) : Type 0 where
  pub positive : 0 < base
  pub drawn : 0 < start
  pub hosts : (h : ℕ) → is_host D h ≡ true → agents h ≡ member_agent (new_word D base start) number replies start h
  pub environment : (h : ℕ) → is_host D h ≡ false → agents h ≡ new_agent 0
  pub members : (c : ℕ) → nat_lt c (slots D) ≡ true
      → (x : SiteState) × (sites c ≡ member_site D c x (new_word D base start) (start_from D start c) (log (part_of_slot D c)))
  pub others : (c : ℕ) → nat_lt c (slots D) ≡ false → Rests (sites c)
  pub agreed : (h g : ℕ) → channel (Agent h) (Agent g) ≡ []
  pub inert : (from : Actor) → is_of_host from ≡ true → (c : ℕ) → channel from (Site c) ≡ []
  pub told : (c h : ℕ) → channel (Site c) (Agent h) ≡ []
  pub foreign : (from : Actor) → is_of_host from ≡ false → (c : ℕ) → AllByRecursion NoStart (channel from (Site c))

abbrev pub begun_state : Deployment → ℕ → ℕ → ℕ → (ℕ → AgentState) → (Actor → Actor → List Letter) → (ℕ → ℕ) → (ℕ → List Entry) → (ℕ → SiteState) → LogState
begun_state D base start next agents channel owner log sites = record {
  words = epoch_state D base start next agents channel owner;
  sites = sites;
  pending = λ c. [];
  logs = new_logs D base start log;
}

some-factor : (a b c : ℕ) → c < a * b → 0 < a
some-factor zero b c l = absurd (omega (arith, l))
some-factor (suc a) b c l = omega arith

-- the host of a slot
slot-host : (D : Deployment) (c : ℕ) → nat_lt c (slots D) ≡ true → is_host D (host_of_slot D c) ≡ true
slot-host D c e =
    let l : c < D.layout.hosts * D.layout.sites = grind (arith, nat_tests, e) in
    let some : 0 < D.layout.hosts = some-factor D.layout.hosts D.layout.sites c l in
    let b = mod_below c D.layout.hosts some in
    grind (arith, nat_tests, b)

-- ---- what holds as an epoch begins

module _ (D : Deployment) (base start number next : ℕ) (replies : List LastReply) (agents : ℕ → AgentState) (channel : Actor → Actor → List Letter) (owner : ℕ → ℕ)
    (log : ℕ → List Entry) (sites : ℕ → SiteState) (words : word.WordsHold (epoch_state D base start next agents channel owner)) (k : SitesBegin D base start number replies agents channel log sites) where
  abbrev T : LogState
  T = begun_state D base start next agents channel owner log sites

  abbrev W : Membership
  W = new_word D base start

  -- a slot's start, and its log
  abbrev s_of : ℕ → ℕ
  s_of c = start_from D start c

  abbrev log_of : ℕ → List Entry
  log_of c = log (part_of_slot D c)

  term-first : term_of W ≡ base
  term-first = omega arith

  -- its site
  member : (c : ℕ) (q : nat_lt c (slots D) ≡ true) → sites c ≡ member_site D c (k.members c q).0 W (s_of c) (log_of c)
  member c q = (k.members c q).1

  start-is : (c : ℕ) → nat_lt c (slots D) ≡ true → site_start T c ≡ s_of c
  start-is c q = ap (λ s. s.start) (member c q)

  log-is : (c : ℕ) → nat_lt c (slots D) ≡ true → log_at T c ≡ log_of c
  log-is c q = ap (λ s. s.log) (member c q)

  view-is : (c : ℕ) → nat_lt c (slots D) ≡ true → (sites c).view ≡ Some W
  view-is c q = ap (λ s. s.view) (member c q)

  term-is : (c : ℕ) → nat_lt c (slots D) ≡ true → term_at T c ≡ base
  term-is c q = ap site_term (member c q) ∙ term-first

  joining-is : (c : ℕ) → nat_lt c (slots D) ≡ true → (sites c).joining ≡ None
  joining-is c q = ap (λ s. s.joining) (member c q)

  greatest-is : (c : ℕ) → nat_lt c (slots D) ≡ true → (sites c).greatest ≡ base
  greatest-is c q = ap (λ s. s.greatest) (member c q)

  earlier-is : (c : ℕ) → nat_lt c (slots D) ≡ true → (sites c).earlier ≡ base
  earlier-is c q = ap (λ s. s.earlier) (member c q)

  repaired-is : (c : ℕ) → nat_lt c (slots D) ≡ true → (sites c).repaired ≡ true
  repaired-is c q = ap (λ s. s.repaired) (member c q)

  -- who runs is a slot
  slot-runs : (c : ℕ) → 0 < site_start T c → IsSlot T c
  slot-runs c up = elim (cases_Bool (nat_lt c (slots D))) [ inl e ↦ e | inr e ↦ absurd (omega (arith, up, (k.others c e).start)) ]

  -- ---- the history

  same-base : (t : ℕ) → t ≡ base → (t == base) ≡ true
  same-base t e = eq-eqb t base e

  leadership-first : (p t : ℕ) → t ≡ base → T.logs.leadership p t ≡ Some (first_leadership log p)
  leadership-first p t e = if-true (t == base) (Some (first_leadership log p)) None (same-base t e)

  reach-first : (p t : ℕ) → t ≡ base → T.logs.reach p t ≡ length (log p)
  reach-first p t e = if-true (t == base) (length (log p)) 0 (same-base t e)

  reach-later : (p t : ℕ) → (t == base) ≡ false → T.logs.reach p t ≡ 0
  reach-later p t e = if-false (t == base) (length (log p)) 0 e

  entered-first : (c t : ℕ) → nat_lt c (slots D) ≡ true → t ≡ base → T.logs.entered c t ≡ Some (first_entry D start log c)
  entered-first c t q e = if-true (nat_lt c (slots D) && t == base) (Some (first_entry D start log c)) None (and_from (nat_lt c (slots D)) (t == base) q (same-base t e))

  ran-first : (c : ℕ) → nat_lt c (slots D) ≡ true → T.logs.ran c ≡ s_of c ∷ []
  ran-first c q = if-true (nat_lt c (slots D)) (s_of c ∷ []) [] q

  one-if : {A : Type 0} (c : Bool) (x y : A) → (if c then Some x else None) ≡ Some y → (c ≡ true) × (x ≡ y)
  one-if true x y e = (refl, same-some e)
  one-if false x y e = absurd (cc)

  none-if : {A : Type 0} (c : Bool) (x : A) → (if c then Some x else None) ≡ None → c ≡ false
  none-if true x e = absurd (cc)
  none-if false x e = refl

  -- what was entered, and which terms were begun
  entered-is : (c t : ℕ) (e : Entered) → T.logs.entered c t ≡ Some e → (nat_lt c (slots D) ≡ true) × (t ≡ base) × (first_entry D start log c ≡ e)
  entered-is c t e i =
      let r = one-if (nat_lt c (slots D) && t == base) (first_entry D start log c) e i in
      let q = and_parts (nat_lt c (slots D)) (t == base) r.0 in
      (q.0, eqb-true t base q.1, r.1)

  leadership-is : (p t : ℕ) (g : Leadership) → T.logs.leadership p t ≡ Some g → (t ≡ base) × (first_leadership log p ≡ g)
  leadership-is p t g i = let r = one-if (t == base) (first_leadership log p) g i in (eqb-true t base r.0, r.1)

  -- ---- sites

  host-start : (c : ℕ) → nat_lt c (slots D) ≡ true → start_of_slot D W c ≡ Some (s_of c)
  host-start c q = start_of-first D base start (host_of_slot D c) (slot-host D c q)

  -- a start by which a slot is a member of the first word
  member-start : (c a : ℕ) → nat_lt c (slots D) ≡ true → start_of_slot D W c ≡ Some a → a ≡ s_of c
  member-start c a q e = same-some (sym e ∙ host-start c q)

  line-first : (start term i c : ℕ) → line start term (between T i c) ≡ []
  line-first a t i c = ap (line a t) (k.inert (Site i) refl c)

  been-first : (c t : ℕ) → nat_lt c (slots D) ≡ true → t ≡ base → HasBeen T c t (s_of c)
  been-first c t q e = record {
    some = omega (arith, k.drawn);
    ran = subst (λ xs. In (s_of c) xs) (sym (ran-first c q)) (inl refl);
    greatest = omega (arith, greatest-is c q, e);
    others = λ up d. absurd (d (start-is c q));
  }

  member-ok : (c : ℕ) (q : nat_lt c (slots D) ≡ true) → MemberOk T c W
  member-ok c q = record {
    decided = inl refl;
    start_is = host-start c q ∙ ap (λ x. Some x) (sym (start-is c q));
    entered = first_entry D start log c;
    is_entered = entered-first c (term_of W) q term-first;
    since = sym (start-is c q);
    earlier = omega (arith, earlier-is c q, term-first);
    grown = ([], log-is c q ∙ sym (append-nil (log_of c)));
    still = λ e. (log-is c q, ap (λ s. s.floor) (member c q), ap (λ s. s.firm) (member c q));
    floor = omega (arith, ap (λ s. s.floor) (member c q), reach-first (part T c) (term_of W) term-first);
    firm = omega (arith, ap (λ s. s.firm) (member c q), reach-first (part T c) (term_of W) term-first);
    leading = λ e. subst (LeadsIn (sites c)) (sym (leadership-first (part T c) (term_of W) term-first)) (repaired-is c q, log-is c q);
    following = λ l e. subst (FollowsIn (sites c) (line (site_start T c) (term_of W) (between T l c))) (sym (leadership-first (part T c) (term_of W) term-first))
        (inl ([], repaired-is c q, line-first (site_start T c) (term_of W) l c, append-nil (log_at T c) ∙ log-is c q, ([], log-is c q ∙ sym (append-nil (log_of c)))));
    others = λ l e. line-first (site_start T c) (term_of W) l c;
  }

  ack-first : (c t n : ℕ) → nat_lt c (slots D) ≡ true → t ≡ base → n ≡ length (log_of c) → AckOk T c t n
  ack-first c t n q e f = record {
    start = s_of c;
    some = omega (arith, k.drawn);
    was = inl (first_entry D start log c, entered-first c t q e, refl);
    now = λ r. omega (arith, f, ap length (log-is c q));
    later = λ u x l i r. absurd (omega (arith, l, e, (entered-is c u x i).1));
  }

  acks-first : (c : ℕ) → nat_lt c (slots D) ≡ true → AllByRecursion (λ a. IsSlot T a.0 → AckOk T a.0 (term_at T c) a.1) (sites c).acks
  acks-first c q = subst (AllByRecursion (λ a. IsSlot T a.0 → AckOk T a.0 (term_at T c) a.1)) (sym (ap (λ s. s.acks) (member c q)))
      (all-from (λ a. IsSlot T a.0 → AckOk T a.0 (term_at T c) a.1) (map (λ x. (x, length (log_of c))) (copies D W (part_of_slot D c))) acked)
    where
      acked : (a : ℕ × ℕ) → In a (map (λ x. (x, length (log_of c))) (copies D W (part_of_slot D c))) → IsSlot T a.0 → AckOk T a.0 (term_at T c) a.1
      acked a i o =
          let r = in-map-from (λ x. (x, length (log_of c))) a (copies D W (part_of_slot D c)) i in
          let o_copy = copy-member D W r.0 (part_of_slot D c) (in-is_in r.0 (copies D W (part_of_slot D c)) r.1) in
          let p : part_of_slot D a.0 ≡ part_of_slot D c = ap (λ x. part_of_slot D x.0) (sym r.2) ∙ o_copy.0 in
          ack-first a.0 (term_at T c) a.1 o (term-is c q) (ap (λ x. x.1) (sym r.2) ∙ ap (λ x. length (log x)) (sym p))

  keeps-ok : (c : ℕ) → nat_lt c (slots D) ≡ true → KeepsOk T c
  keeps-ok c q = record {
    acks = acks-first c q;
    reports = rw (ap (λ s. s.reports) (member c q)) tt;
    joiners = rw (ap (λ s. s.joiners) (member c q)) tt;
    alone = rw (ap (λ s. s.joiners) (member c q)) tt;
    leads = inl (ap (λ s. s.joiners) (member c q));
    asks = rw (ap (λ s. s.asks) (member c q)) tt;
    waiting = rw (ap (λ s. s.waiting) (member c q)) tt;
    pending = tt;
    held = rw (ap (λ s. s.held) (member c q)) tt;
    on_disk = omega (arith, ap (λ s. s.on_disk) (member c q), ap length (log-is c q));
  }

  site-ok : (c : ℕ) (x : Bool) → nat_lt c (slots D) ≡ x → SiteOk T c
  site-ok c true q = record {
    environment = λ e. absurd (cc);
    ran = λ up. ([], ran-first c q ∙ ap (λ x. x ∷ []) (sym (start-is c q)));
    term = omega (arith, term-is c q, greatest-is c q);
    earlier = omega (arith, earlier-is c q, greatest-is c q);
    member = λ up e. (W, view-is c q, member-ok c q);
    joiner = λ j e. absurd (none-and-some (joining-is c q) e);
    keeps = λ up. keeps-ok c q;
    stopped = λ e. absurd (omega (arith, e, start-is c q, k.drawn));
    blank = λ e. absurd (omega (arith, e, start-is c q, k.drawn));
  }
  site-ok c false q = let r = k.others c q in record {
    environment = λ e. r.start;
    ran = λ up. absurd (omega (arith, up, r.start));
    term = r.term;
    earlier = r.earlier;
    member = λ up. absurd (omega (arith, up, r.start));
    joiner = λ j e. absurd (none-and-some r.joining e);
    keeps = λ up. absurd (omega (arith, up, r.start));
    stopped = λ e. (r.waiting, r.asks, r.joiners, refl);
    blank = λ e. r.view;
  }

  -- ---- words that agents sent

  no-letters : (c : ℕ) → agent_to_site T c ≡ []
  no-letters c = k.inert (Agent (host_of_slot D c)) refl c

  no-starts : (c s : ℕ) → In s (starts_in (agent_to_site T c)) → ⊥
  no-starts c s i = subst (λ ls. In s (starts_in ls)) (no-letters c) i

  no-views : (c s : ℕ) → views s (agent_to_site T c) ≡ []
  no-views c s = ap (views s) (no-letters c)

  agent-runs : (h : ℕ) → 0 < (agents h).start → agents h ≡ member_agent W number replies start h
  agent-runs h up = elim (cases_Bool (is_host D h)) [ inl q ↦ k.hosts h q | inr q ↦ absurd (omega (arith, up, ap (λ a. a.start) (k.environment h q))) ]

  began-first : (c s : ℕ) (x : Bool) → nat_lt c (slots D) ≡ x → In s (if x then s_of c ∷ [] else []) → In s (T.words.history.began (host_of_slot D c))
  began-first c s true q (inl e) = subst (λ z. In z (T.words.history.began (host_of_slot D c))) e (in-one (is_host D (host_of_slot D c)) (s_of c) (slot-host D c q))
  began-first c s true q (inr i) = absurd i
  began-first c s false q i = absurd i

  views-ok : (c : ℕ) → ViewsOk T c
  views-ok c = record {
    plain = rw (no-letters c) tt;
    began = λ s o. elim o [
      | inl i ↦ absurd (no-starts c s i)
      | inr (inl i) ↦ began-first c s (nat_lt c (slots D)) refl i
      | inr (inr x) ↦ absurd (subst (λ ws. In x.0 ws) (no-views c s) x.1)
    ];
    running = λ up. rw (view-is c (slot-runs c up), no-views c (site_start T c)) (tt, tt);
    starting = λ s i. absurd (no-starts c s i);
    wordless = λ up t d. absurd (none-and-some d (ap (λ a. a.decided) (agent-runs (host_of_slot D c) up)));
    below = λ up. (
      rw (no-views c (agents (host_of_slot D c)).start) tt,
      λ e. let q = slot-runs c (subst (λ z. 0 < z) (sym e) up) in
          omega (arith, term-is c q, term-first, ap sent_term (agent-runs (host_of_slot D c) up)),
    );
  }

  -- ---- letters

  no-start : (from : Actor) (c : ℕ) → is_of_host from ≡ true → AllByRecursion (ForeignOk T c from) (channel from (Site c))
  no-start from c e = rw (k.inert from e c) tt

  foreign-ok : (from : Actor) (c : ℕ) → AllByRecursion (ForeignOk T c from) (channel from (Site c))
  foreign-ok Director c = k.foreign Director refl c
  foreign-ok (Client n) c = k.foreign (Client n) refl c
  foreign-ok from c = no-start from c refl

  -- an agent has nothing that waits, is queued, or has loaded
  loaded-none : (h : ℕ) (x : Bool) → is_host D h ≡ x → (agents h).loaded ≡ []
  loaded-none h true q = ap (λ a. a.loaded) (k.hosts h q)
  loaded-none h false q = ap (λ a. a.loaded) (k.environment h q)

  waiting-none : (h : ℕ) (x : Bool) → is_host D h ≡ x → (agents h).waiting ≡ []
  waiting-none h true q = ap (λ a. a.waiting) (k.hosts h q)
  waiting-none h false q = ap (λ a. a.waiting) (k.environment h q)

  first-queue : (h : ℕ) → (first_initiating h number replies).queue ≡ []
  first-queue zero = refl
  first-queue (suc h) = refl

  queue-none : (h : ℕ) (x : Bool) → is_host D h ≡ x → (agents h).initiating.queue ≡ []
  queue-none h true q = ap (λ a. a.initiating.queue) (k.hosts h q) ∙ first-queue h
  queue-none h false q = ap (λ a. a.initiating.queue) (k.environment h q)

  loads-ok : LoadsOk T
  loads-ok = record {
    told = λ c h. rw (k.told c h) tt;
    heard = λ h c up i. absurd (false≢true (ap (is_in c) (sym (loaded-none h (is_host D h) refl)) ∙ i));
    asked = λ h g. rw (k.agreed h g) tt;
    waiting = λ h. rw (waiting-none h (is_host D h) refl) tt;
    queued = λ h. rw (queue-none h (is_host D h) refl) tt;
    admitted = λ x i. absurd i;
  }

  -- ---- terms

  entered-ok : (c t : ℕ) (e : Entered) → T.logs.entered c t ≡ Some e → EnteredOk T c t e
  entered-ok c t e i =
      let r = entered-is c t e i in
      subst (EnteredOk T c t) r.2 (record {
        slot = r.0;
        word = W;
        is_word = record { decided = inl refl; term_is = term-first ∙ sym r.1 };
        start_is = host-start c r.0;
        been = been-first c t r.0 r.1;
        came = inl (first-there D start (host_of_slot D c) (slot-host D c r.0));
        reach = omega (arith, reach-first (part T c) t r.1);
        behind = λ v l. absurd (omega (arith, l.below, r.1, (leadership-is (part T c) v l.leadership l.led).0));
        still = λ v f l j. absurd (omega (arith, l, r.1, (entered-is c v f j).1));
        since = λ v g led below. absurd (omega (arith, below, r.1, (leadership-is (part T c) v g led).0));
        running = λ u. (joining-is c r.0, omega (arith, term-is c r.0, r.1), omega (arith, reach-first (part T c) t r.1, ap length (log-is c r.0)));
      })

  leadership-ok : (p t : ℕ) (g : Leadership) → T.logs.leadership p t ≡ Some g → LeadershipOk T p t g
  leadership-ok p t g i =
      let r = leadership-is p t g i in
      subst (LeadershipOk T p t) r.1 (record {
        word = W;
        is_word = record { decided = inl refl; term_is = term-first ∙ sym r.0 };
        grown = ([], sym (append-nil (log p)));
        within = omega (arith, reach-first p t r.0);
        entered = λ c a q e f. (first_entry D start log c, entered-first c t q r.0, sym (member-start c a q f), ([], ap log (sym e) ∙ sym (append-nil (log_of c))));
        begun_by = λ above. absurd (omega (arith, above, r.0));
      })

  -- All holds as an epoch begins.
  pub begun-holds : LogsHold T
  begun-holds = record {
    words = words;
    sites = λ c. site-ok c (nat_lt c (slots D)) refl;
    views = views-ok;
    letters = λ i c q. rw (k.inert (Site i) refl c) tt;
    foreign = foreign-ok;
    loads = loads-ok;
    entered = entered-ok;
    streamed = λ c t x e. absurd (none-and-some {A = Streaming} refl e);
    leaderships = leadership-ok;
    unled = λ p t e. inl (reach-later p t (none-if (t == base) (first_leadership log p) e));
    some = k.positive;
    first = λ p. (first_leadership log p, leadership-first p base refl);
  }

-- ---- the first epoch, and those that a recovery begins

-- sites as an epoch begins
abbrev first_sites : Deployment → ℕ → ℕ → (ℕ → List Entry) → (ℕ → SiteState) → (ℕ → SiteState) → ℕ → SiteState
first_sites D base start log before others c =
    if nat_lt c (slots D) then member_site D c (before c) (new_word D base start) (start_from D start c) (log (part_of_slot D c)) else others c

sites-begin : (D : Deployment) (base start : ℕ) (log : ℕ → List Entry) (before others : ℕ → SiteState) (c : ℕ) → nat_lt c (slots D) ≡ true
    → (x : SiteState) × (first_sites D base start log before others c ≡ member_site D c x (new_word D base start) (start_from D start c) (log (part_of_slot D c)))
sites-begin D base start log before others c q =
    (before c, if-true (nat_lt c (slots D)) (member_site D c (before c) (new_word D base start) (start_from D start c) (log (part_of_slot D c))) (others c) q)

sites-rest : (D : Deployment) (base start : ℕ) (log : ℕ → List Entry) (before others : ℕ → SiteState) (c : ℕ) → nat_lt c (slots D) ≡ false → Rests (others c)
    → Rests (first_sites D base start log before others c)
sites-rest D base start log before others c q r =
    subst Rests (sym (if-false (nat_lt c (slots D)) (member_site D c (before c) (new_word D base start) (start_from D start c) (log (part_of_slot D c))) (others c) q)) r

-- what the history says of the leads
first-authoritative : (D : Deployment) (base start : ℕ) (log : ℕ → List Entry) (p : ℕ) → AuthoritativeOk (new_logs D base start log) p (record { term = base; log = log p; firm = length (log p) })
first-authoritative D base start log p = record {
  leadership = first_leadership log p;
  led = led;
  log = refl;
  greatest = λ t g is. only t g (t == base) refl is;
  firm = (base, first_leadership log p, led, rw (eqb-same base) (omega arith));
}
  where
    led : (if base == base then Some (first_leadership log p) else None) ≡ Some (first_leadership log p)
    led = rw (eqb-same base) refl

    only : (t : ℕ) (g : Leadership) (b : Bool) → (t == base) ≡ b → (if b then Some (first_leadership log p) else None) ≡ Some g → t ≤ base
    only t g true e is = let q = eqb-true t base e in omega (arith, q)
    only t g false e is = absurd (none-and-some {A = Leadership} refl is)

-- and what those count firm that lead
first-counted : (D : Deployment) (base start : ℕ) (log : ℕ → List Entry) (before others : ℕ → SiteState) → ((c : ℕ) → nat_lt c (slots D) ≡ false → (others c).start ≡ 0)
    → (c : ℕ) → is_member_site (first_sites D base start log before others c) ≡ true → (first_sites D base start log before others c).firm ≤ length (log (part_of_slot D c))
first-counted D base start log before others rest c = choice (nat_lt c (slots D)) refl
  where
    choice : (b : Bool) → nat_lt c (slots D) ≡ b
        → is_member_site (if b then member_site D c (before c) (new_word D base start) (start_from D start c) (log (part_of_slot D c)) else others c) ≡ true
        → (if b then member_site D c (before c) (new_word D base start) (start_from D start c) (log (part_of_slot D c)) else others c).firm ≤ length (log (part_of_slot D c))
    choice true e runs = omega arith
    choice false e runs =
        let up = (and_parts (nat_lt 0 (others c).start) (not (is_joiner (others c))) runs).0 in
        let none = rest c e in
        absurd (false≢true (sym (ap (nat_lt 0) none) ∙ up))

-- The first world.
pub first-logs : (E : Database) (I : Input) → 0 < I.base → HasLogs (first_world E I)
first-logs E I positive =
    let D = I.deployment in
    let w = first_world E I in
    let number = greatest_done E (λ p. []) (parts D) + 1 in
    let before : ℕ → SiteState = λ c. no_site in
    record {
      owner = new_owner 1 (λ s. 0);
      history = new_history D (new_word D I.base 1) 1;
      logs = new_logs D I.base 1 (λ p. []);
      holds = begun-holds D I.base 1 number (D.layout.hosts + 1) [] w.agents w.channel (new_owner 1 (λ s. 0)) (λ p. []) w.sites (boot-holds D I.base number []) (record {
        positive = positive;
        drawn = omega arith;
        hosts = λ h e. if-true (is_host D h) (member_agent (new_word D I.base 1) number [] 1 h) (new_agent 0) e;
        environment = λ h e. if-false (is_host D h) (member_agent (new_word D I.base 1) number [] 1 h) (new_agent 0) e;
        members = sites-begin D I.base 1 (λ p. []) before before;
        others = λ c q. sites-rest D I.base 1 (λ p. []) before before c q (record { start = refl; term = omega arith; earlier = omega arith; joining = refl; view = refl; waiting = refl; asks = refl; joiners = refl });
        agreed = λ h g. refl;
        inert = λ from e c. refl;
        told = λ c h. refl;
        foreign = λ from e c. tt;
      });
      strangers = λ h e. if-false (is_host D h) (member_agent (new_word D I.base 1) number [] 1 h) (new_agent 0) e;
      authoritative = first-authoritative D I.base 1 (λ p. []);
      counted = λ c runs _. first-counted D I.base 1 (λ p. []) before before (λ c _. refl) c runs;
    }

-- an actor that isn't of a host sends no start
foreign-on : (S : LogState) (from : Actor) (c : ℕ) → is_of_host from ≡ false → AllByRecursion (ForeignOk S c from) (S.words.channel from (Site c))
    → AllByRecursion NoStart (S.words.channel from (Site c))
foreign-on S Director c e h = h
foreign-on S (Client n) c e h = h
foreign-on S from c e h = absurd (cc)

foreign-left : (D : Deployment) (start : ℕ) (channel : Actor → Actor → List Letter) (from : Actor) (c : ℕ) → is_of_host from ≡ false
    → AllByRecursion NoStart (channel from (Site c)) → AllByRecursion NoStart (new_channels D start channel from (Site c))
foreign-left D start channel Director c e h = subst (AllByRecursion NoStart) (sym (append-nil (channel Director (Site c)))) h
foreign-left D start channel (Client n) c e h = subst (AllByRecursion NoStart) (sym (append-nil (channel (Client n) (Site c)))) h
foreign-left D start channel from c e h = absurd (cc)

emptied : (D : Deployment) (start : ℕ) (channel : Actor → Actor → List Letter) (from : Actor) → is_of_host from ≡ true → (c : ℕ) → new_channels D start channel from (Site c) ≡ []
emptied D start channel from e c = rw e

-- a site of no slot never ran
stranger-rests : (S : LogState) → LogsHold S → (c : ℕ) → nat_lt c (slots S.words.deployment) ≡ false → Rests (S.sites c)
stranger-rests S H c q = let kept = (H.sites c).stopped ((H.sites c).environment q) in record {
  start = (H.sites c).environment q;
  term = (H.sites c).term;
  earlier = (H.sites c).earlier;
  joining = elim (none-or-some (S.sites c).joining) [ inl e ↦ e | inr (j, e) ↦ absurd (omega (arith, ((H.sites c).joiner j e).runs, (H.sites c).environment q)) ];
  view = (H.sites c).blank ((H.sites c).environment q);
  waiting = kept.0;
  asks = kept.1;
  joiners = kept.2;
}

-- A recovery that works.
pub anew-logs : (E : Database) (w : World) (shown : List ℕ) → HasLogs w → HasLogs (starts_anew E w shown)
anew-logs E w shown k =
    let D = w.deployment in
    let S = log_state w k.owner k.history k.logs in
    let v = starts_anew E w shown in
    let start = w.director.next_start in
    let base = new_base w shown in
    let log = new_log E w shown in
    let number = greatest_done E log (parts D) + 1 in
    let replies = greatest_replies E log (parts D) in
    let before : ℕ → SiteState = λ c. stopped_site (w.sites c) in
    record {
      owner = new_owner start k.owner;
      history = new_history D (new_word D base start) start;
      logs = new_logs D base start log;
      holds = begun-holds D base start number (start + D.layout.hosts) replies v.agents v.channel (new_owner start k.owner) log v.sites
          (recovery-holds S.words base number replies k.holds.words k.strangers) (record {
            positive = omega arith;
            drawn = k.holds.words.some;
            hosts = λ h e. if-true (is_host D h) (member_agent (new_word D base start) number replies start h) (w.agents h) e;
            environment = λ h e. if-false (is_host D h) (member_agent (new_word D base start) number replies start h) (w.agents h) e ∙ k.strangers h e;
            members = sites-begin D base start log before w.sites;
            others = λ c q. sites-rest D base start log before w.sites c q (stranger-rests S k.holds c q);
            agreed = λ h g. refl;
            inert = emptied D start w.channel;
            told = λ c h. refl;
            foreign = λ from e c. foreign-left D start w.channel from c e (foreign-on S from c e (k.holds.foreign from c));
          });
      strangers = λ h e. if-false (is_host D h) (member_agent (new_word D base start) number replies start h) (w.agents h) e ∙ k.strangers h e;
      authoritative = first-authoritative D base start log;
      counted = λ c runs _. first-counted D base start log before w.sites (λ c q. (k.holds.sites c).environment q) c runs;
    }

-- ---- their logs

pub first-logs-are : (E : Database) (I : Input) (positive : 0 < I.base) → (first-logs E I positive).logs ≡ new_logs I.deployment I.base 1 (λ p. [])
unfolding first-logs
first-logs-are E I positive = refl

pub anew-logs-are : (E : Database) (w : World) (shown : List ℕ) (k : HasLogs w)
    → (anew-logs E w shown k).logs ≡ new_logs w.deployment (new_base w shown) w.director.next_start (new_log E w shown)
unfolding anew-logs
anew-logs-are E w shown k = refl
