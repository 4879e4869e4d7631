-- How an epoch begins: all holds of transactions in the first world, once a recovery has worked, and after one that was stopped.
use Rattle.volt_wire.specs.declared.event.Event.TheVariants as event
use Rattle.cluster_model.specs.AgentState.{no_initiator}
use Rattle.cluster_model.specs.World.{first_initiating}
use Rattle.transaction_laws.proofs.Names.{Agent, AgentState, AllByRecursion, KnownReply, last_replies, AllBefore, Aligned, CallsOk, Covered, CoversIn, Initiating, Knows, Outcome, RepliesRise, Submissions, AnswerOk, AtLeast, Books, Bool, CallsHold, Database, Deployment, DisksHold, DisksShow, Done, Entry, Everywhere, Firm, HasLogs, HeardOk, HeardPart, Idle, In, InitiatingOk, Input, IsLayout, IsPart, IsSlot, LastReply, Leadership, LeadershipFits, List, LogState, LogsHold, Membership, None, Off, Option, PhaseOk, Shown, Shows, Site, SiteCalls, SiteState, Some, ToSiteOk, Top, Transactions, World, [], acked_in, acknowledged, agent-stopped, all-mono, allows, and_parts, anew-logs, anew-logs-are, ap, append-nil, arith, at_least-mark, best-chosen, best_of, cases_Bool, chosen, disk-shows, div-mul-add, div-mul-le_self, drop, drop_all, eq-eqb, eqb-same, eqb-true, false, false≢true, firm_in, first-logs, first-logs-are, first_leadership, first_world, get-none, greatest_done, greatest_replies, if-false, if-true, if◌then◌else◌, initiator, initiator-first, inl, inr, is_host, is_shown, is_slot_or_none, is_stopped, least, led_log, left-top, length, lesser, log_state, map, mark_of, may_recover, member_agent, member_site, names, nat_lt, nat_tests, new-above, new_agent, new_base, new_content, new_log, new_logs, new_word, no_site, none-and-some, not-both, onward-same, option_map, orders, other_copies, own_ack, part, part_of_slot, parts, prefix-refl, recovered, refl, same-some, shown_of, shows-slot, since, site-stopped, site_start, slice_index, slot_of, slots, slots-part, slots_of_part, some-here, start_from, starts_anew, stays_stopped, stopped_site, subst, suc, sym, term_in, term_of, true, unwrap_or, whole, world-shows, zero, ℕ, ◌++◌, ◌+◌, ◌/◌, ◌<◌, ◌==◌, ◌∙◌, ◌∷◌, ◌≡◌, ◌≤◌, ◌⊎◌}
use Rattle.transaction_laws.proofs.Kept.{Onto, aligned-later, answer-on, to_site-on, books-later, books-moved, keeps-same, known-on, waiting-on}
use Rattle.transaction_laws.proofs.Entries.{InLog, greatest-in-logs, replies-in-log, greatest-covered, greatest-done, recovered-ok, Recovered, aligned-recovered, aligned-again, recovered-even, AppliedInAll}
use Rattle.transaction_laws.proofs.Initiators.{in-stood}
use Rattle.transaction_laws.proofs.Runs.Choices.{choice-aligned, choice-calls}

-- ---- numbers

-- A partition has a slot.
part-slot : (D : Deployment) (p : ℕ) → nat_lt p (parts D) ≡ true → (c : ℕ) × (nat_lt c (slots D) ≡ true) × (part_of_slot D c ≡ p)
part-slot D p e =
    let n : p < slots D / (D.layout.k + 1) = grind (arith, nat_tests, e) in
    let w = div-mul-le_self (slots D) (D.layout.k + 1) in
    (slot_of D.layout.k p 0, grind (arith, nat_tests, n, w), div-mul-add p (D.layout.k + 1) 0 (omega arith))

-- There is a host.
host-there : (D : Deployment) → IsLayout D.layout.hosts D.layout.sites D.layout.k → is_host D 0 ≡ true
host-there D lay = grind (arith, nat_tests, lay.within.some_host)

-- the least of several positions isn't above the first one
least-first : (a : ℕ) (bs : List (Option ℕ)) (n : ℕ) → least (Some a) bs ≡ Some n → n ≤ a
least-first a [] n e = omega (arith, same-some e)
least-first a (b ∷ bs) n e = go (least b bs) e
  where
    go : (o : Option ℕ) → lesser (Some a) o ≡ Some n → n ≤ a
    go None q = absurd (cc)
    go (Some m) q = omega (arith, same-some q)

-- ---- what holds as an epoch begins

-- the history with which it begins: the initiator of the first word has heard of all, and all that is in the logs is over
abbrev pub new_transactions : Database → Deployment → ℕ → (ℕ → List Entry) → Submissions → Transactions
new_transactions E D base log A =
    record { heard = base; number = greatest_done E log (parts D); closed = log; agreed = None; decided = log; due = λ p t. []; submitted = A }

-- Each host's agent and each slot's site runs as a member of the first word, with its partition's log, in which all is over. Nothing is
-- under way between agents and sites.
record CallsBegin (E : Database) (S : LogState) (base start now : ℕ) (log : ℕ → List Entry) (replies : List LastReply) (A : Submissions) : Type 0 where
  positive : 0 < start
  some_host : is_host S.words.deployment 0 ≡ true
  logs : S.logs ≡ new_logs S.words.deployment base start log
  hosts : (h : ℕ) → is_host S.words.deployment h ≡ true
      → S.words.agents h ≡ member_agent (new_word S.words.deployment base start) (greatest_done E log (parts S.words.deployment) + 1) replies start h
  others : (h : ℕ) → is_host S.words.deployment h ≡ false → S.words.agents h ≡ new_agent 0
  members : (c : ℕ) → IsSlot S c
      → (x : SiteState) × (S.sites c ≡ member_site S.words.deployment c x (new_word S.words.deployment base start) (start_from S.words.deployment start c) (log (part S c)))
  orders : (h c : ℕ) → S.words.channel (Agent h) (Site c) ≡ []
  answers : (c h : ℕ) → S.words.channel (Site c) (Agent h) ≡ []
  over : (p : ℕ) → IsPart S p → Recovered E S.words.deployment now log p
  even : AppliedInAll S.words.deployment log
  -- each call stands once, and the replies that host 0 knows cover all ends
  calls : (p : ℕ) → IsPart S p → CallsOk A p (log p)
  rise : RepliesRise replies
  covered : (p m : ℕ) (o : Outcome) → IsPart S p → In (Done m o) (log p) → Covered replies o
  -- each of these replies is of a log
  sources : AllByRecursion (λ r. (p : ℕ) × IsPart S p × InLog A (log p) r) replies

module _ (E : Database) (S : LogState) (H : LogsHold S) (base start now : ℕ) (log : ℕ → List Entry) (replies : List LastReply) (A : Submissions)
    (k : CallsBegin E S base start now log replies A) where
  abbrev D : Deployment
  D = S.words.deployment

  abbrev W : Membership
  W = new_word D base start

  abbrev K : Transactions
  K = new_transactions E D base log A

  -- what is counted firm
  abbrev all_firm : Firm
  all_firm p = length (log p)

  -- ---- the history

  first-led : (p : ℕ) → S.logs.leadership p base ≡ Some (first_leadership log p)
  first-led p = ap (λ G. G.leadership p base) k.logs ∙ if-true (base == base) (Some (first_leadership log p)) None (eqb-same base)

  first-reach : (p : ℕ) → S.logs.reach p base ≡ length (log p)
  first-reach p = ap (λ G. G.reach p base) k.logs ∙ if-true (base == base) (length (log p)) 0 (eqb-same base)

  -- no other term was led
  one-led : (p t : ℕ) (g : Leadership) → S.logs.leadership p t ≡ Some g → (t ≡ base) × (first_leadership log p ≡ g)
  one-led p t g led = elim (cases_Bool (t == base)) [
    | inl e ↦ (eqb-true t base e, same-some (sym (if-true (t == base) (Some (first_leadership log p)) None e) ∙ there))
    | inr e ↦ absurd (none-and-some (if-false (t == base) (Some (first_leadership log p)) None e) there)
  ]
    where
      there : (if t == base then Some (first_leadership log p) else None) ≡ Some g
      there = ap (λ G. G.leadership p t) (sym k.logs) ∙ led

  whole-is : (p : ℕ) → whole S K base p ≡ log p
  whole-is p = ap (λ r. led_log r ++ []) (first-led p) ∙ append-nil (log p)

  since-none : (p : ℕ) → since K (whole S K base) p ≡ []
  since-none p = ap (drop (length (log p))) (whole-is p) ∙ drop_all (length (log p)) (log p) (omega arith)

  everywhere : (p : ℕ) → Everywhere S all_firm p base (length (log p))
  everywhere p = record { reach = omega (arith, first-reach p); firm = omega arith }

  -- the mark is on the disk of one of its slots
  top-begins : (p : ℕ) → IsPart S p → Top S p base 0
  top-begins p q =
      let r = part-slot D p q in
      record { slot = r.0; is_slot = r.1; part_is = r.2; all = rw (ap (λ s. s.contents) (k.members r.0 r.1).1) (inr (refl, omega arith), tt) }

  aligned-begins : Aligned E D now K (whole S K base)
  aligned-begins = record {
    formed = λ p q. rw (whole-is p) (k.over p q).formed;
    past = λ p q. rw (whole-is p) (k.over p q).past;
    prefix = λ p q. rw (whole-is p) (prefix-refl (log p));
    over = λ p q. (k.over p q).over;
    below = λ p q. (k.over p q).number;
    only = λ p q. rw (since-none p) tt;
    fresh = λ p q i j e. rw (since-none q) tt;
    ends = λ p q o i. absurd (subst (In (Done K.number o)) (since-none p) i);
    snapshot = λ p q e. absurd (none-and-some refl e);
    decided = λ p x q e. absurd (none-and-some refl e);
    agreed = λ x e. absurd (none-and-some refl e);
    even = k.even;
  }

  heard-part : (p : ℕ) → IsPart S p → HeardPart S all_firm K p
  heard-part p q = record {
    leadership = first_leadership log p;
    led = first-led p;
    inside = prefix-refl (log p);
    closed = everywhere p;
    decided = λ x e. absurd (none-and-some refl e);
    top = top-begins p q;
  }

  -- ---- agents

  word-term : term_of W ≡ base
  word-term = omega arith

  host-decided : (h : ℕ) → is_host D h ≡ true → (S.words.agents h).decided ≡ Some W
  host-decided h q = ap (λ a. a.decided) (k.hosts h q)

  -- host 0 initiates
  first-host : (h a : ℕ) → initiator W ≡ Some (h, a) → is_host D h ≡ true
  first-host h a e =
      let same : (0, start) ≡ (h, a) = same-some (sym (initiator-first D base start k.some_host) ∙ e) in
      subst (λ x. is_host D x.0 ≡ true) same k.some_host

  heard-begins : HeardOk E S all_firm K now
  heard-begins = record {
    word = W;
    is_word = record {
      decided = (some-here (λ w. In w S.words.history.decided × (names w (S.words.agents 0).start ≡ true)) (S.words.agents 0).decided W (host-decided 0 k.some_host)
          (H.words.agents 0).decided).0;
      term_is = word-term;
    };
    by = λ h a e _. omega (arith, word-term, ap term_in (host-decided h (first-host h a e)));
    each = heard-part;
    aligned = aligned-begins;
    ends = λ o is. absurd (none-and-some refl is);
  }

  books-begin : Books E S all_firm K now
  books-begin = record {
    due = λ p t. inl refl;
    leaderships = λ p t g q led. let r = one-led p t g led in subst (LeadershipFits E S K now p t) r.1 (record {
      formed = rw (append-nil (log p)) (k.over p q).formed;
      past = rw (append-nil (log p)) (k.over p q).past;
      unheard = λ l. absurd (omega (arith, l, r.0));
      calls = rw (append-nil (log p)) (k.calls p q);
    });
    heard = heard-begins;
  }

  -- The agent of host 0 is an idle initiator.
  idle-begins : PhaseOk E S all_firm K (term_of W) (member_agent W (K.number + 1) replies start 0) Idle
  idle-begins = (sym word-term, refl, omega arith, λ p q. (refl, rw (since-none p) tt))

  -- one that isn't
  off-begins : (h : ℕ) (a : AgentState) → S.words.agents h ≡ a → (a.initiating.phase ≡ Off) × (a.initiating.work ≡ None) × (a.initiating.next ≡ 0)
      → InitiatingOk E S all_firm K h
  off-begins h a e off = inl (rw e off)

  initiating-begins : (h : ℕ) → InitiatingOk E S all_firm K h
  initiating-begins h = choice h (is_host D h) refl
    where
      choice : (h : ℕ) (b : Bool) → is_host D h ≡ b → InitiatingOk E S all_firm K h
      choice h false q = off-begins h (new_agent 0) (k.others h q) (refl, refl, refl)
      choice (suc h) true q = off-begins (suc h) (member_agent W (K.number + 1) replies start (suc h)) (k.hosts (suc h) q) (refl, refl, refl)
      choice zero true q =
          let e = k.hosts 0 q in
          inr (
            W,
            record {
              runs = let s = ap (λ a. a.start) e in let some = k.positive in omega (arith, s, some);
              has_decided = host-decided 0 q;
              initiates = initiator-first D base start q ∙ ap (λ s. Some (0, s)) (let s = ap (λ a. a.start) e in omega (arith, s));
            },
            subst (λ a. PhaseOk E S all_firm K (term_of W) a a.initiating.phase) (sym e) idle-begins,
          )

  -- The ends in the logs are firm.
  source-known : (r : LastReply) → (p : ℕ) × IsPart S p × InLog A (log p) r → KnownReply S all_firm A base None r
  source-known r (p, part, inl one) = inl (inl one)
  source-known r (p, part, inr (m, o, i, answers)) = inl (inr (record {
    part = p;
    is_part = part;
    number = m;
    outcome = o;
    answers = answers;
    stood = in-stood S all_firm p base (first_leadership log p) (first-led p) (log p) (prefix-refl (log p)) (everywhere p) (Done m o) i;
  }))

  -- What the agent of host 0 knows covers all.
  knows-begins : (h : ℕ) → Knows S all_firm K (S.words.agents h).initiating
  knows-begins h = choice h (is_host D h) refl
    where
      plain : (i : Initiating) → i.work ≡ None → RepliesRise i.replies → CoversIn S K i.replies i.phase → AllByRecursion (KnownReply S all_firm A base None) i.replies → (i.next ≡ 0 → i.replies ≡ [])
          → Knows S all_firm K i
      plain i work rise covers from first = record {
        rise = rise;
        covers = covers;
        decided = λ w o is decision. absurd (none-and-some work is);
        fresh = λ w works is none. absurd (none-and-some work is);
        from = subst (λ z. AllByRecursion (KnownReply S all_firm A base z) i.replies) (sym work) from;
        first = first;
        outcome = λ w o is decision. absurd (none-and-some work is);
      }

      choice : (h : ℕ) (b : Bool) → is_host D h ≡ b → Knows S all_firm K (S.words.agents h).initiating
      choice h false q = subst (λ a. Knows S all_firm K a.initiating) (sym (k.others h q)) (plain (new_agent 0).initiating refl tt tt tt (λ z. refl))
      choice (suc h) true q = subst (λ a. Knows S all_firm K a.initiating) (sym (k.hosts (suc h) q)) (plain no_initiator refl tt tt tt (λ z. refl))
      choice zero true q = subst (λ a. Knows S all_firm K a.initiating) (sym (k.hosts 0 q))
          (plain (first_initiating 0 (K.number + 1) replies) refl k.rise (λ p m o part i. k.covered p m o part (subst (In (Done m o)) (whole-is p) i))
          (all-mono _ _ source-known replies k.sources) (λ z. absurd (omega (arith, z))))

  waiting-begins : (h : ℕ) → (S.words.agents h).waiting ≡ []
  waiting-begins h = choice (is_host D h) refl
    where
      choice : (b : Bool) → is_host D h ≡ b → (S.words.agents h).waiting ≡ []
      choice true q = ap (λ a. a.waiting) (k.hosts h q)
      choice false q = ap (λ a. a.waiting) (k.others h q)

  -- ---- sites

  -- a slot's site
  abbrev site : (c : ℕ) → IsSlot S c → SiteState
  site c q = member_site D c (k.members c q).0 W (start_from D start c) (log (part S c))

  -- It has all its log on disk under the term's mark, and has counted it firm.
  least-begins : (c : ℕ) (q : IsSlot S c) (n : ℕ) → acknowledged D c (site c q) ≡ Some n → n ≤ length (log (part S c))
  least-begins c q n e =
      let own : own_ack (site c q) ≡ Some (length (log (part S c))) = if-true (base == term_of W) (Some (length (log (part S c)))) None (eq-eqb base (term_of W) (sym word-term)) in
      least-first (length (log (part S c))) (map (acked_in (site c q).acks) (other_copies D c (site c q)) ++ []) n
      (ap (λ a. least a (map (acked_in (site c q).acks) (other_copies D c (site c q)) ++ [])) (sym own) ∙ e)

  site-begins : (c : ℕ) → IsSlot S c → SiteCalls S K c
  site-begins c q =
      let e = (k.members c q).1 in
      record {
        waiting = rw (ap (λ s. s.waiting) e) tt;
        held = rw (ap (λ s. s.held) e) tt;
        orders = λ w j v l h a i. ap (orders (site_start S c) (term_of w)) (k.orders h c);
        counts = λ l. record {
          counted = λ n r. subst (λ s. n ≤ s.firm) (sym e) (least-begins c q n (ap (acknowledged D c) (sym e) ∙ r));
          joined = λ g led. rw (ap (λ s. s.joiners) e) tt;
        };
        unrepaired = λ r. ap (λ s. s.joiners) e;
      }

  -- All of it.
  calls-begin : CallsHold E S all_firm false K now
  calls-begin = record {
    books = books-begin;
    to_sites = λ h c q. rw (k.orders h c) tt;
    to_agents = λ c h q. rw (k.answers c h) tt;
    environment = λ c h out. k.answers c h;
    sites = λ c q up. site-begins c q;
    agents = λ h. record { initiating = initiating-begins h; knows = knows-begins h; waiting = rw (waiting-begins h) tt };
    halts = λ e. absurd (false≢true e);
  }

-- ---- the first epoch

-- a partition whose log is empty
over-first : (E : Database) (D : Deployment) (now p : ℕ) → nat_lt p (parts D) ≡ true → Recovered E D now (λ p. []) p
over-first E D now p q = record { formed = tt; past = omega arith; over = refl; number = greatest-done E (λ p. []) (parts D) p (grind (arith, nat_tests, q)) }

-- In the first world.
pub first-calls : (E : Database) (I : Input) (positive : 0 < I.base) → IsLayout I.deployment.layout.hosts I.deployment.layout.sites I.deployment.layout.k → (now : ℕ) (A : Submissions)
    → let k = first-logs E I positive in
    CallsHold E (log_state (first_world E I) k.owner k.history k.logs) (firm_in (first_world E I)) false (new_transactions E I.deployment I.base (λ p. []) A) now
first-calls E I positive lay now A =
    let D = I.deployment in
    let w = first_world E I in
    let k = first-logs E I positive in
    let a = member_agent (new_word D I.base 1) (greatest_done E (λ p. []) (parts D) + 1) [] 1 in
    calls-begin E (log_state w k.owner k.history k.logs) k.holds I.base 1 now (λ p. []) [] A (record {
      positive = omega arith;
      some_host = host-there D lay;
      logs = first-logs-are E I positive;
      hosts = λ h e. if-true (is_host D h) (a h) (new_agent 0) e;
      others = λ h e. if-false (is_host D h) (a h) (new_agent 0) e;
      members = λ c q. (no_site, if-true (nat_lt c (slots D)) (member_site D c no_site (new_word D I.base 1) (start_from D 1 c) []) no_site q);
      orders = λ h c. refl;
      answers = λ c h. refl;
      over = over-first E D now;
      even = λ p q m x o part other point i. i;
      calls = λ p q. record { once = tt; asked = tt };
      rise = tt;
      covered = λ p m o q i. absurd i;
      sources = tt;
    })

-- ---- what disks may show

-- Whatever contents the disks show, the chosen logs are aligned, and each call stands once in each.
pub any-aligned : (E : Database) (S : LogState) (F : Firm) (halted : Bool) (K : Transactions) (now stamp : ℕ) → LogsHold S → DisksHold S F halted → CallsHold E S F halted K now
    → now ≤ stamp → (shown : ℕ → Shown) → Shows S shown → (L : Transactions) × Aligned E S.words.deployment stamp L (chosen S.words.deployment shown)
    × ((p : ℕ) → IsPart S p → CallsOk K.submitted p (chosen S.words.deployment shown p))
any-aligned E S F false K now stamp H disks k l shown shows = (
  K,
  choice-aligned E S F K stamp H disks (books-later E S F K now stamp l k.books) shown shows,
  choice-calls E S F K now H disks k.books shown shows,
)
any-aligned E S F true K now stamp H disks k l shown shows =
    let r = k.halts refl shown shows in
    (r.0, aligned-later E S.words.deployment now stamp l r.0 (chosen S.words.deployment shown) r.1, r.2)

-- ---- a recovery that works

-- It begins an epoch with what was chosen and closed.
pub anew-calls : (E : Database) (w : World) (shown : List ℕ) (k : HasLogs w) (F : Firm) (halted : Bool) → DisksHold (log_state w k.owner k.history k.logs) F halted
    → (K : Transactions) (now stamp : ℕ) → CallsHold E (log_state w k.owner k.history k.logs) F halted K now → now ≤ stamp → AllBefore K.submitted (stamp + 1)
    → is_shown w shown None ≡ true
    → IsLayout w.deployment.layout.hosts w.deployment.layout.sites w.deployment.layout.k
    → let a = anew-logs E w shown k in
    CallsHold E (log_state (starts_anew E w shown) a.owner a.history a.logs) (firm_in (starts_anew E w shown)) false
    (new_transactions E w.deployment (new_base w shown) (new_log E w shown) K.submitted) stamp
anew-calls E w shown k F halted disks K now stamp calls l past e lay =
    let D = w.deployment in
    let S = log_state w k.owner k.history k.logs in
    let v = starts_anew E w shown in
    let start = w.director.next_start in
    let base = new_base w shown in
    let log = new_log E w shown in
    let word = new_word D base start in
    let a = anew-logs E w shown k in
    let replies = greatest_replies E log (parts D) in
    let agent = member_agent word (greatest_done E log (parts D) + 1) replies start in
    let chose = any-aligned E S F halted K now stamp k.holds disks calls l (shown_of w shown) (world-shows w k.owner k.history k.logs F halted disks shown None e refl) in
    let ok = recovered-ok E D stamp chose.0 (shown_of w shown) chose.1 K.submitted chose.2 in
    let known = greatest-covered E K.submitted (stamp + 1) past log (parts D) (λ p l. ok p (grind (arith, nat_tests, l))) in
    calls-begin E (log_state v a.owner a.history a.logs) a.holds base start stamp log replies K.submitted (record {
      positive = k.holds.words.some;
      some_host = host-there D lay;
      logs = anew-logs-are E w shown k;
      hosts = λ h q. if-true (is_host D h) (agent h) (w.agents h) q;
      others = λ h q. if-false (is_host D h) (agent h) (w.agents h) q ∙ k.strangers h q;
      members = λ c q. (
        stopped_site (w.sites c),
        if-true (nat_lt c (slots D)) (member_site D c (stopped_site (w.sites c)) word (start_from D start c) (log (part_of_slot D c))) (w.sites c) q,
      );
      orders = λ h c. refl;
      answers = λ c h. refl;
      over = aligned-recovered E D stamp chose.0 (shown_of w shown) chose.1;
      even = recovered-even E D stamp chose.0 (shown_of w shown) chose.1;
      calls = ok;
      rise = known.0;
      covered = λ p m o part i. known.1 p m o (grind (arith, nat_tests, part)) i;
      sources = greatest-in-logs E (λ r. (p : ℕ) × (nat_lt p (parts D) ≡ true) × InLog K.submitted (log p) r) log (parts D)
          (λ p l. let part : nat_lt p (parts D) ≡ true = grind (arith, nat_tests, l) in
          all-mono _ _ (λ r i. (p, part, i)) (last_replies E p (log p)) (replies-in-log E K.submitted p (log p) (ok p part).asked));
    })

-- ---- a recovery that is stopped

module _ (E : Database) (w : World) (k : HasLogs w) (F : Firm) (halted : Bool) (disks : DisksHold (log_state w k.owner k.history k.logs) F halted) (K : Transactions) (now stamp : ℕ)
    (calls : CallsHold E (log_state w k.owner k.history k.logs) F halted K now) (later : now ≤ stamp) (shown : List ℕ) (f : ℕ) (owner : ℕ → ℕ) where
  -- before it, and once it has stopped at this disk, as that was read or written
  abbrev old : LogState
  old = log_state w k.owner k.history k.logs

  abbrev left : Bool → LogState
  left b = log_state (stays_stopped E w shown (f, b)) owner k.history k.logs

  -- ---- what the disks may show from then on

  -- what may be chosen before it
  chosen-before : (s : ℕ → Shown) → Shows old s → (L : Transactions) × Aligned E w.deployment stamp L (chosen w.deployment s)
      × ((p : ℕ) → IsPart old p → CallsOk K.submitted p (chosen w.deployment s p))
  chosen-before = any-aligned E old F halted K now stamp k.holds disks calls later

  -- Where it failed as it read, they show nothing that they didn't show before.
  read-shows : is_shown w shown (Some (f, false)) ≡ true → (s : ℕ → Shown) → Shows (left false) s → Shows old s
  read-shows e s h = record { one = λ c q. read c (nat_lt c f) refl (h.one c q); none = h.none }
    where
      read : (c : ℕ) (x : Bool) → nat_lt c f ≡ x → In (s c) (if x then shown_of w shown c ∷ [] else (w.sites c).contents) → In (s c) (w.sites c).contents
      read c false t i = i
      read c true t (inl i) = subst (λ y. In y (w.sites c).contents) i (disk-shows w shown (Some (f, false)) e c (grind (arith, nat_tests, t)))
      read c true t (inr i) = absurd i

  -- Where it failed as it wrote, each shows what it showed then or its new base.
  module _ (e : is_shown w shown (Some (f, true)) ≡ true) (s : ℕ → Shown) (h : Shows (left true) s) where
    either : (c : ℕ) → (s c ≡ shown_of w shown c) ⊎ (IsSlot old c × (s c ≡ new_content E w shown c))
    either c = slot (nat_lt c (slots w.deployment)) refl
      where
        written : (x y : Bool) → In (s c) (if x then new_content E w shown c ∷ [] else if y then shown_of w shown c ∷ new_content E w shown c ∷ [] else shown_of w shown c ∷ [])
            → (s c ≡ shown_of w shown c) ⊎ (s c ≡ new_content E w shown c)
        written true y (inl i) = inr (sym i)
        written true y (inr i) = absurd i
        written false true (inl i) = inl (sym i)
        written false true (inr (inl i)) = inr (sym i)
        written false true (inr (inr i)) = absurd i
        written false false (inl i) = inl (sym i)
        written false false (inr i) = absurd i

        slot : (x : Bool) → nat_lt c (slots w.deployment) ≡ x → (s c ≡ shown_of w shown c) ⊎ (IsSlot old c × (s c ≡ new_content E w shown c))
        slot true q = elim (written (nat_lt c f) (c == f) (h.one c q)) [ inl i ↦ inl i | inr i ↦ inr (q, i) ]
        slot false q =
            let out : IsSlot old c → ⊥ = λ y. not-both (nat_lt c (slots w.deployment)) y q in
            inl (h.none c out ∙ sym (get-none (w.sites c).contents (slice_index shown c) (disks.environment c out)))

    -- of several slots, all or not
    all-or-one : (cs : List ℕ) → (map s cs ≡ map (shown_of w shown) cs) ⊎ ((c : ℕ) × In c cs × (s c ≡ new_content E w shown c))
    all-or-one [] = inl refl
    all-or-one (c ∷ cs) = elim (either c) [
      | inr n ↦ inr (c, inl refl, n.1)
      | inl o ↦ elim (all-or-one cs) [ inr n ↦ inr (n.0, inr n.1, n.2) | inl os ↦ inl (rw (o, os) refl) ]
    ]

    -- A new base is better than all that was shown.
    new-chosen : (p c : ℕ) → part_of_slot w.deployment c ≡ p → s c ≡ new_content E w shown c → chosen w.deployment s p ≡ new_log E w shown p
    new-chosen p c e new =
        let r = best-chosen w.deployment s c p (new_base w shown) 0 e (subst (AtLeast (new_base w shown) 0) (sym new) (inr (refl, omega arith))) in
        elim (either r.slot) [
          | inl o ↦
              let q = shows-slot (left true) s h r.slot r.content r.shows in
              let a = new-above E w k F halted disks shown f owner k.history r.slot q in
              let b = at_least-mark (new_base w shown) 0 (Some r.content) r.good in
              let same = ap mark_of (sym o ∙ r.shows) in
              absurd (omega (arith, a, b, same))
          | inr n ↦
              let same = same-some (sym r.shows ∙ n.1) in
              r.log_is ∙ ap (λ x. x.log) same ∙ ap (new_log E w shown) r.part_is
        ]

    -- So each log is that which was chosen, or what the recovery made of it.
    written-chosen : (p : ℕ) → (chosen w.deployment s p ≡ chosen w.deployment (shown_of w shown) p) ⊎ (chosen w.deployment s p ≡ recovered E w.deployment (shown_of w shown) p)
    written-chosen p = elim (all-or-one (slots_of_part w.deployment.layout.k p)) [
      | inl o ↦ inl (ap (λ xs. unwrap_or (option_map (λ c. c.log) (best_of xs)) []) o)
      | inr n ↦ inr (new-chosen p n.0 (slots-part w.deployment.layout.k p n.0 n.1) n.2)
    ]

  -- Either way all that may be chosen is aligned.
  chosen-after : (b : Bool) → is_shown w shown (Some (f, b)) ≡ true → (s : ℕ → Shown) → Shows (left b) s → (L : Transactions) × Aligned E w.deployment stamp L (chosen w.deployment s)
      × ((p : ℕ) → IsPart old p → CallsOk K.submitted p (chosen w.deployment s p))
  chosen-after false e s h = chosen-before s (read-shows e s h)
  chosen-after true e s h =
      let r = chosen-before (shown_of w shown) (world-shows w k.owner k.history k.logs F halted disks shown (Some (f, true)) e refl) in
      let a = aligned-again E w.deployment stamp r.0 (shown_of w shown) r.1 (chosen w.deployment s) (λ p q. written-chosen e s h p) in
      let ok = recovered-ok E w.deployment stamp r.0 (shown_of w shown) r.1 K.submitted r.2 in (
        a.0,
        a.1,
        λ p q. elim (written-chosen e s h p) [
          | inl same ↦ subst (CallsOk K.submitted p) (sym same) (r.2 p q)
          | inr new ↦ subst (CallsOk K.submitted p) (sym new) (ok p q)
        ],
      )

  -- ---- all else stays

  module _ (b : Bool) (e : is_shown w shown (Some (f, b)) ≡ true) (stopped : is_stopped w ≡ true) where
    onto : Onto old (left b) F F
    onto = record {
      deployment = refl;
      decided = λ v i. i;
      onward = onward-same k.logs;
      firm = λ p. omega arith;
      tops = left-top E w k F halted disks shown f owner k.history b e;
    }

    books-left : Books E (left b) F K stamp
    books-left = books-moved E old (left b) F F K now stamp K.due later k.holds (λ p t n. absurd (none-and-some n.none n.led)) onto (λ p t q. inl (refl, refl)) calls.books
        (keeps-same old (left b) K.heard refl) (λ p t q. refl)

    -- no agent runs, so none is an initiator
    initiating-left : (h : ℕ) → InitiatingOk E old F K h → InitiatingOk E (left b) F K h
    initiating-left h (inl off) = inl off
    initiating-left h (inr (v, i, phase)) =
        let down = agent-stopped E w k F halted disks shown f owner k.history stopped h in
        absurd (omega (arith, i.runs, down))

    calls-left : CallsHold E (left b) F true K stamp
    calls-left = record {
      books = books-left;
      to_sites = λ h c q. all-mono (ToSiteOk old h c) (ToSiteOk (left b) h c) (to_site-on old (left b) F F onto h c) (w.channel (Agent h) (Site c)) (calls.to_sites h c q);
      to_agents = λ c h q. all-mono (AnswerOk E old F K (part old c)) (AnswerOk E (left b) F K (part old c))
          (answer-on E old (left b) F F onto K K (omega arith) (part old c)) (w.channel (Site c) (Agent h)) (calls.to_agents c h q);
      environment = calls.environment;
      sites = λ c q up. let down = site-stopped E w k F halted disks shown f owner k.history stopped c in absurd (omega (arith, up, down));
      agents = λ h. record {
        initiating = initiating-left h (calls.agents h).initiating;
        knows = let i = (calls.agents h).knows in record {
          rise = i.rise;
          covers = i.covers;
          decided = i.decided;
          fresh = i.fresh;
          from = all-mono _ _ (known-on old (left b) F F onto K.submitted K.heard (w.agents h).initiating.work) (w.agents h).initiating.replies i.from;
          first = i.first;
          outcome = i.outcome;
        };
        waiting = all-mono _ _ (waiting-on E old (left b) F F onto K K (omega arith)) (w.agents h).waiting (calls.agents h).waiting;
      };
      halts = λ _. chosen-after b e;
    }

-- One that may happen, with what the disks may show.
pub stopped-calls : (E : Database) (w : World) (k : HasLogs w) (F : Firm) (halted : Bool) → DisksHold (log_state w k.owner k.history k.logs) F halted
    → (K : Transactions) (now stamp : ℕ) → CallsHold E (log_state w k.owner k.history k.logs) F halted K now → now ≤ stamp
    → (shown : List ℕ) (failed : ℕ × Bool) → may_recover w ≡ true → allows w event.Recover (DisksShow shown (Some failed)) ≡ true
    → (v : HasLogs (stays_stopped E w shown failed)) → v.history ≡ k.history → v.logs ≡ k.logs
    → CallsHold E (log_state (stays_stopped E w shown failed) v.owner v.history v.logs) F true K stamp
stopped-calls E w k F halted disks K now stamp calls l shown failed may allowed v history logs =
    let p = and_parts (is_shown w shown (Some failed)) (is_slot_or_none w.deployment (Some failed)) allowed in
    subst (λ H. CallsHold E (log_state (stays_stopped E w shown failed) v.owner H v.logs) F true K stamp) (sym history)
    (subst (λ G. CallsHold E (log_state (stays_stopped E w shown failed) v.owner k.history G) F true K stamp) (sym logs)
    (calls-left E w k F halted disks K now stamp calls l shown failed.0 v.owner failed.1 p.0 (and_parts w.director.recovery_asked (is_stopped w) may).1))
