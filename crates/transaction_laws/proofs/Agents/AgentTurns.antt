-- Turns of agents: what holds of transactions, holds after them.
use Rattle.volt_wire.specs.declared.message.Msg.TheVariants as msg
use Rattle.word_laws.specs.Histories as word
use Rattle.cluster_model.specs.Agent.{word_to}
use Rattle.cluster_model.specs.Words.{is_client}
use Rattle.call_laws.proofs.Agents.{decides_word-asks, handler-asks}
use Rattle.transaction_laws.proofs.Names.{Actor, Agent, Client, Director, KnownReply, Replied, Scanner, is_host, is_none, open_letter, start_of, AgentAsks, AllBefore, AskedIn, CallsOk, CoversIn, Initiating, Knows, RepliesRise, chosen, AgentCalls, AgentHandler, AgentState, AllByRecursion, AnswerOk, Books, Bool, CallsHold, Closes, Database, Deployment, Firm, Grows, Hears, History, Idle, In, Initiates, IsRequest, IsSlot, JobOk, Letter, List, LogState, LogsHold, MayJoin, MemberOk, Membership, None, Off, Option, Phase, PhaseOk, Rest, Site, SiteCalls, Some, ToSiteOk, Transactions, Turn, WaitingAnswer, WordOf, WordsTurn, Works, [], after-after, after-handler, agent-there, agent_handler, agent_turned, all-append, all-if, all-mono, and_from, and_left, and_right, ap, append-nil, arith, asked_again, asks_again, asks_again-requests, becomes, cases_Bool, cases_eq, concludes, concludes-is, concludes-not, decided_sends, decides-state, decides_word, eqb-same, false, flat-none, flat_map-append, for-false, handler-grows, if-none, if◌then◌else◌, initiates, initiates-is, initiator, inl, inr, is_down, is_for, is_initiator_in, is_member, is_other_word, is_slot_of, is_word, leader, letter_to, list_all, may_decide, members, new_agent, none-and-some, not, not-both, not_from_true, order_of, orders, part, refl, request-cases, rest, same, same-some, same-word, same_word, same_word-refl, says, sent-both, set-both, set-there, site_start, start_of_slot, subst, sym, tells, tells-state, term_in, term_of, then-inert, took, took-all, true, with_phase, ℕ, ◌&&◌, ◌++◌, ◌<◌, ◌==◌, ◌||◌, ◌∙◌, ◌∷◌, ◌≡◌, ◌≤◌, ◌⊎◌, ◌▸◌}
use Rattle.transaction_laws.proofs.Kept.{AllTell, Brings, Ending, MayTell, Onto, NoOrder, Tells, WaitsTold, SentOrder, InitiatorGoes, OffGoes, answer-on, to_site-on, onto-worded, shows-worded, books-moved, knows-moved, phase-moved, waiting-on, KeepsWords, onto-same}
use Rattle.transaction_laws.proofs.Initiators.{LaidOut, one-initiator, has-decided, before-below, stays-initiator, decides-heard}
use Rattle.transaction_laws.proofs.Agents.AgentHandlers.{no-orders, handler-initiates, handler-off, phase-kept}

-- ---- messages under way to an agent

-- all of them, or without the first one from this actor, which it takes
abbrev pub left : (Actor → Actor → List Letter) → Option Actor → ℕ → Actor → Actor → List Letter
left channel None n = channel
left channel (Some from) n = took channel from (Agent n)

abbrev pub base : LogState → Option Actor → ℕ → LogState
base S o n = record S { words = record S.words { channel = left S.words.channel o n } }

left-sites : (channel : Actor → Actor → List Letter) (o : Option Actor) (n h c : ℕ) → left channel o n (Agent h) (Site c) ≡ channel (Agent h) (Site c)
left-sites channel None n h c = refl
left-sites channel (Some from) n h c = refl

left-all : (P : Letter → Type 0) (channel : Actor → Actor → List Letter) (o : Option Actor) (n : ℕ) (a b : Actor) → AllByRecursion P (channel a b) → AllByRecursion P (left channel o n a b)
left-all P channel None n a b k = k
left-all P channel (Some from) n a b k = took-all P channel from (Agent n) a b k

left-none : (channel : Actor → Actor → List Letter) (o : Option Actor) (n : ℕ) (a b : Actor) → channel a b ≡ [] → left channel o n a b ≡ []
left-none channel None n a b e = e
left-none channel (Some from) n a b e = choice (same (Agent n) b && same from a)
  where
    choice : (c : Bool) → (if c then rest (channel a b) else channel a b) ≡ []
    choice true = ap rest e
    choice false = e

-- ---- what an agent is after its turn

-- as an initiator, or none
pub record Mine (E : Database) (S : LogState) (F : Firm) (L : Transactions) (n : ℕ) (a : AgentState) : Type 0 where
  pub initiating :
      ((a.initiating.phase ≡ Off) × (a.initiating.work ≡ None) × (a.initiating.next ≡ 0))
      ⊎ ((w : Membership) × (0 < a.start) × (a.decided ≡ Some w) × (initiator w ≡ Some (n, a.start)) × PhaseOk E S F L (term_of w) a a.initiating.phase)
  pub knows : Knows S F L a.initiating
  pub waiting : AllByRecursion (WaitingAnswer E S F L) a.waiting

-- One that isn't an initiator knows of no call that was applied, and need not.
pub knows-off : (S : LogState) (F : Firm) (L : Transactions) (i : Initiating) → i.phase ≡ Off → i.work ≡ None → i.replies ≡ [] → Knows S F L i
knows-off S F L i phase work none = record {
  rise = subst RepliesRise (sym none) tt;
  covers = subst (CoversIn S L i.replies) (sym phase) tt;
  decided = λ w o is decision. absurd (none-and-some work is);
  fresh = λ w works is none. absurd (none-and-some work is);
  from = subst (AllByRecursion (KnownReply S F L.submitted L.heard i.work)) (sym none) tt;
  first = λ _. none;
  outcome = λ w o is decision. absurd (none-and-some work is);
}

-- one whose start, word and initiator's part are as they were
pub mine-same : (E : Database) (S : LogState) (F : Firm) (K : Transactions) (n : ℕ) → AgentCalls E S F K n → (b : AgentState) → b.start ≡ (S.words.agents n).start
    → b.decided ≡ (S.words.agents n).decided → b.initiating ≡ (S.words.agents n).initiating → AllByRecursion (WaitingAnswer E S F K) b.waiting → Mine E S F K n b
mine-same E S F K n k b start word part waits = let a = S.words.agents n in record {
  initiating = elim k.initiating [
    | inl q ↦ inl (ap (λ x. x.phase) part ∙ q.0, ap (λ x. x.work) part ∙ q.1, ap (λ x. x.next) part ∙ q.2)
    | inr q ↦ inr (
      q.0,
      rw start q.1.runs,
      word ∙ q.1.has_decided,
      rw start q.1.initiates,
      subst (λ i. PhaseOk E S F K (term_of q.0) b i.phase) (sym part) (phase-kept E S F K (term_of q.0) a b a.initiating.phase (ap (λ i. i.work) part) (ap (λ i. i.next) part) q.2),
    )
  ];
  knows = subst (Knows S F K) (sym part) k.knows;
  waiting = waits;
}

module _ (E : Database) (F : Firm) (halted : Bool) (stamp : ℕ) (S : LogState) (H : LogsHold S) (K : Transactions) (C : CallsHold E S F halted K stamp)
    (o : Option Actor) (n : ℕ) (t : Turn AgentState) (G : History) (grows : Grows S.words.history G) where
  -- the state after it
  abbrev T : LogState
  T = agent_turned (base S o n) n t.state t.sends G

  -- What is due, once the agent has sent this.
  abbrev DueThen : Transactions → ℕ → Type 0
  DueThen L c = (v : Membership) → (S.sites c).joining ≡ None → (S.sites c).view ≡ Some v → leader S.words.deployment v (part S c) ≡ Some c
      → (h a : ℕ) → initiator v ≡ Some (h, a) → orders (site_start S c) (term_of v) (T.words.channel (Agent h) (Site c)) ≡ L.due (part S c) (term_of v)

  onto : Onto S T F F
  onto = onto-worded S T.words.agents T.words.channel G grows.decided F

  -- ---- what others have, and what is under way

  module _ (L : Transactions) (B : Books E S F L stamp) (heard : K.heard ≤ L.heard) where
    phase-then : (u : ℕ) (a : AgentState) (x : Phase) → PhaseOk E S F L u a x → PhaseOk E T F L u a x
    phase-then = phase-moved E S T F F L stamp stamp L.due (omega arith) H (λ p t b. absurd (none-and-some b.none b.led)) onto (λ p t q. inl (refl, refl)) B

    knows-then : (i : Initiating) → Knows S F L i → Knows T F L i
    knows-then = knows-moved E S T F F L stamp stamp L.due (omega arith) H (λ p t b. absurd (none-and-some b.none b.led)) onto (λ p t q. inl (refl, refl)) B

    to_sites-then : ((c : ℕ) → IsSlot S c → AllByRecursion (ToSiteOk S n c) (t.sends (Site c))) → (h c : ℕ) → IsSlot S c → AllByRecursion (ToSiteOk T h c) (T.words.channel (Agent h) (Site c))
    to_sites-then letters h c slot = sent-both (AllByRecursion (ToSiteOk T h c)) (left S.words.channel o n) n t.sends h (Site c)
        (λ e. all-append (ToSiteOk T h c) (left S.words.channel o n (Agent h) (Site c)) (t.sends (Site c)) was
        (subst (λ z. AllByRecursion (ToSiteOk T z c) (t.sends (Site c))) e (all-mono (ToSiteOk S n c) (ToSiteOk T n c) (to_site-on S T F F onto n c) (t.sends (Site c)) (letters c slot))))
        (λ d. was)
      where
        was : AllByRecursion (ToSiteOk T h c) (left S.words.channel o n (Agent h) (Site c))
        was = left-all (ToSiteOk T h c) S.words.channel o n (Agent h) (Site c)
            (all-mono (ToSiteOk S h c) (ToSiteOk T h c) (to_site-on S T F F onto h c) (S.words.channel (Agent h) (Site c)) (C.to_sites h c slot))

    to_agents-then : (c h : ℕ) → IsSlot S c → AllByRecursion (AnswerOk E T F L (part S c)) (T.words.channel (Site c) (Agent h))
    to_agents-then c h slot = left-all (AnswerOk E T F L (part S c)) S.words.channel o n (Site c) (Agent h)
        (all-mono (AnswerOk E S F K (part S c)) (AnswerOk E T F L (part S c)) (answer-on E S T F F onto K L heard (part S c)) (S.words.channel (Site c) (Agent h)) (C.to_agents c h slot))

    site-then : (c : ℕ) → SiteCalls S K c → DueThen L c → SiteCalls T L c
    site-then c k due = record {
      waiting = k.waiting;
      held = k.held;
      orders = due;
      counts = λ l. let r = k.counts l in record { counted = r.counted; joined = r.joined };
      unrepaired = k.unrepaired;
    }

    -- an agent that is as far as this, and the agent itself and another one
    agent-then : (h : ℕ) (a : AgentState) → T.words.agents h ≡ a → Mine E S F L h a → AgentCalls E T F L h
    agent-then h a here k = record {
      initiating = elim k.initiating [
        | inl q ↦ inl (rw here q)
        | inr q ↦ inr (
          q.0,
          record { runs = rw here q.1; has_decided = rw here q.2; initiates = rw here q.3 },
          subst (λ a. PhaseOk E T F L (term_of q.0) a a.initiating.phase) (sym here) (phase-then (term_of q.0) a a.initiating.phase q.4),
        )
      ];
      knows = subst (λ a. Knows T F L a.initiating) (sym here) (knows-then a.initiating k.knows);
      waiting = subst (λ a. AllByRecursion (WaitingAnswer E T F L) a.waiting) (sym here) (all-mono _ _ (waiting-on E S T F F onto L L (omega arith)) a.waiting k.waiting);
    }

    mine-then : Mine E S F L n t.state → AgentCalls E T F L n
    mine-then = agent-then n t.state (agent-there (base S o n).words n t.state t.sends G)

    other-then : (h : ℕ) → (h ≡ n → ⊥)
        → ((w : Membership) → Initiates S h w → PhaseOk E S F K (term_of w) (S.words.agents h) (S.words.agents h).initiating.phase
        → PhaseOk E S F L (term_of w) (S.words.agents h) (S.words.agents h).initiating.phase) → Knows S F L (S.words.agents h).initiating → AgentCalls E T F L h
    other-then h d still knows = let k = C.agents h in agent-then h (S.words.agents h) (set-there S.words.agents n t.state h d) (record {
      initiating = elim k.initiating [ inl q ↦ inl q | inr q ↦ inr (q.0, q.1.runs, q.1.has_decided, q.1.initiates, still q.0 q.1 q.2) ];
      knows = knows;
      waiting = all-mono _ _ (waiting-on E S S F F (onto-same S F) K L heard) (S.words.agents h).waiting k.waiting;
    })

  -- ---- the whole

  module _ (L : Transactions) (B : Books E S F L stamp) (heard : K.heard ≤ L.heard)
      (own : (w : Membership) (a : ℕ) → In w S.words.history.decided → initiator w ≡ Some (n, a) → 0 < a → t.state.start ≡ a
      → ((S.words.agents n).start ≡ a → L.heard ≤ term_in (S.words.agents n).decided) → L.heard ≤ term_in t.state.decided)
      (letters : (c : ℕ) → IsSlot S c → AllByRecursion (ToSiteOk S n c) (t.sends (Site c)))
      (due : (c : ℕ) → IsSlot S c → 0 < site_start S c → SiteCalls S K c → DueThen L c)
      (mine : Mine E S F L n t.state)
      (others : (h : ℕ) → (h ≡ n → ⊥) → (w : Membership) → Initiates S h w → PhaseOk E S F K (term_of w) (S.words.agents h) (S.words.agents h).initiating.phase
      → PhaseOk E S F L (term_of w) (S.words.agents h) (S.words.agents h).initiating.phase)
      (know : (h : ℕ) → (h ≡ n → ⊥) → Knows S F L (S.words.agents h).initiating) (submitted : L.submitted ≡ K.submitted) where
    calls-then : CallsHold E T F halted L stamp
    calls-then = record {
      books = books-moved E S T F F L stamp stamp L.due (omega arith) H (λ p t b. absurd (none-and-some b.none b.led)) onto (λ p t q. inl (refl, refl)) B by (λ p t q. refl);
      to_sites = to_sites-then L B heard letters;
      to_agents = to_agents-then L B heard;
      environment = λ c h out. left-none S.words.channel o n (Site c) (Agent h) (C.environment c h out);
      sites = λ c slot up. let k = C.sites c slot up in site-then L B heard c k (due c slot up k);
      agents = λ h. elim (cases_eq h n) [
        | inl e ↦ subst (AgentCalls E T F L) (sym e) (mine-then L B heard mine)
        | inr d ↦ other-then L B heard h d (others h d) (know h d)
      ];
      halts = λ e shown k. let r = C.halts e shown (shows-worded S T.words.agents T.words.channel G grows.decided shown k) in
          (r.0, r.1, λ p part. subst (λ A. CallsOk A p (chosen S.words.deployment shown p)) (sym submitted) (r.2 p part));
    }
      where
        by : KeepsWords S T L.heard
        by w h a d init some is before = set-both (λ z x. initiator w ≡ Some (z, a) → x.start ≡ a
            → ((S.words.agents z).start ≡ a → L.heard ≤ term_in (S.words.agents z).decided) → L.heard ≤ term_in x.decided)
            S.words.agents n t.state (λ init is before. own w a d init some is before) (λ z q init is before. before is) h init is before

-- ---- rounds and ends under way

orders-append : (start term : ℕ) (xs ys : List Letter) → orders start term (xs ++ ys) ≡ orders start term xs ++ orders start term ys
orders-append start term xs ys = flat_map-append (order_of start term) xs ys

no-order-letter : (S : LogState) (n c : ℕ) (l : Letter) → NoOrder l → ToSiteOk S n c l
no-order-letter S n c l k = elim l.body as (λ m. NoOrder (record l { body = m }) → ToSiteOk S n c (record l { body = m })) [
  | msg.Frag m round body ↦ λ k. absurd k
  | msg.Done m o ↦ λ k. absurd k
  | m ↦ λ k. tt
] k

-- an initiator's, and that they are of its term
sent-letter : (S : LogState) (n : ℕ) (w : Membership) (c : ℕ) (l : Letter) → SentOrder S n w c l → ToSiteOk S n c l
sent-letter S n w c l k = elim l.body as (λ m. SentOrder S n w c (record l { body = m }) → ToSiteOk S n c (record l { body = m })) [
  | msg.Frag m round body ↦ λ k. k.0
  | msg.Done m o ↦ λ k. k.0
  | m ↦ λ k. tt
] k

sent-elsewhere : (S : LogState) (n : ℕ) (w : Membership) (c start term : ℕ) → (term ≡ term_of w → ⊥) → (l : Letter) → SentOrder S n w c l → order_of start term l ≡ []
sent-elsewhere S n w c start term d l k = elim l.body as (λ m. SentOrder S n w c (record l { body = m }) → order_of start term (record l { body = m }) ≡ []) [
  | msg.Frag m round body ↦ λ k. rw (other k.1)
  | msg.Done m o ↦ λ k. rw (other k.1)
  | m ↦ λ k. if-none (is_for start term l)
] k
  where
    other : l.term ≡ term_of w → is_for start term l ≡ false
    other e = for-false start term l (λ a b. d (sym b ∙ e))

-- a site that runs as a member of this word
member-of : (S : LogState) → LogsHold S → (c : ℕ) → 0 < site_start S c → (v : Membership) → (S.sites c).joining ≡ None → (S.sites c).view ≡ Some v → MemberOk S c v
member-of S H c up v joins view = let m = (H.sites c).member up joins in subst (MemberOk S c) (same-some (sym m.1 ∙ view)) m.2

module _ (E : Database) (F : Firm) (halted : Bool) (stamp : ℕ) (S : LogState) (H : LogsHold S) (K : Transactions) (C : CallsHold E S F halted K stamp)
    (o : Option Actor) (n : ℕ) (t : Turn AgentState) (G : History) (grows : Grows S.words.history G) where
  -- ---- the turn of an initiator

  module _ (w : Membership) (i : Initiates S n w) (g : InitiatorGoes E S F K stamp n w (S.words.agents n) t) where
    abbrev L : Transactions
    L = g.after

    word-is : WordOf S (term_of w) w
    word-is = record { decided = has-decided S.words H.words n w i.has_decided; term_is = refl }

    -- What is due to the leader of its word is what it sends; elsewhere it is as it was.
    due-initiates : (c : ℕ) → IsSlot S c → 0 < site_start S c → SiteCalls S K c → DueThen E F halted stamp S H K C o n t G grows L c
    due-initiates c slot up k v joins view leads h a init = sent-both (λ ls. orders (site_start S c) (term_of v) ls ≡ L.due (part S c) (term_of v)) (left S.words.channel o n) n t.sends h (Site c)
        (λ e. subst (λ z. orders (site_start S c) (term_of v) (left S.words.channel o n (Agent z) (Site c) ++ t.sends (Site c)) ≡ L.due (part S c) (term_of v)) e
        (orders-append (site_start S c) (term_of v) (left S.words.channel o n (Agent n) (Site c)) (t.sends (Site c)) ∙ here e (cases_eq (term_of v) (term_of w))))
        (λ d. was h refl ∙ there d (cases_eq (term_of v) (term_of w)))
      where
        m : MemberOk S c v
        m = member-of S H c up v joins view

        same : term_of v ≡ term_of w → v ≡ w
        same e = same-word S H (term_of w) v w (record { decided = m.decided; term_is = e }) word-is

        was : (z : ℕ) → z ≡ h → orders (site_start S c) (term_of v) (left S.words.channel o n (Agent z) (Site c)) ≡ K.due (part S c) (term_of v)
        was z e = ap (orders (site_start S c) (term_of v)) (left-sites S.words.channel o n z c) ∙ k.orders v joins view leads z a (init ∙ ap (λ y. Some (y, a)) (sym e))

        here : n ≡ h → (term_of v ≡ term_of w) ⊎ (term_of v ≡ term_of w → ⊥)
            → orders (site_start S c) (term_of v) (left S.words.channel o n (Agent n) (Site c)) ++ orders (site_start S c) (term_of v) (t.sends (Site c)) ≡ L.due (part S c) (term_of v)
        here e (inl q) = ap (λ xs. xs ++ orders (site_start S c) (term_of v) (t.sends (Site c))) (was n e)
            ∙ subst (λ z. K.due (part S c) z ++ orders (site_start S c) z (t.sends (Site c)) ≡ L.due (part S c) z) (sym q)
            (sym (g.sends.due c (site_start S c) slot (subst (λ z. leader S.words.deployment z (part S c) ≡ Some c) (same q) leads)
            (subst (λ z. start_of_slot S.words.deployment z c ≡ Some (site_start S c)) (same q) m.start_is)))
        here e (inr d) = ap (λ xs. xs ++ orders (site_start S c) (term_of v) (t.sends (Site c))) (was n e)
            ∙ ap (λ xs. K.due (part S c) (term_of v) ++ xs) (flat-none (order_of (site_start S c) (term_of v)) (t.sends (Site c))
            (all-mono _ _ (sent-elsewhere S n w c (site_start S c) (term_of v) d) (t.sends (Site c)) (g.sends.letters c slot)))
            ∙ append-nil (K.due (part S c) (term_of v)) ∙ sym (g.sends.others (part S c) (term_of v) d)

        there : (n ≡ h → ⊥) → (term_of v ≡ term_of w) ⊎ (term_of v ≡ term_of w → ⊥) → K.due (part S c) (term_of v) ≡ L.due (part S c) (term_of v)
        there d (inl q) = absurd (d (ap (λ z. z.0) (same-some (sym i.initiates ∙ ap initiator (sym (same q)) ∙ init))))
        there d (inr q) = sym (g.sends.others (part S c) (term_of v) q)

    initiates-then : CallsHold E (agent_turned (base S o n) n t.state t.sends G) F halted L stamp
    initiates-then = calls-then E F halted stamp S H K C o n t G grows L g.books g.heard
        (λ v a d init some is before. subst (λ d. L.heard ≤ term_in d) (sym g.decided) (before (sym g.start ∙ is)))
        (λ c slot. all-mono _ _ (sent-letter S n w c) (t.sends (Site c)) (g.sends.letters c slot))
        due-initiates
        (record {
          initiating = inr (w, subst (λ s. 0 < s) (sym g.start) i.runs, g.decided ∙ i.has_decided, i.initiates ∙ ap (λ a. Some (n, a)) (sym g.start), g.phase);
          knows = g.knows;
          waiting = subst (AllByRecursion (WaitingAnswer E S F L)) (sym g.waiting)
              (all-mono _ _ (waiting-on E S S F F (onto-same S F) K L g.heard) (S.words.agents n).waiting (C.agents n).waiting);
        })
        (λ h d v k. absurd (d (one-initiator S H.words h n v w k i)))
        (λ h d. elim (C.agents h).initiating [
          | inl q ↦ knows-off S F L (S.words.agents h).initiating q.0 q.1 ((C.agents h).knows.first q.2)
          | inr q ↦ absurd (d (one-initiator S H.words h n q.0 w q.1 i))
        ])
        g.submitted

  -- ---- a turn in which no round and no end is sent, and after which all that is due is as it was

  due-inert : ((c : ℕ) → AllByRecursion NoOrder (t.sends (Site c))) → (c : ℕ) → IsSlot S c → 0 < site_start S c → SiteCalls S K c → DueThen E F halted stamp S H K C o n t G grows K c
  due-inert none c slot up k v joins view leads h a init = sent-both (λ ls. orders (site_start S c) (term_of v) ls ≡ K.due (part S c) (term_of v)) (left S.words.channel o n) n t.sends h (Site c)
      (λ e. orders-append (site_start S c) (term_of v) (left S.words.channel o n (Agent h) (Site c)) (t.sends (Site c))
      ∙ ap (λ xs. orders (site_start S c) (term_of v) (left S.words.channel o n (Agent h) (Site c)) ++ xs) (no-orders (site_start S c) (term_of v) (t.sends (Site c)) (none c))
      ∙ append-nil _ ∙ was)
      (λ d. was)
    where
      was : orders (site_start S c) (term_of v) (left S.words.channel o n (Agent h) (Site c)) ≡ K.due (part S c) (term_of v)
      was = ap (orders (site_start S c) (term_of v)) (left-sites S.words.channel o n h c) ∙ k.orders v joins view leads h a init

  pub inert-then : ((c : ℕ) → AllByRecursion NoOrder (t.sends (Site c))) → Mine E S F K n t.state
      → ((w : Membership) (a : ℕ) → In w S.words.history.decided → initiator w ≡ Some (n, a) → 0 < a → t.state.start ≡ a
      → ((S.words.agents n).start ≡ a → K.heard ≤ term_in (S.words.agents n).decided) → K.heard ≤ term_in t.state.decided)
      → CallsHold E (agent_turned (base S o n) n t.state t.sends G) F halted K stamp
  inert-then none mine own = calls-then E F halted stamp S H K C o n t G grows K C.books (omega arith) own
      (λ c slot. all-mono _ _ (no-order-letter S n c) (t.sends (Site c)) (none c)) (due-inert none) mine (λ h d w i k. k) (λ h d. (C.agents h).knows) refl

  -- the handler of one that isn't an initiator
  off-then : (M R : Ending) → OffGoes M R (S.words.agents n) t → CallsHold E (agent_turned (base S o n) n t.state t.sends G) F halted K stamp
  off-then M R g = inert-then g.sends (record { initiating = inl (g.phase, g.work, g.next); knows = knows-off S F K t.state.initiating g.phase g.work g.replies; waiting = waits g.kept }) (λ w a d init some is. own g.kept a some is)
    where
      waits : ((t.state ≡ new_agent 0) ⊎ ((t.state.start ≡ (S.words.agents n).start) × (t.state.decided ≡ (S.words.agents n).decided) × (t.state.waiting ≡ (S.words.agents n).waiting)))
          → AllByRecursion (WaitingAnswer E S F K) t.state.waiting
      waits (inl z) = rw z tt
      waits (inr k) = rw k.2 (C.agents n).waiting

      own : ((t.state ≡ new_agent 0) ⊎ ((t.state.start ≡ (S.words.agents n).start) × (t.state.decided ≡ (S.words.agents n).decided) × (t.state.waiting ≡ (S.words.agents n).waiting)))
          → (a : ℕ) → 0 < a → t.state.start ≡ a → ((S.words.agents n).start ≡ a → K.heard ≤ term_in (S.words.agents n).decided) → K.heard ≤ term_in t.state.decided
      own (inl z) a some is before = let e : t.state.start ≡ 0 = ap (λ x. x.start) z in absurd (omega (arith, some, is, e))
      own (inr k) a some is before = rw k.1 (before (sym k.0 ∙ is))

-- ---- what an agent says of a new word

tells-sites : (D : Deployment) (n : ℕ) (before : Option Membership) (a : AgentState) (c : ℕ) → (tells D n before a).sends (Site c) ≡ []
tells-sites D n before a c = choice (is_other_word before a.own) a.own
  where
    choice : (b : Bool) (own : Option Membership) → (if b then says D n a own else becomes a).sends (Site c) ≡ []
    choice true None = refl
    choice b own = refl

told-sites : (D : Deployment) (n : ℕ) (before : Option Membership) (t : Turn AgentState) (c : ℕ) → (t ▸ tells D n before).sends (Site c) ≡ t.sends (Site c)
told-sites D n before t c = ap (λ xs. t.sends (Site c) ++ xs) (tells-sites D n before t.state c) ∙ append-nil (t.sends (Site c))

-- and that it tells of no call
says-tell : (M R : Ending) (D : Deployment) (n : ℕ) (before : Option Membership) (a : AgentState) → AllTell M R (tells D n before a).sends
says-tell M R D n before a = choice (is_other_word before a.own) a.own
  where
    word : (w : Membership) (start : Option ℕ) → AllByRecursion (Tells M R) (word_to w start)
    word w None = tt
    word w (Some start) = (tt, tt)

    choice : (b : Bool) (own : Option Membership) → AllTell M R (if b then says D n a own else becomes a).sends
    choice true None b = tt
    choice true (Some w) (Agent g) = all-if (Tells M R) (is_member w n a.start && is_host D g && not (g == n)) (word_to w (start_of w g)) [] (word w (start_of w g)) tt
    choice true (Some w) b = tt
    choice false own b = tt

says-more : (M R : Ending) (D : Deployment) (n : ℕ) (before : Option Membership) (t : Turn AgentState) → AllTell M R t.sends → AllTell M R (t ▸ tells D n before).sends
says-more M R D n before t k b = all-append (Tells M R) (t.sends b) ((tells D n before t.state).sends b) (k b) (says-tell M R D n before t.state b)

initiates-tells : (E : Database) (S : LogState) (F : Firm) (K : Transactions) (stamp n : ℕ) (w : Membership) (a : AgentState) (t : Turn AgentState) (before : Option Membership)
    → InitiatorGoes E S F K stamp n w a t → InitiatorGoes E S F K stamp n w a (t ▸ tells S.words.deployment n before)
initiates-tells E S F K stamp n w a t before g = record {
  after = g.after;
  books = g.books;
  heard = g.heard;
  start = ap (λ x. x.start) same ∙ g.start;
  decided = ap (λ x. x.decided) same ∙ g.decided;
  waiting = ap (λ x. x.waiting) same ∙ g.waiting;
  phase = subst (λ x. PhaseOk E S F g.after (term_of w) x x.initiating.phase) (sym same) g.phase;
  submitted = g.submitted;
  knows = subst (λ x. Knows S F g.after x.initiating) (sym same) g.knows;
  sends = record {
    letters = λ c slot. subst (AllByRecursion (SentOrder S n w c)) (sym (told-sites S.words.deployment n before t c)) (g.sends.letters c slot);
    due = λ c b slot leads start. g.sends.due c b slot leads start ∙ ap (λ xs. K.due (part S c) (term_of w) ++ orders b (term_of w) xs) (sym (told-sites S.words.deployment n before t c));
    others = g.sends.others;
  };
}
  where
    same : (tells S.words.deployment n before t.state).state ≡ t.state
    same = tells-state S.words.deployment n before t.state

off-tells : (M R : Ending) (D : Deployment) (a : AgentState) (n : ℕ) (t : Turn AgentState) (before : Option Membership) → OffGoes M R a t → OffGoes M R a (t ▸ tells D n before)
off-tells M R D a n t before g = record {
  phase = ap (λ x. x.initiating.phase) same ∙ g.phase;
  work = ap (λ x. x.initiating.work) same ∙ g.work;
  next = ap (λ x. x.initiating.next) same ∙ g.next;
  replies = ap (λ x. x.initiating.replies) same ∙ g.replies;
  sends = λ c. subst (AllByRecursion NoOrder) (sym (told-sites D n before t c)) (g.sends c);
  tells = says-more M R D n before t g.tells;
  kept = elim g.kept [ inl z ↦ inl (same ∙ z) | inr k ↦ inr (ap (λ x. x.start) same ∙ k.0, ap (λ x. x.decided) same ∙ k.1, ap (λ x. x.waiting) same ∙ k.2) ];
}
  where
    same : (tells D n before t.state).state ≡ t.state
    same = tells-state D n before t.state

-- ---- turns that are one

-- A turn of the agent of host n from a state: what holds of words, sites and logs, and of transactions.
pub record CallsHandler (E : Database) (F : Firm) (R : Ending) (halted : Bool) (stamp : ℕ) (P : LogState) (K : Transactions) (n : ℕ) (t : Turn AgentState) : Type 0 where
  pub handler : AgentHandler P n t
  pub after : Transactions
  pub heard : K.heard ≤ after.heard
  pub submitted : after.submitted ≡ K.submitted
  pub asks : AgentAsks P.words.deployment K.submitted n t.state
  pub calls : CallsHold E (agent_turned P n t.state t.sends handler.handler.history) F halted after stamp
  pub tells : AllTell (Replied P.logs P.words.deployment F) R t.sends
  pub told : AllByRecursion (WaitsTold R) t.state.waiting

-- One turn, and then another one of an agent that goes on. One that has stopped does nothing then.
pub then-calls : (E : Database) (F : Firm) (R : Ending) (halted : Bool) (stamp : ℕ) (P : LogState) (K : Transactions) (n : ℕ) (t : Turn AgentState) (f : AgentState → Turn AgentState)
    (r : CallsHandler E F R halted stamp P K n t) → f (new_agent 0) ≡ becomes (new_agent 0)
    → (let T = agent_turned P n t.state t.sends r.handler.handler.history in word.WordsHold T.words → Rest T → CallsHold E T F halted r.after stamp → 0 < word.agent_start T.words n
    → AgentAsks P.words.deployment r.after.submitted n (T.words.agents n) → AllByRecursion (WaitsTold R) (T.words.agents n).waiting → CallsHandler E F R halted stamp T r.after n (f (T.words.agents n))) → CallsHandler E F R halted stamp P K n (t ▸ f)
then-calls E F R halted stamp P K n t f r silent g = elim r.handler.handler.goes [
  | inl q ↦ both (subst (λ z. CallsHandler E F R halted stamp T r.after n (f z)) here (g r.handler.handler.holds r.handler.rest r.calls (subst (λ x. 0 < x) (sym (ap (λ x. x.start) here ∙ q.0)) q.1)
      (subst (AgentAsks P.words.deployment r.after.submitted n) (sym here) (subst (λ A. AgentAsks P.words.deployment A n t.state) (sym r.submitted) r.asks))
      (subst (λ x. AllByRecursion (WaitsTold R) x.waiting) (sym here) r.told)))
  | inr z ↦ subst (CallsHandler E F R halted stamp P K n) (sym (then-inert t f (ap f z ∙ silent ∙ ap becomes (sym z)))) r
]
  where
    T : LogState
    T = agent_turned P n t.state t.sends r.handler.handler.history

    here : T.words.agents n ≡ t.state
    here = agent-there P.words n t.state t.sends r.handler.handler.history

    both : CallsHandler E F R halted stamp T r.after n (f t.state) → CallsHandler E F R halted stamp P K n (t ▸ f)
    both q = record {
      handler = record { handler = k.0; rest = subst Rest one q.handler.rest };
      after = q.after;
      heard = omega (arith, r.heard, q.heard);
      submitted = q.submitted ∙ r.submitted;
      asks = subst (λ A. AgentAsks P.words.deployment A n (f t.state).state) r.submitted q.asks;
      calls = subst (λ x. CallsHold E x F halted q.after stamp) one q.calls;
      tells = λ b. all-append (Tells (Replied P.logs P.words.deployment F) R) (t.sends b) ((f t.state).sends b) (r.tells b) (q.tells b);
      told = q.told;
    }
      where
        k : (both : WordsTurn (MayJoin P) P.words n (t ▸ f)) × (both.history ≡ q.handler.handler.history)
        k = after-handler P.words n t f r.handler.handler q.handler.handler

        one : agent_turned T n (f t.state).state (f t.state).sends q.handler.handler.history ≡ agent_turned P n (f t.state).state (λ b. t.sends b ++ (f t.state).sends b) k.0.history
        one = ap (λ w. record P { words = w }) (after-after P.words n t.state (f t.state).state t.sends (f t.state).sends r.handler.handler.history q.handler.handler.history)
            ∙ ap (agent_turned P n (f t.state).state (λ b. t.sends b ++ (f t.state).sends b)) (sym k.1)

-- ---- the handler of a message, and what the agent says of a new word then

pub told-handler : (E : Database) (F : Firm) (R : Ending) (halted : Bool) (stamp : ℕ) (S : LogState) → MayTell S.logs S.words.deployment F R → LaidOut S → LogsHold S → (K : Transactions) → CallsHold E S F halted K stamp
    → (o : Option Actor) (n : ℕ) (from : Actor) (l : Letter)
    → AgentHandler (base S o n) n (agent_handler E S.words.deployment n stamp (S.words.agents n) from l ▸ tells S.words.deployment n (S.words.agents n).own)
    → ((l.term ≡ 0) ⊎ (l.term ≡ term_in (S.words.agents n).decided)) → ((c : ℕ) → from ≡ Site c → IsSlot S c × AnswerOk E S F K (part S c) l)
    → AllBefore K.submitted stamp → AgentAsks S.words.deployment K.submitted n (S.words.agents n) → AskedIn S.words.deployment K.submitted from (Agent n) l
    → Brings R from l → AllByRecursion (WaitsTold R) (S.words.agents n).waiting
    → CallsHandler E F R halted stamp (base S o n) K n (agent_handler E S.words.deployment n stamp (S.words.agents n) from l ▸ tells S.words.deployment n (S.words.agents n).own)
told-handler E F R halted stamp S may lay H K C o n from l r term answer past asks asked brings waits = elim (C.agents n).initiating [
  | inl q ↦ record {
    handler = r;
    after = K;
    heard = omega arith;
    submitted = refl;
    asks = asks-then;
    calls = off-then E F halted stamp S H K C o n (t ▸ tells S.words.deployment n a.own) r.handler.history grows Own R (off q.0 q.1 q.2);
    tells = (off q.0 q.1 q.2).tells;
    told = elim (off q.0 q.1 q.2).kept [ inl z ↦ rw z tt | inr k ↦ rw k.2 waits ];
  }
  | inr q ↦ let k = handler-initiates E S F R may K stamp stamp n q.0 lay H C.books (omega arith) q.1 q.2 past (C.agents n).knows (asks.queue, asks.work) from l
      (subst (λ d. (l.term ≡ 0) ⊎ (l.term ≡ term_in d)) q.1.has_decided term) answer (asked, brings) in
      goes q.0 q.1 (initiates-tells E S F K stamp n q.0 a t a.own k.0) k.1
]
  where
    a : AgentState
    a = S.words.agents n

    t : Turn AgentState
    t = agent_handler E S.words.deployment n stamp a from l

    grows : Grows S.words.history r.handler.history
    grows = handler-grows r.handler

    -- what an initiator answers
    Own : Ending
    Own = Replied S.logs S.words.deployment F

    -- one that isn't
    off : a.initiating.phase ≡ Off → a.initiating.work ≡ None → a.initiating.next ≡ 0 → OffGoes Own R a (t ▸ tells S.words.deployment n a.own)
    off phase work next = off-tells Own R S.words.deployment a n t a.own
        (handler-off Own R may.down E S.words.deployment n stamp a phase work next ((C.agents n).knows.first next) from l brings)

    -- the calls that it keeps were submitted
    asks-then : AgentAsks S.words.deployment K.submitted n (t ▸ tells S.words.deployment n a.own).state
    asks-then = subst (AgentAsks S.words.deployment K.submitted n) (sym (tells-state S.words.deployment n a.own t.state))
        (handler-asks E S.words.deployment K.submitted n stamp a from l asks asked).state

    goes : (w : Membership) → Initiates S n w → InitiatorGoes E S F K stamp n w a (t ▸ tells S.words.deployment n a.own) → AllTell Own R t.sends → CallsHandler E F R halted stamp (base S o n) K n (t ▸ tells S.words.deployment n a.own)
    goes w i g told = record {
      handler = r;
      after = g.after;
      heard = g.heard;
      submitted = g.submitted;
      asks = asks-then;
      calls = initiates-then E F halted stamp S H K C o n (t ▸ tells S.words.deployment n a.own) r.handler.history grows w i g;
      tells = says-more Own R S.words.deployment n a.own t told;
      told = subst (AllByRecursion (WaitsTold R)) (sym g.waiting) waits;
    }

-- ---- a word is decided

-- a call that is asked for is no round and no end
pub request-plain : (l : Letter) → IsRequest l → NoOrder l
request-plain = request-cases NoOrder (λ l call start client body. tt) (λ l call start client body. tt)

-- an initiator's job and its next number
phase-job : (E : Database) (S : LogState) (F : Firm) (K : Transactions) (t : ℕ) (a : AgentState) (phase : Phase) → PhaseOk E S F K t a phase
    → JobOk K a.initiating.work × (((a.initiating.next ≡ 0) × (a.initiating.work ≡ None)) ⊎ (K.number < a.initiating.next))
phase-job E S F K t a Off k = absurd k
phase-job E S F K t a (Hears told) k = (k.2, k.3)
phase-job E S F K t a (Closes m parts finished) k = (k.2, inr k.3)
phase-job E S F K t a Idle k = (rw k.1 tt, inr k.2)
phase-job E S F K t a Works k = (rw k.2.1 k.2.2, inr k.1)

module _ (E : Database) (F : Firm) (halted : Bool) (stamp : ℕ) (S : LogState) (H : LogsHold S) (K : Transactions) (C : CallsHold E S F halted K stamp) (n : ℕ)
    (up : 0 < word.agent_start S.words n) where
  abbrev a : AgentState
  a = S.words.agents n

  -- it stays as it is
  pub stays-then : (G : History) → Grows S.words.history G → CallsHold E (agent_turned S n a (λ b. []) G) F halted K stamp
  stays-then G grows = inert-then E F halted stamp S H K C None n (becomes a) G grows (λ c. tt) (mine-same E S F K n (C.agents n) a refl refl refl (C.agents n).waiting)
      (λ w b d init some is before. before is)

  -- its job and its next number, which it keeps
  job : JobOk K a.initiating.work × (((a.initiating.next ≡ 0) × (a.initiating.work ≡ None)) ⊎ (K.number < a.initiating.next))
  job = elim (C.agents n).initiating [ inl q ↦ (rw q.1 tt, inl (q.2, q.1)) | inr q ↦ phase-job E S F K (term_of q.0) a a.initiating.phase q.2 ]

  module _ (v : Membership) (own : a.own ≡ Some v) (may : may_decide n a (Some v) ≡ true) (r : AgentHandler S n (decides_word S.words.deployment n a (Some v))) where
    abbrev decides : Turn AgentState
    decides = decides_word S.words.deployment n a (Some v)

    -- the agent with the word, before it knows whether it is the initiator
    abbrev with_word : AgentState
    with_word = record a { decided = Some v; pending = asked_again S.words.deployment v a.pending }

    abbrev U : LogState
    U = agent_turned S n decides.state decides.sends r.handler.history

    is : In v U.words.history.decided
    is = has-decided U.words r.handler.holds n v (ap (λ x. x.decided) (agent-there S.words n decides.state decides.sends r.handler.history) ∙ (decides-state S.words.deployment n a v).decided)

    -- nothing that it sends is a round or an end, and its word is above the one before
    decided-with : (b : AgentState) → b.start ≡ a.start → b.decided ≡ Some v → Mine E S F K n b → CallsHold E (agent_turned S n b decides.sends r.handler.history) F halted K stamp
    decided-with b start word mine = inert-then E F halted stamp S H K C None n (record { state = b; sends = decides.sends }) r.handler.history (handler-grows r.handler)
        decided-sends mine
        (λ w x d init some e before. rw word (above a.decided refl (before (sym start ∙ e))))
      where
        decided-sends : (c : ℕ) → AllByRecursion NoOrder (decides.sends (Site c))
        decided-sends c =
            let again = asks_again S.words.deployment a.start v a.pending (Site c) in
            all-append NoOrder (decided_sends S.words.deployment n a v (Site c)) again
            (all-if NoOrder (is_slot_of S.words.deployment n c && not (is_down S.words.deployment v)) (letter_to a.start (msg.View v) ∷ []) [] (tt, tt) tt)
            (all-mono IsRequest NoOrder request-plain again (asks_again-requests S.words.deployment a.start v a.pending (Site c)))

        above : (o : Option Membership) → a.decided ≡ o → K.heard ≤ term_in o → K.heard ≤ term_of v
        above None e l = omega (arith, l)
        above (Some d) e l = omega (arith, l, before-below S U.words H.words r.handler.holds n v up own may is r.handler.decided r.handler.took_word d e)

    decided-then : CallsHold E U F halted K stamp
    decided-then = go (initiates n with_word (Some v)) refl
      where
        go : (c : Bool) → initiates n with_word (Some v) ≡ c
            → CallsHold E (agent_turned S n (if c then with_phase with_word (Hears []) else with_phase with_word Off) decides.sends r.handler.history) F halted K stamp
        go true e = let init = initiates-is n with_word v e in decided-with (with_phase with_word (Hears [])) refl refl (record {
          initiating = inr (
            v,
            up,
            refl,
            init,
            (decides-heard S U.words H.words r.handler.holds n v up own may is r.handler.decided r.handler.took_word E F K stamp H.some C.books.heard init, tt, job.0, job.1),
          );
          knows = let k = (C.agents n).knows in record { rise = k.rise; covers = tt; decided = k.decided; fresh = λ x works. absurd (cc); from = k.from; first = k.first; outcome = k.outcome };
          waiting = (C.agents n).waiting;
        })
        go false e = decided-with (with_phase with_word Off) refl refl (record {
          initiating = elim (C.agents n).initiating [
            | inl q ↦ inl (refl, q.1, q.2)
            | inr q ↦ absurd (not-both (initiates n with_word (Some v))
                (ap (is_initiator_in n a.start) (stays-initiator S U.words H.words r.handler.holds n v up own may is r.handler.decided r.handler.took_word q.0 q.1)
                ∙ and_from (n == n) (a.start == a.start) (eqb-same n) (eqb-same a.start)) e)
          ];
          knows = let k = (C.agents n).knows in record { rise = k.rise; covers = tt; decided = k.decided; fresh = λ x works. absurd (cc); from = k.from; first = k.first; outcome = k.outcome };
          waiting = (C.agents n).waiting;
        })

  -- nothing that it sends then tells of a call
  decides-tell : (M R : Ending) (v : Membership) → AllTell M R (decides_word S.words.deployment n a (Some v)).sends
  decides-tell M R v b = all-append (Tells M R) (decided_sends S.words.deployment n a v b) (asks_again S.words.deployment a.start v a.pending b) (first b)
      (all-mono IsRequest (Tells M R) (request-cases (Tells M R) (λ l call start client body. tt) (λ l call start client body. tt)) (asks_again S.words.deployment a.start v a.pending b)
      (asks_again-requests S.words.deployment a.start v a.pending b))
    where
      first : AllTell M R (decided_sends S.words.deployment n a v)
      first (Site c) = all-if (Tells M R) (is_slot_of S.words.deployment n c && not (is_down S.words.deployment v)) (letter_to a.start (msg.View v) ∷ []) [] (tt, tt) tt
      first (Agent g) = all-if (Tells M R) (is_host S.words.deployment g && not (g == n) && is_none (start_of v g)) (open_letter (msg.Decided v) ∷ []) [] (tt, tt) tt
      first (Client c) = all-if (Tells M R) (is_client S.words.deployment c && is_none a.decided) (open_letter (msg.Opened a.start) ∷ []) [] (tt, tt) tt
      first Director = tt
      first (Scanner x) = tt

  -- It decides its word, or goes on as it was.
  pub concludes-calls : (R : Ending) → AllByRecursion (WaitsTold R) a.waiting → AgentAsks S.words.deployment K.submitted n a → AgentHandler S n (concludes S.words.deployment n a) → CallsHandler E F R halted stamp S K n (concludes S.words.deployment n a)
  concludes-calls R waits asks r = go a.own refl
    where
      stays : concludes S.words.deployment n a ≡ becomes a → CallsHandler E F R halted stamp S K n (concludes S.words.deployment n a)
      stays q = subst (λ x. AgentHandler S n x → CallsHandler E F R halted stamp S K n x) (sym q)
          (λ r. record { handler = r; after = K; heard = omega arith; submitted = refl; asks = asks; calls = stays-then r.handler.history (handler-grows r.handler); tells = λ b. tt; told = waits }) r

      -- what waits stays
      decided-waits : (v : Membership) → AllByRecursion (WaitsTold R) (decides_word S.words.deployment n a (Some v)).state.waiting
      decided-waits v = choice (initiates n with_word (Some v))
        where
          with_word : AgentState
          with_word = record a { decided = Some v; pending = asked_again S.words.deployment v a.pending }

          choice : (c : Bool) → AllByRecursion (WaitsTold R) (if c then with_phase with_word (Hears []) else with_phase with_word Off).waiting
          choice true = waits
          choice false = waits

      go : (o : Option Membership) → a.own ≡ o → CallsHandler E F R halted stamp S K n (concludes S.words.deployment n a)
      go None e = stays (concludes-not S.words.deployment n a (ap (may_decide n a) e))
      go (Some v) e = elim (cases_Bool (may_decide n a (Some v))) [
        | inl m ↦ subst (λ x. AgentHandler S n x → CallsHandler E F R halted stamp S K n x)
            (sym (concludes-is S.words.deployment n a (ap (may_decide n a) e ∙ m) ∙ ap (decides_word S.words.deployment n a) e))
            (λ r. record {
              handler = r;
              after = K;
              heard = omega arith;
              submitted = refl;
              asks = (decides_word-asks E S.words.deployment K.submitted n a (Some v) asks).state;
              calls = decided-then v e m r;
              tells = decides-tell (Replied S.logs S.words.deployment F) R v;
              told = decided-waits v;
            }) r
        | inr m ↦ stays (concludes-not S.words.deployment n a (ap (may_decide n a) e ∙ m))
      ]

-- Behind that it may not decide a word.
pub concludes-settled : (D : Deployment) (n : ℕ) (a : AgentState) → may_decide n (concludes D n a).state (concludes D n a).state.own ≡ false
concludes-settled D n a = go a.own refl
  where
    decided-again : (v : Membership) (b : AgentState)
        → (is_member v n b.start && not (is_word v (Some v)) && list_all (λ m. m.0 == n || is_word v (b.said m.0)) (members v)) ≡ false
    decided-again v b = and_left (is_member v n b.start && not (is_word v (Some v))) _ (and_right (is_member v n b.start) (not (is_word v (Some v))) (not_from_true (same_word v v) (same_word-refl v)))

    stays : may_decide n a a.own ≡ false → may_decide n (concludes D n a).state (concludes D n a).state.own ≡ false
    stays q = subst (λ x. may_decide n x.state x.state.own ≡ false) (sym (concludes-not D n a q)) q

    go : (o : Option Membership) → a.own ≡ o → may_decide n (concludes D n a).state (concludes D n a).state.own ≡ false
    go None e = stays (ap (may_decide n a) e)
    go (Some v) e = elim (cases_Bool (may_decide n a (Some v))) [
      | inl m ↦ subst (λ x. may_decide n x.state x.state.own ≡ false) (sym (concludes-is D n a (ap (may_decide n a) e ∙ m) ∙ ap (decides_word D n a) e))
          (let d = decides-state D n a v in rw (d.own ∙ e) (rw d.decided (decided-again v (decides_word D n a (Some v)).state)))
      | inr m ↦ stays (ap (may_decide n a) e ∙ m)
    ]
