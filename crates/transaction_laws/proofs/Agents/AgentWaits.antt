-- Messages that waited for an agent's term: it decides no word while it takes them, and what holds of transactions, holds after that.
use Rattle.word_laws.specs.Histories as word
use Rattle.transaction_laws.proofs.Names.{Actor, Admission, AdmitsNow, Agent, AgentHandler, AgentState, AgentWaitingFrom, AgentWaitingOk, AllByRecursion, AskedOk, Bool, CallsHold, Calm, CameOk, Database, Deployment, Firm, GoodWord, In, Letter, List, LogState, LogsHold, Membership, None, OnSome, Option, OwnOk, Queued, QueuedAdmissionOk, Rest, SaidBy, Sends, Some, State, Transactions, Turn, Waiting, WaitingAnswer, [], above_term, admits, admits-holds, agent-there, agent_handler, agent_turned, all-at, all-filter, all-from, all-mono, ap, arith, asked-waiting, asked_by, asks-on, becomes, calm-event, cases_Bool, concludes, concludes-not, eqb-true, false, first-agent, handler-calm, handler-grows, handler-plain, holds-of, in-cases, in-filter, initiates, initiates-is, initiator, inl, inr, is_in, is_word, loaded_by, may-join, may_decide, may_decide-cases, member-of, members-all, members-below, names, names-admits, nat_lt, nat_tests, none-taken, not-admitted, not-both, of_term, or_cases, plain-agent, refl, said-good, said_to, same_word, same_word-is, set-here, some-here, spoken, start_of, stay-agent, subst, sym, takes_each, takes_waiting, tells, tells-state, term-same, term_in, term_of, then-assoc, then-inert, true, true≢false, unless-running, unless_stopped, waiting-brings, waiting-shrinks, waits-on, with_admitted, with_admitted-admits, ℕ, ◌<◌, ◌==◌, ◌||◌, ◌∙◌, ◌∷◌, ◌≡◌, ◌▸◌, AgentAsks, AllBefore, AskedIn, WaitingAsked}
use Rattle.transaction_laws.proofs.Initiators.{LaidOut}
use Rattle.transaction_laws.proofs.Agents.AgentTurns.{CallsHandler, inert-then, stays-then, told-handler, then-calls, mine-same}
use Rattle.transaction_laws.proofs.Kept.{Brings, Ending, MayTell, WaitsTold, waiting-on, onto-worded}

-- ---- a word that an initiator has just made isn't decided at once

module _ (S : State) (H : word.WordsHold S) (n : ℕ) (W V : Membership) (j h term : ℕ) (up : 0 < word.agent_start S n) (own : (S.agents n).own ≡ Some W)
    (decided : (S.agents n).decided ≡ Some V) (same : same_word W V ≡ true) (init : initiator V ≡ Some (n, word.agent_start S n)) (came : CameOk S h n term j) (term_is : term_of W ≡ term)
    (over : (g r : ℕ) → start_of W g ≡ Some r → r < j) where
  -- the word with the start in it
  abbrev X : Membership
  X = with_admitted j h W

  -- what the agent says of it
  abbrev out : Sends
  out b = elim b as (λ _. List Letter) [ Agent g ↦ said_to S.deployment n (word.agent_start S n) X g | _ ↦ [] ]

  -- Nobody has said a word like it.
  unsaid : (s : ℕ) (u : Membership) → In u (S.history.said s) → same_word u X ≡ true → ⊥
  unsaid s u i e = not-admitted S H n W V j h term out up own decided same init came term_is over (λ g. refl) r.entry r.is_one r.same
    where
      good : GoodWord S u
      good = said-good S H.history s u i

      like : u ≡ X
      like = same_word-is u X (good.first ∙ sym (some-here (OwnOk S (word.agent_start S n)) (S.agents n).own W own (H.agents n).own).good.first) e

      r : word.Recorded S u j
      r = good.recorded j (subst (λ x. admits x j ≡ true) (sym like) (with_admitted-admits j h W))

  -- The start is one of its members.
  joins : start_of X h ≡ Some j
  joins = subst (λ z. start_of X z ≡ Some j) came.0.owned (member-of T K.history X j good (names-admits X j (with_admitted-admits j h W)) unlost)
    where
      T : State
      T = spoken S n X (S.agents n).said out (record { start = j; by = word.agent_start S n; at = W } ∷ S.history.admitted)

      K : word.WordsHold T
      K = admits-holds S H n W V j h term out up own decided same init came term_is over (λ g. refl)

      good : GoodWord T X
      good = (some-here (OwnOk T (word.agent_start T n)) (T.agents n).own X (ap (λ x. x.own) (set-here S.agents n _)) (K.agents n).own).good

      -- the word that it took is this one without it
      took : came.0.word ≡ W
      took =
          let k = H.history.took_ok j came.0.word came.0.took in
          let w = some-here (OwnOk S (word.agent_start S n)) (S.agents n).own W own (H.agents n).own in
          term-same S H.history came.0.word W (H.history.decided_good came.0.word k.0) w.good (H.history.chain came.0.word W k.0 in-decided) (came.0.term_is ∙ sym term_is)
        where
          in-decided : In W S.history.decided
          in-decided =
              let v = some-here (λ x. In x S.history.decided × (names x (S.agents n).start ≡ true)) (S.agents n).decided V decided (H.agents n).decided in
              let w = some-here (OwnOk S (word.agent_start S n)) (S.agents n).own W own (H.agents n).own in
              subst (λ x. In x S.history.decided) (sym (same_word-is W V (w.good.first ∙ sym (H.history.decided_good V v.0).first) same)) v.0

      unlost : is_in j X.lost ≡ false
      unlost = subst (λ x. is_in j x.lost ≡ false) took (H.history.took_ok j came.0.word came.0.took).3

  -- So the agent doesn't decide it, since the joiner hasn't said it.
  pub undecided : (b : AgentState) → b.said ≡ (S.agents n).said → may_decide n b (Some X) ≡ false
  undecided b said = elim (cases_Bool (may_decide n b (Some X))) [
    | inr e ↦ e
    | inl e ↦ elim (or_cases (h == n) (is_word X (b.said h)) (members-all X (λ m. m.0 == n || is_word X (b.said m.0)) h j (may_decide-cases n b X e).1 joins)) [
      | inl q ↦ absurd (not-both (h == n) q came.0.other)
      | inr q ↦ absurd (go ((S.agents n).said h) ((H.agents n).heard h) (subst (λ f. is_word X (f h) ≡ true) said q))
    ]
  ]
    where
      go : (o : Option Membership) → OnSome (SaidBy S h) o → is_word X o ≡ true → ⊥
      go None k e = true≢false (sym e)
      go (Some u) k e = unsaid k.0 u k.2 e

-- A handler that brings no word leaves nothing to decide, where nothing was.
calm-settled : (S : State) → word.WordsHold S → (D : Deployment) (n : ℕ) (came : List Queued) (loaded : List ℕ) (t : Turn AgentState) → 0 < word.agent_start S n → Calm D n (S.agents n) came loaded t
    → ((j h term : ℕ) → In (Admission j h term) came → QueuedAdmissionOk S n (Admission j h term)) → may_decide n (S.agents n) (S.agents n).own ≡ false → may_decide n t.state t.state.own ≡ false
calm-settled S H D n came loaded t up c new settled = elim c.own [
  | inl same ↦ rw same (still (S.agents n).own settled)
  | inr m ↦ rw m.becomes (undecided S H n m.word m.decided m.start m.host m.term up m.is_own m.is_decided m.same (init m) (asks m) m.term_is (members-below m.word m.start m.above) t.state c.said)
]
  where
    still : (o : Option Membership) → may_decide n (S.agents n) o ≡ false → may_decide n t.state o ≡ false
    still None e = e
    still (Some w) e = rw (c.start, c.decided, c.said) e

    init : (m : AdmitsNow (S.agents n) came t.state.own) → initiator m.decided ≡ Some (n, word.agent_start S n)
    init m = elim (H.agents n).initiates [
      | inl off ↦ absurd (m.works off)
      | inr i ↦ initiates-is n (S.agents n) m.decided (ap (λ z. initiates n (S.agents n) z) (sym m.is_decided) ∙ i)
    ]

    asks : (m : AdmitsNow (S.agents n) came t.state.own) → CameOk S m.host n m.term m.start
    asks m = elim (in-cases (Admission m.start m.host m.term) (S.agents n).initiating.queue came m.queued) [
      | inl i ↦ all-at (QueuedAdmissionOk S n) (S.agents n).initiating.queue (H.agents n).queue (Admission m.start m.host m.term) i
      | inr i ↦ new m.start m.host m.term i
    ]

-- ---- a message that waited

-- A turn in which the agent takes such a message: it goes on with its word, and has no other one to decide.
record OneWaited (E : Database) (F : Firm) (R : Ending) (halted : Bool) (stamp : ℕ) (S : LogState) (K : Transactions) (n : ℕ) (t : Turn AgentState) : Type 0 where
  pub handler : CallsHandler E F R halted stamp S K n t
  pub decided : t.state.decided ≡ (S.words.agents n).decided
  pub settled : may_decide n t.state t.state.own ≡ false

module _ (E : Database) (F : Firm) (R : Ending) (halted : Bool) (stamp : ℕ) (S : LogState) (may : MayTell S.logs S.words.deployment F R) (lay : LaidOut S) (h : word.WordsHold S.words) (r : Rest S)
    (K : Transactions) (C : CallsHold E S F halted K stamp)
    (n : ℕ) (up : 0 < word.agent_start S.words n) (from : Actor) (l : Letter) (w : AgentWaitingFrom S.words n from l) (asked : AskedOk S from l)
    (answer : WaitingAnswer E S F K (record { from = from; letter = l })) (term : l.term ≡ term_in (S.words.agents n).decided)
    (settled : may_decide n (S.words.agents n) (S.words.agents n).own ≡ false)
    (past : AllBefore K.submitted stamp) (asks : AgentAsks S.words.deployment K.submitted n (S.words.agents n)) (call : AskedIn S.words.deployment K.submitted from (Agent n) l)
    (brings : Brings R from l) (waits : AllByRecursion (WaitsTold R) (S.words.agents n).waiting) where
  abbrev D : Deployment
  D = S.words.deployment

  abbrev a : AgentState
  a = S.words.agents n

  abbrev t : Turn AgentState
  t = agent_handler E D n stamp a from l

  -- its handler, and what the agent says then
  abbrev told : Turn AgentState
  told = t ▸ tells D n a.own

  running : a.start == 0 ≡ false
  running = grind (arith, nat_tests, up)

  calm : Calm D n a (asked_by from l) (loaded_by a from l) t
  calm = handler-calm E D n stamp a from l (waiting-brings S.words n from l w)

  settled-then : may_decide n told.state told.state.own ≡ false
  settled-then = subst (λ x. may_decide n x x.own ≡ false) (sym (tells-state D n a.own t.state))
      (calm-settled S.words h D n (asked_by from l) (loaded_by a from l) t up calm (asked-waiting S.words n from l w) settled)

  told-turn : AgentHandler S n told
  told-turn = first-agent S n r up E stamp from l asked (λ b. h)
      (calm-event E S.words n stamp from l h up (waiting-brings S.words n from l w) (asked-waiting S.words n from l w) (may-join S n r up from l asked))

  -- nothing else follows
  turn-is : told ≡ unless_stopped E D n stamp a from l
  turn-is = sym (then-inert told (concludes D n) (concludes-not D n told.state settled-then))
      ∙ then-assoc t (tells D n a.own) (concludes D n) ∙ sym (unless-running E D n stamp a from l running)

  waited-one : OneWaited E F R halted stamp S K n (unless_stopped E D n stamp a from l)
  waited-one = subst (OneWaited E F R halted stamp S K n) turn-is (record {
    handler = told-handler E F R halted stamp S may lay (holds-of S h r) K C None n from l told-turn (inr term) (λ c e. subst (λ f. WaitingAnswer E S F K (record { from = f; letter = l })) e answer) past asks call brings waits;
    decided = ap (λ x. x.decided) (tells-state D n a.own t.state) ∙ calm.decided;
    settled = settled-then;
  })

-- ---- all of those that waited for its term, one after another

-- such a message
record IsWaited (E : Database) (F : Firm) (R : Ending) (S : LogState) (K : Transactions) (n : ℕ) (x : Waiting) : Type 0 where
  pub from : AgentWaitingFrom S.words n x.from x.letter
  pub asked : AskedOk S x.from x.letter
  pub answer : WaitingAnswer E S F K x
  pub term : x.letter.term ≡ term_in (S.words.agents n).decided
  pub call : WaitingAsked S.words.deployment K.submitted (Agent n) x
  pub told : WaitsTold R x

-- It is one still after a turn in which the agent's word stays.
waited-still : (E : Database) (F : Firm) (R : Ending) (halted : Bool) (stamp n : ℕ) (S : LogState) → LogsHold S → (K : Transactions) → CallsHold E S F halted K stamp → (t : Turn AgentState)
    (r : CallsHandler E F R halted stamp S K n t) → t.state.decided ≡ (S.words.agents n).decided → (y : Waiting) → IsWaited E F R S K n y
    → IsWaited E F R (agent_turned S n t.state t.sends r.handler.handler.history) r.after n y
waited-still E F R halted stamp n S H K C t r same y k = record {
  from = (waits-on S n t r.handler (y ∷ []) (k.from, tt)).0;
  asked = (asks-on S n t r.handler (y ∷ []) (k.asked, tt)).0;
  answer = let T = agent_turned S n t.state t.sends r.handler.handler.history in
      waiting-on E S T F F (onto-worded S T.words.agents T.words.channel r.handler.handler.history (handler-grows r.handler.handler).decided F) K r.after r.heard y k.answer;
  term = k.term ∙ sym (ap (λ b. term_in b.decided) (agent-there S.words n t.state t.sends r.handler.handler.history) ∙ ap term_in same);
  call = subst (λ A. WaitingAsked S.words.deployment A (Agent n) y) (sym r.submitted) k.call;
  told = k.told;
}

waited-each : (E : Database) (F : Firm) (R : Ending) (halted : Bool) (stamp n : ℕ) (ws : List Waiting) (S : LogState) → MayTell S.logs S.words.deployment F R → LaidOut S → word.WordsHold S.words → Rest S → (K : Transactions) → CallsHold E S F halted K stamp
    → 0 < word.agent_start S.words n → AllByRecursion (IsWaited E F R S K n) ws → may_decide n (S.words.agents n) (S.words.agents n).own ≡ false
    → AllBefore K.submitted stamp → AgentAsks S.words.deployment K.submitted n (S.words.agents n) → AllByRecursion (WaitsTold R) (S.words.agents n).waiting
    → CallsHandler E F R halted stamp S K n (takes_each E S.words.deployment n stamp ws (S.words.agents n))
waited-each E F R halted stamp n [] S may lay h r K C up w settled past asks waits = let handler = stay-agent S n h r up in record {
  handler = handler;
  after = K;
  heard = omega arith;
  submitted = refl;
  asks = asks;
  calls = stays-then E F halted stamp S (holds-of S h r) K C n up handler.handler.history (handler-grows handler.handler);
  tells = λ b. tt;
  told = waits;
}
waited-each E F R halted stamp n (x ∷ ws) S may lay h r K C up w settled past asks waits =
    then-calls E F R halted stamp S K n t (takes_each E S.words.deployment n stamp ws) one.handler (none-taken E S.words.deployment n stamp ws)
    (λ k q c u asks waits. waited-each E F R halted stamp n ws (agent_turned S n t.state t.sends one.handler.handler.handler.history) may lay k q one.handler.after c u
    (all-mono _ _ (waited-still E F R halted stamp n S (holds-of S h r) K C t one.handler one.decided) ws w.1)
    (subst (λ b. may_decide n b b.own ≡ false) (sym (agent-there S.words n t.state t.sends one.handler.handler.handler.history)) one.settled)
    (subst (λ A. AllBefore A stamp) (sym one.handler.submitted) past) asks waits)
  where
    t : Turn AgentState
    t = unless_stopped E S.words.deployment n stamp (S.words.agents n) x.from x.letter

    one : OneWaited E F R halted stamp S K n t
    one = waited-one E F R halted stamp S may lay h r K C n up x.from x.letter w.0.from w.0.asked w.0.answer w.0.term settled past asks w.0.call w.0.told waits

-- The agent takes those of its term, and keeps those of higher ones.
module _ (E : Database) (F : Firm) (R : Ending) (halted : Bool) (stamp n : ℕ) (S : LogState) (may : MayTell S.logs S.words.deployment F R) (lay : LaidOut S) (h : word.WordsHold S.words) (r : Rest S)
    (K : Transactions) (C : CallsHold E S F halted K stamp)
    (up : 0 < word.agent_start S.words n) (past : AllBefore K.submitted stamp) (asks : AgentAsks S.words.deployment K.submitted n (S.words.agents n))
    (waits : AllByRecursion (WaitsTold R) (S.words.agents n).waiting) where
  abbrev agent : AgentState
  agent = S.words.agents n

  abbrev here : ℕ
  here = term_in agent.decided

  abbrev kept : AgentState
  kept = record agent { waiting = above_term here agent.waiting }

  kept-turn : AgentHandler S n (becomes kept)
  kept-turn = plain-agent S n (becomes kept) r (handler-plain S.words n (becomes kept) (inl (refl, up)) (waiting-shrinks S.words n (λ w. nat_lt here w.letter.term) h) (λ b. tt)) (record {
    start = refl;
    decided = refl;
    taken = refl;
    sites = λ c. tt;
    asked = λ g. tt;
    heard = λ u c i. r.loads.heard n c u i;
    waiting = all-filter (λ x. AskedOk S x.from x.letter) (λ w. nat_lt here w.letter.term) agent.waiting (r.loads.waiting n);
    queued = r.loads.queued n;
  })

  kept-calls : CallsHandler E F R halted stamp S K n (becomes kept)
  kept-calls = record {
    handler = kept-turn;
    after = K;
    heard = omega arith;
    submitted = refl;
    asks = record { pending = asks.pending; queue = asks.queue; work = asks.work; waiting = all-filter (WaitingAsked S.words.deployment K.submitted (Agent n)) (λ w. nat_lt here w.letter.term) agent.waiting asks.waiting };
    calls = inert-then E F halted stamp S (holds-of S h r) K C None n (becomes kept) kept-turn.handler.history (handler-grows kept-turn.handler) (λ c. tt)
        (mine-same E S F K n (C.agents n) kept refl refl refl (all-filter (WaitingAnswer E S F K) (λ w. nat_lt here w.letter.term) agent.waiting (C.agents n).waiting)) (λ w a d init some is before. before is);
    tells = λ b. tt;
    told = all-filter (WaitsTold R) (λ w. nat_lt here w.letter.term) agent.waiting waits;
  }

  taken : AllByRecursion (IsWaited E F R S K n) (of_term here agent.waiting)
  taken = all-from (IsWaited E F R S K n) (of_term here agent.waiting) (λ x i. let f = in-filter (λ w. w.letter.term == here) x agent.waiting i in record {
    from = all-at (AgentWaitingOk S.words n) agent.waiting (h.agents n).waiting x f.0;
    asked = all-at (λ y. AskedOk S y.from y.letter) agent.waiting (r.loads.waiting n) x f.0;
    answer = all-at (WaitingAnswer E S F K) agent.waiting (C.agents n).waiting x f.0;
    term = eqb-true x.letter.term here f.1;
    call = all-at (WaitingAsked S.words.deployment K.submitted (Agent n)) agent.waiting asks.waiting x f.0;
    told = all-at (WaitsTold R) agent.waiting waits x f.0;
  })

  pub waited-calls : may_decide n agent agent.own ≡ false → CallsHandler E F R halted stamp S K n (takes_waiting E S.words.deployment n stamp agent)
  waited-calls settled = then-calls E F R halted stamp S K n (becomes kept) (takes_each E S.words.deployment n stamp ws) kept-calls (none-taken E S.words.deployment n stamp ws)
      (λ k q c u asks waits. waited-each E F R halted stamp n ws (agent_turned S n kept (λ b. []) kept-calls.handler.handler.history) may lay k q kept-calls.after c u
      (all-mono _ _ (waited-still E F R halted stamp n S (holds-of S h r) K C (becomes kept) kept-calls refl) ws taken)
      (subst (λ b. may_decide n b b.own ≡ false) (sym (agent-there S.words n kept (λ b. []) kept-calls.handler.handler.history)) settled)
      (subst (λ A. AllBefore A stamp) (sym kept-calls.submitted) past) asks waits)
    where
      ws : List Waiting
      ws = of_term here agent.waiting
