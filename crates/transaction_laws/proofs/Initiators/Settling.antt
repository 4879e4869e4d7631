-- An initiator for which all partitions are settled: it ends the job at hand, and begins the next one or is idle.
use Rattle.volt_wire.specs.declared.message.Msg.TheVariants as msg
use Rattle.transaction_laws.proofs.Names.{Admission, Agent, AgentState, AllByRecursion, AnswersCall, Books, Bool, CoversAll, CoversIn, Database, Deployment, Done, End, Entry, Firm, FromLogs, Idle, In, Initiates, IsAnswered, IsNew, IsPart, IsPast, Job, JobAsked, JobOk, Known, KnownReply, Knows, LastReply, List, LogState, LogsHold, Membership, None, OnSome, OnlyCalls, Option, Outcome, OutcomeOf, PhaseOk, Prefix, Queued, QueuedAsked, Replied, RepliesRise, RunCall, Settled, Some, Stood, TakeSnapshot, ToRun, Transactions, Turn, Work, WorkAsked, [], admitting, all-mono, answers, answers_client, ap, arith, becomes, begins, client_of, drop, end_of, end_of_reply, ends_job, false, first_stage, if◌then◌else◌, in-cases, in-left, inl, inr, is_down_in, known_of, length, letter_to, nat_lt, no_work, none-and-some, on_reply, only, part, parts, prefix-rest, refl, rests, runs_again, same-some, sending, settles, stage, subst, sym, term_of, true, true≢false, whole, with_admitted, with_queue, works_known, works_queue, ℕ, ◌&&◌, ◌++◌, ◌<◌, ◌==◌, ◌∙◌, ◌∷◌, ◌≡◌, ◌≤◌}
use Rattle.transaction_laws.proofs.Kept.{InitiatorActs}
use Rattle.transaction_laws.proofs.Entries.{agreed-stands, answer-point, first-sound, prefix-number, stage-append, calls-opened, whole-led, number-within, calls-no-end, AppliedInAll, even-logs}
use Rattle.transaction_laws.proofs.Initiators.Orders.{LaidOut}
use Rattle.transaction_laws.proofs.Initiators.Turns.{Aside, goes-still, goes-from, goes-then}
use Rattle.transaction_laws.proofs.Initiators.Beginning.{AtRest, begins-goes}
use Rattle.transaction_laws.proofs.Initiators.Answering.{AnswersJob, answers-tell, closed-stood, job-answered, some-part, undecided-logs}
use Rattle.transaction_laws.proofs.Initiators.Resting.{OverAt, resting, resting-books}

-- ---- the history where all is settled

module _ (E : Database) (S : LogState) (F : Firm) (K : Transactions) (now : ℕ) (B : Books E S F K now) (all : (p : ℕ) → IsPart S p → Settled E S F K p) where
  -- all that is settled is over
  abbrev over-in : (p : ℕ) (b : Bool) → nat_lt p (parts S.words.deployment) ≡ b → List Entry
  over-in p true is = (all p is).prefix
  over-in p false is = K.closed p

  abbrev settled : Transactions
  settled = resting K (λ p. over-in p (nat_lt p (parts S.words.deployment)) refl) K.number

  over-is : (p : ℕ) → IsPart S p → (s : Settled E S F K p) × (s.prefix ≡ settled.closed p)
  over-is p part = choice (nat_lt p (parts S.words.deployment)) refl part
    where
      choice : (b : Bool) (e : nat_lt p (parts S.words.deployment) ≡ b) → b ≡ true → (s : Settled E S F K p) × (s.prefix ≡ over-in p b e)
      choice true e t = (all p e, refl)
      choice false e t = absurd (true≢false (sym t))

  over-at : (p : ℕ) → IsPart S p → OverAt E S F K p (settled.closed p)
  over-at p part = let (s, is) = over-is p part in let e = sym (whole-led S K p K.heard s.leadership s.led s.none) in subst (OverAt E S F K p) is (record {
    stands = subst (Prefix s.prefix) e s.stands;
    led = (s.leadership, s.led, s.stands);
    calls = subst (λ xs. OnlyCalls (drop (length s.prefix) xs)) e s.calls;
    everywhere = s.everywhere;
    over = s.over;
  })

  closed-below : (p : ℕ) → IsPart S p → (stage E p (settled.closed p)).number ≤ K.number
  closed-below p part =
      let f = prefix-number (first_stage E p) (settled.closed p) (whole S K K.heard p) (first-sound E p) (over-at p part).stands (B.heard.aligned.formed p part) in
      let b = number-within E S.words.deployment now K (whole S K K.heard) B.heard.aligned p part in
      omega (arith, f, b)

  -- ---- its ends

  whole-over : (p : ℕ) → IsPart S p → whole S K K.heard p ≡ settled.closed p ++ drop (length (settled.closed p)) (whole S K K.heard p)
  whole-over p part = prefix-rest (settled.closed p) (whole S K K.heard p) (over-at p part).stands

  -- Behind what is over stand only calls on one partition: nothing is open,
  none-open : (p : ℕ) → IsPart S p → (stage E p (whole S K K.heard p)).opened ≡ None
  none-open p part =
      let xs = settled.closed p in
      let ys = drop (length xs) (whole S K K.heard p) in
      ap (λ z. (stage E p z).opened) (whole-over p part) ∙ ap (λ s. s.opened) (stage-append (first_stage E p) xs ys)
      ∙ calls-opened (stage E p xs) ys (over-at p part).calls ∙ (over-at p part).over

  -- and ends stand in what is over.
  end-over : (p m : ℕ) (o : Outcome) → IsPart S p → In (Done m o) (whole S K K.heard p) → In (Done m o) (settled.closed p)
  end-over p m o part i =
      let xs = settled.closed p in
      let ys = drop (length xs) (whole S K K.heard p) in
      elim (in-cases (Done m o) xs ys (subst (In (Done m o)) (whole-over p part) i)) [
        | inl j ↦ j
        | inr j ↦ absurd (calls-no-end ys m o (over-at p part).calls j)
      ]

  -- So a call that is applied by what is over in one partition is so in all.
  closed-even : AppliedInAll S.words.deployment settled.closed
  closed-even p q m x o part other point i = end-over q m o other
      (even-logs E S.words.deployment now K (whole S K K.heard) B.heard.aligned none-open p q m x o part other point
      (subst (In (Done m o)) (sym (whole-over p part)) (in-left (Done m o) (settled.closed p) (drop (length (settled.closed p)) (whole S K K.heard p)) i)))

  -- ---- all of it

  settled-books : Books E S F settled now
  settled-books = resting-books E S F K now B settled.closed K.number over-at closed-below closed-even

  settled-rests : AtRest S settled
  settled-rests p part = ((over-is p part).0.none, (over-at p part).calls)

  -- ---- what is answered then

  -- The outcome that is agreed stands in all partitions, and is firm.
  module _ (o : Outcome) (agreed : K.agreed ≡ Some o) (call : ℕ) (e : End) (answers : AnswersCall o call e) where
    agreed-everywhere : (p : ℕ) → IsPart S p → In (Done K.number o) (whole S K K.heard p)
    agreed-everywhere p part = let (x, point) = answer-point o call e answers in
        agreed-stands E S.words.deployment now K (whole S K K.heard) B.heard.aligned p x o part agreed point ((B.heard.ends o agreed).new p part) (none-open p part)

    agreed-stood : (p : ℕ) → IsPart S p → Stood S F p K.heard (Done K.number o)
    agreed-stood p part = closed-stood E S F settled now settled-books settled-rests p K.number o part (end-over p K.number o part (agreed-everywhere p part))

    agreed-replied : Replied S.logs S.words.deployment F call e
    agreed-replied = record { term = K.heard; number = K.number; outcome = o; answers = answers; stands = agreed-stood }

  -- A job that is decided is answered by its outcome,
  pub decided-answered : (job : Job) (o : Outcome) → K.agreed ≡ Some o → OutcomeOf job o → AnswersJob S F job (end_of o)
  decided-answered job o agreed of = choice job (end_of o) refl of
    where
      choice : (job : Job) (e : Option End) → end_of o ≡ e → OutcomeOf job o → AnswersJob S F job e
      choice job None is of = tt
      choice TakeSnapshot (Some e) is of = tt
      choice (RunCall call client host start body) (Some e) is of = agreed-replied o agreed call e (of e is)

  -- and all that it knows is from logs.
  pub settled-logs : LaidOut S → (work : Option Work) → JobOk K work → (replies : List LastReply) → AllByRecursion (KnownReply S F K.submitted K.heard work) replies
      → AllByRecursion (FromLogs S F K.submitted K.heard) replies
  settled-logs lay work job replies h = all-mono (KnownReply S F K.submitted K.heard work) (FromLogs S F K.submitted K.heard) one replies h
    where
      agrees : (work : Option Work) → JobOk K work → (x : Work) (o : Outcome) → work ≡ Some x → x.decision ≡ Some o → K.agreed ≡ Some o
      agrees None job x o is decision = absurd (none-and-some refl is)
      agrees (Some y) job x o is decision = job.1 o (ap (λ z. z.decision) (same-some is) ∙ decision)

      one : (r : LastReply) → KnownReply S F K.submitted K.heard work r → FromLogs S F K.submitted K.heard r
      one r (inl logs) = logs
      one r (inr (x, o, is, decision, own)) = inr (record {
        part = part S 0;
        is_part = some-part S lay;
        number = K.number;
        outcome = o;
        answers = own;
        stood = agreed-stood o (agrees work job x o is decision) r.call (end_of_reply r.reply) own (part S 0) (some-part S lay);
      })

-- ---- parts of a turn that are none of the initiator's

admitting-initiating : (a : AgentState) (own decided : Option Membership) (start host term : ℕ) → (b : Option Membership) × (admitting a own decided start host term ≡ record a { own = b })
admitting-initiating a None decided start host term = (a.own, refl)
admitting-initiating a (Some own) None start host term = (a.own, refl)
admitting-initiating a (Some own) (Some decided) start host term = choice _
  where
    choice : (c : Bool) → (b : Option Membership) × ((if c then record a { own = Some (with_admitted start host own) } else a) ≡ record a { own = b })
    choice true = (Some (with_admitted start host own), refl)
    choice false = (a.own, refl)

aside-still : (a : AgentState) → Aside a (becomes a)
aside-still a = record { start = refl; decided = refl; waiting = refl; initiating = refl; sends = λ c. refl }

aside-client : (a : AgentState) (call : ℕ) (e : End) (client : Option ℕ) → Aside a (answers_client a call e client)
aside-client a call e None = aside-still a
aside-client a call e (Some n) = record { start = refl; decided = refl; waiting = refl; initiating = refl; sends = λ c. refl }

aside-if : (a : AgentState) (c : Bool) (x y : Turn AgentState) → Aside a x → Aside a y → Aside a (if c then x else y)
aside-if a true x y h k = h
aside-if a false x y h k = k

aside-reply : (D : Deployment) (a : AgentState) (call : ℕ) (e : End) → Aside a (on_reply D a call e)
aside-reply D a call e =
    aside-if a (is_down_in D a.decided) (becomes a) (answers_client a call e (client_of call a.pending)) (aside-still a) (aside-client a call e (client_of call a.pending))

aside-answers : (D : Deployment) (n : ℕ) (a : AgentState) (job : Job) (e : Option End) → Aside a (answers D n a job e)
aside-answers D n a job None = aside-still a
aside-answers D n a TakeSnapshot (Some e) = aside-still a
aside-answers D n a (RunCall call client host start body) (Some e) =
    let reply = sending a (only (Agent host) (letter_to start (msg.MpReply call e))) in
    aside-if a (host == n && start == a.start) (on_reply D a call e) reply (aside-reply D a call e)
    (record { start = refl; decided = refl; waiting = refl; initiating = refl; sends = λ c. refl })

-- ---- turns

-- It is idle, and works what waits in its queue.
pub works_queue-goes : (E : Database) (S : LogState) (F : Firm) (K : Transactions) (now stamp n : ℕ) (w : Membership) → LaidOut S → LogsHold S → Books E S F K now → now ≤ stamp → Initiates S n w
    → (a : AgentState) → a.start ≡ (S.words.agents n).start → a.decided ≡ Some w → a.initiating.phase ≡ Idle → PhaseOk E S F K (term_of w) a Idle → Knows S F K a.initiating
    → (queue : List Queued) → AllByRecursion (QueuedAsked K.submitted) queue
    → InitiatorActs E S F K stamp n w a (works_queue E S.words.deployment n a queue)
works_queue-goes E S F K now stamp n w lay H B l i a start word phase k knows [] asked =
    goes-still E S F K stamp n w a now (record a { initiating = record a.initiating { queue = [] } }) B l refl refl refl
    (subst (λ q. PhaseOk E S F K (term_of w) (record a { initiating = record a.initiating { queue = [] } }) q) (sym phase) k)
    (record { rise = knows.rise; covers = knows.covers; decided = knows.decided; fresh = knows.fresh; from = knows.from; first = knows.first; outcome = knows.outcome })
works_queue-goes E S F K now stamp n w lay H B l i a start word phase k knows (ToRun job ∷ later) asked =
    by_known (known_of job a.initiating.replies) refl
    (λ b s d p o x. works_queue-goes E S F K now stamp n w lay H B l i b s d p o x later asked.1)
  where
    -- nothing is at hand
    logs : AllByRecursion (FromLogs S F K.submitted K.heard) a.initiating.replies
    logs = undecided-logs S F K.submitted K.heard a.initiating.work (λ x o is decision. none-and-some k.1 is) a.initiating.replies knows.from

    by_known : (known : Known) → known_of job a.initiating.replies ≡ known
        → ((b : AgentState) → b.start ≡ (S.words.agents n).start → b.decided ≡ Some w → b.initiating.phase ≡ Idle → PhaseOk E S F K (term_of w) b Idle → Knows S F K b.initiating
        → InitiatorActs E S F K stamp n w b (works_queue E S.words.deployment n b later))
        → InitiatorActs E S F K stamp n w a (works_known E S.words.deployment n a job later known (λ b. works_queue E S.words.deployment n b later))
    by_known IsNew new goes_on =
        let b = with_queue a later in
        goes-from E S F K stamp n w a K b (begins E S.words.deployment b job) refl refl (omega arith) refl refl refl
        (begins-goes E S F K now stamp n w lay H B l i b word k.0 k.2 k.3 job knows.rise (subst (CoversIn S K a.initiating.replies) phase knows.covers) logs new)
    by_known (IsAnswered e) answered goes_on =
        let t = answers S.words.deployment n a job (Some e) in
        let r = aside-answers S.words.deployment n a job (Some e) in
        goes-then E S F K stamp n w a t (λ b. works_queue E S.words.deployment n b later) r
        (answers-tell S F S.words.deployment n a job (Some e) (job-answered E S F K now B k.3 a.initiating.replies logs job asked.0 e answered)) (goes_on t.state (r.start ∙ start) (r.decided ∙ word)
        (ap (λ x. x.phase) r.initiating ∙ phase)
        (k.0, ap (λ x. x.work) r.initiating ∙ k.1, subst (λ x. K.number < x.next) (sym r.initiating) k.2, k.3)
        (subst (Knows S F K) (sym r.initiating) knows))
    by_known IsPast past goes_on = goes_on a start word phase k knows
works_queue-goes E S F K now stamp n w lay H B l i a start word phase k knows (Admission from host term ∷ later) asked =
    let (own, is) = admitting-initiating a a.own a.decided from host term in
    let b = record a { own = own } in
    subst (λ x. InitiatorActs E S F K stamp n w a (works_queue E S.words.deployment n x later)) (sym is)
    (goes-from E S F K stamp n w a K b (works_queue E S.words.deployment n b later) refl refl (omega arith) refl refl refl
    (works_queue-goes E S F K now stamp n w lay H B l i b start word phase k knows later asked.1))

-- Where all is settled and nothing is at hand.
module _ (E : Database) (S : LogState) (F : Firm) (K : Transactions) (now stamp n : ℕ) (w : Membership) (lay : LaidOut S) (H : LogsHold S) (B : Books E S F K now) (l : now ≤ stamp)
    (i : Initiates S n w) (a : AgentState) (start : a.start ≡ (S.words.agents n).start) (word : a.decided ≡ Some w) (heard : K.heard ≡ term_of w) (next : K.number < a.initiating.next)
    (all : (p : ℕ) → IsPart S p → Settled E S F K p) (rise : RepliesRise a.initiating.replies) (covers : CoversAll S K a.initiating.replies)
    (logs : AllByRecursion (FromLogs S F K.submitted K.heard) a.initiating.replies) (queue : AllByRecursion (QueuedAsked K.submitted) a.initiating.queue) where
  rests-goes : InitiatorActs E S F K stamp n w a (rests E S.words.deployment n a)
  rests-goes =
      goes-from E S F K stamp n w a (settled E S F K now B all) (no_work a) (rests E S.words.deployment n a) refl refl (omega arith) refl refl refl
      (works_queue-goes E S F (settled E S F K now B all) now stamp n w lay H (settled-books E S F K now B all) l i (no_work a) start word refl
      (heard, refl, next, settled-rests E S F K now B all)
      (record {
        rise = rise;
        covers = covers;
        decided = λ x d is decision. absurd (none-and-some refl is);
        fresh = λ x idle is none. absurd (none-and-some refl is);
        from = all-mono _ _ (λ r. inl) a.initiating.replies logs;
        first = λ z. absurd (omega (arith, z, next));
        outcome = λ x d is decision. absurd (none-and-some refl is);
      }) a.initiating.queue queue)

  -- a job begins, anew or the first time
  begins-settled : (job : Job) → known_of job a.initiating.replies ≡ IsNew → InitiatorActs E S F K stamp n w a (begins E S.words.deployment a job)
  begins-settled job new =
      goes-from E S F K stamp n w a (settled E S F K now B all) a (begins E S.words.deployment a job) refl refl (omega arith) refl refl refl
      (begins-goes E S F (settled E S F K now B all) now stamp n w lay H (settled-books E S F K now B all) l i a word heard next (settled-rests E S F K now B all) job rise covers logs new)

-- `a` is the agent as the turn has it by then: with its start and word.
module _ (E : Database) (S : LogState) (F : Firm) (K : Transactions) (now stamp n : ℕ) (w : Membership) (lay : LaidOut S) (H : LogsHold S) (B : Books E S F K now) (l : now ≤ stamp)
    (i : Initiates S n w) (a : AgentState) (start : a.start ≡ (S.words.agents n).start) (word : a.decided ≡ Some w) (heard : K.heard ≡ term_of w) (next : K.number < a.initiating.next)
    (all : (p : ℕ) → IsPart S p → Settled E S F K p) (rise : RepliesRise a.initiating.replies) (covers : CoversAll S K a.initiating.replies)
    (logs : AllByRecursion (FromLogs S F K.submitted K.heard) a.initiating.replies) (queue : AllByRecursion (QueuedAsked K.submitted) a.initiating.queue) where
  pub ends_job-goes : (job : Job) (e : Option End) → AnswersJob S F job e → InitiatorActs E S F K stamp n w a (ends_job E S.words.deployment n a job e)
  ends_job-goes job e answered =
      let t = answers S.words.deployment n a job e in
      let k = aside-answers S.words.deployment n a job e in
      goes-then E S F K stamp n w a t (rests E S.words.deployment n) k (answers-tell S F S.words.deployment n a job e answered)
      (rests-goes E S F K now stamp n w lay H B l i t.state (k.start ∙ start) (k.decided ∙ word) heard (subst (λ x. K.number < x.next) (sym k.initiating) next) all
      (subst (λ x. RepliesRise x.replies) (sym k.initiating) rise) (subst (λ x. CoversAll S K x.replies) (sym k.initiating) covers)
      (subst (λ x. AllByRecursion (FromLogs S F K.submitted K.heard) x.replies) (sym k.initiating) logs) (subst (λ x. AllByRecursion (QueuedAsked K.submitted) x.queue) (sym k.initiating) queue))

  -- it runs again, unless it was run already
  again-goes : (job : Job) → JobAsked K.submitted job → (known : Known) → known_of job a.initiating.replies ≡ known → InitiatorActs E S F K stamp n w a (runs_again E S.words.deployment n a job known)
  again-goes job asked IsNew new = begins-settled E S F K now stamp n w lay H B l i a start word heard next all rise covers logs queue job new
  again-goes job asked (IsAnswered e) answered =
      ends_job-goes job (Some e) (job-answered E S F (settled E S F K now B all) now (settled-books E S F K now B all) (settled-rests E S F K now B all) a.initiating.replies logs job asked e answered)
  again-goes job asked IsPast past = ends_job-goes job None tt

  pub settles-goes : JobOk K a.initiating.work → OnSome (WorkAsked K.submitted) a.initiating.work
      → ((x : Work) (o : Outcome) → a.initiating.work ≡ Some x → x.decision ≡ Some o → OutcomeOf x.job o)
      → InitiatorActs E S F K stamp n w a (settles E S.words.deployment n a a.initiating.work)
  settles-goes ok asked outcome = choice a.initiating.work ok asked outcome
    where
      choice : (work : Option Work) → JobOk K work → OnSome (WorkAsked K.submitted) work → ((x : Work) (o : Outcome) → work ≡ Some x → x.decision ≡ Some o → OutcomeOf x.job o)
          → InitiatorActs E S F K stamp n w a (settles E S.words.deployment n a work)
      choice None ok asked outcome = rests-goes E S F K now stamp n w lay H B l i a start word heard next all rise covers logs queue
      choice (Some x) ok asked outcome = by_decision x.decision refl
        where
          by_decision : (o : Option Outcome) → x.decision ≡ o → InitiatorActs E S F K stamp n w a (elim o as (λ _. Turn AgentState) [
            | None ↦ runs_again E S.words.deployment n a x.job (known_of x.job a.initiating.replies)
            | Some o ↦ ends_job E S.words.deployment n a x.job (end_of o)
          ])
          by_decision None is = again-goes x.job asked (known_of x.job a.initiating.replies) refl
          by_decision (Some o) is = ends_job-goes x.job (end_of o) (decided-answered E S F K now B all x.job o (ok.1 o is) (outcome x o refl is))
