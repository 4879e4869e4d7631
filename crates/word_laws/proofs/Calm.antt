-- What the handlers of an agent do that bring no word: one walk over them all, of which the laws take what they ask for. A handler
-- that is changed, or a message that an agent says besides, is mended here.
use Rattle.std.proofs.Common.{◌≡◌, Bool, true, false, List, [], ◌∷◌, ◌++◌, refl, sym, subst, ap, ◌∙◌, ◌⊎◌, inl, inr, ◌==◌, arith}
use Rattle.std.proofs.lemmas.Bool.{and_parts, eqb-true}
use Rattle.std.proofs.lemmas.Bool.Decides.{nat_tests}
use Rattle.std.specs.Prelude.{ℕ, ◌&&◌, if◌then◌else◌, nat_lt, Option, Some, None}
use Rattle.std.specs.List.{AllByRecursion, list_all}
use Rattle.volt_base.specs.declared.entry.Outcome.{Outcome}
use Rattle.volt_wire.specs.Word.{Membership}
use Rattle.volt_wire.specs.declared.actor.Actor.{Actor}
use Rattle.volt_wire.specs.declared.actor.Actor.TheVariants.{Director, Client, Agent, Site, Scanner}
use Rattle.volt_wire.specs.declared.end.End.{End}
use Rattle.volt_wire.specs.declared.end.End.TheVariants as end
use Rattle.volt_wire.specs.declared.message.Msg.{Msg}
use Rattle.volt_wire.specs.declared.message.Msg.TheVariants as msg
use Rattle.cluster_model.specs.Engine.{Database, CoordStep, Round, Finish}
use Rattle.cluster_model.specs.Words.{Deployment, parts, part_of_slot, slots_of_host, all_parts, with_number, is_in, term_of, same_word, members, initiator, leader, start_of_slot, is_member, part_down, with_admitted, is_some_of}
use Rattle.cluster_model.specs.Letters.{Blocks, same, Letter, Turn, becomes, sending, ◌▸◌, open_letter, letter_to, letter_in, only}
use Rattle.cluster_model.specs.AgentState.{AgentState, Work, Initiating, answers_client, on_reply, without_call, Pending}
use Rattle.cluster_model.specs.declared.initiating.Phase.{Phase}
use Rattle.cluster_model.specs.declared.initiating.Phase.TheVariants.{Off, Hears, Closes, Idle, Works}
use Rattle.cluster_model.specs.declared.initiating.Job.{Job}
use Rattle.cluster_model.specs.declared.initiating.Job.TheVariants.{RunCall, TakeSnapshot}
use Rattle.cluster_model.specs.declared.initiating.Queued.{Queued}
use Rattle.cluster_model.specs.declared.initiating.Queued.TheVariants.{ToRun, Admission}
use Rattle.cluster_model.specs.declared.initiating.Heard.{Heard}
use Rattle.cluster_model.specs.declared.known.Known.{Known}
use Rattle.cluster_model.specs.declared.known.Known.TheVariants.{IsNew, IsAnswered, IsPast}
use Rattle.cluster_model.specs.Initiator.{to_all_leaders, begins, end_of, known_of, admitting, with_queue, works_known, works_queue, if_idle, queues, answers, no_work, with_work, with_phase, all_finished, open_told, rests, ends_job, goes_on, feeds, ends_round, gathers, on_frag_done, runs_again, settles, knows_told, on_finished, done_to, closes_open, first_number, hears, on_mp_state, to_leaders, to_leader}
use Rattle.cluster_model.specs.Agent.{runner, request, asks, to_runner, hands_on, unless_down, on_call, on_hello, asks_initiator, has_loaded, on_loaded, agent_handler}
use Rattle.cluster_steps.specs.Lists.{In}
use Rattle.word_laws.specs.Histories.{IsOff}
use Rattle.cluster_steps.proofs.Lists.{all-append, all-if, same-some, in-left, in-right, in-cases, all-one}
use Rattle.word_laws.proofs.Algebra.{same_word-is}

-- ---- what is so of such a turn

-- The initiator admitted a start that waited in its queue or came just now.
pub record AdmitsNow (a : AgentState) (came : List Queued) (own : Option Membership) : Type 0 where
  pub start : ℕ
  pub host : ℕ
  pub term : ℕ
  pub word : Membership
  pub decided : Membership
  pub queued : In (Admission start host term) (a.initiating.queue ++ came)
  pub is_own : a.own ≡ Some word
  pub is_decided : a.decided ≡ Some decided
  pub same : same_word word decided ≡ true
  pub term_is : term_of word ≡ term
  pub becomes : own ≡ Some (with_admitted start host word)
  pub above : list_all (λ m. nat_lt m.1 start) (members word) ≡ true
  pub works : IsOff a.initiating.phase → ⊥

-- What the agent of host n, for which these sites have loaded, says to an actor: of words only its decided one, and to no site its
-- start, a word or a stream. Another agent hears its wish to be admitted once all its sites have loaded.
abbrev pub SaysNoWord : Deployment → ℕ → AgentState → List ℕ → Actor → Letter → Type 0
SaysNoWord D n a loaded b l = elim l.body as (λ _. Type 0) [
  | msg.Word base lost admitted ↦ ⊥
  | msg.Decided w ↦ (l.term ≡ 0) × (a.decided ≡ Some w)
  | msg.Closed o ↦ ⊥
  | msg.View w ↦ ⊥
  | msg.Start s ↦ ⊥
  | msg.StreamStart head ↦ ⊥
  | msg.Admit j ↦ (j ≡ a.start) × (same (Agent n) b ≡ false) × ((w : Membership) × (a.taken ≡ Some w) × (term_of w ≡ l.term))
      × (list_all (λ c. is_in c loaded) (slots_of_host D n) ≡ true)
  | _ ↦ Unit {0}
]

-- the admission that a message asks for
abbrev pub asked_by : Actor → Letter → List Queued
asked_by (Agent g) l = elim l.body as (λ _. List Queued) [
  | msg.Admit start ↦ Admission start g l.term ∷ []
  | _ ↦ []
]
asked_by from l = []

-- the sites that have loaded for an agent, with the one that says so
abbrev pub loaded_by : AgentState → Actor → Letter → List ℕ
loaded_by a (Site c) l = elim l.body as (λ _. List ℕ) [
  | msg.Loaded start ↦ if start == a.start then with_number c a.loaded else a.loaded
  | _ ↦ a.loaded
]
loaded_by a from l = a.loaded

-- the messages that bring words
abbrev pub BringsWord : Actor → Letter → Type 0
BringsWord (Agent g) l = elim l.body as (λ _. Type 0) [
  | msg.Word base lost admitted ↦ Unit {0}
  | msg.Decided w ↦ Unit {0}
  | msg.Closed o ↦ Unit {0}
  | _ ↦ ⊥
]
BringsWord from l = ⊥

-- From a first state on: the agent goes on, and at most admits a start. These admissions came, and these sites have loaded.
pub record CalmAt (a0 : AgentState) (came : List Queued) (loaded : List ℕ) (a : AgentState) : Type 0 where
  pub start : a.start ≡ a0.start
  pub decided : a.decided ≡ a0.decided
  pub taken : a.taken ≡ a0.taken
  pub said : a.said ≡ a0.said
  pub waiting : a.waiting ≡ a0.waiting
  pub loads : a.loaded ≡ loaded
  pub own : (a.own ≡ a0.own) ⊎ AdmitsNow a0 came a.own
  pub queue : (j h term : ℕ) → In (Admission j h term) a.initiating.queue → In (Admission j h term) (a0.initiating.queue ++ came)
  pub phase : IsOff a.initiating.phase ⊎ (IsOff a0.initiating.phase → ⊥)

-- a turn that ends so
pub record Calm (D : Deployment) (n : ℕ) (a0 : AgentState) (came : List Queued) (loaded : List ℕ) (t : Turn AgentState) : Type 0 where
  pub at : CalmAt a0 came loaded t.state
  pub open at use *
  pub sends : (b : Actor) → AllByRecursion (SaysNoWord D n a0 loaded b) (t.sends b)

-- ---- words that are the same

same_word-like : (v w d : Membership) → v.first ≡ w.first → same_word v d ≡ true → same_word w d ≡ true → v ≡ w
same_word-like v w d f e g =
    let p : v ≡ record d { first = v.first } = same_word-is v (record d { first = v.first }) refl e in
    let q : w ≡ record d { first = w.first } = same_word-is w (record d { first = w.first }) refl g in
    p ∙ ap (λ x. record d { first = x }) f ∙ sym q

-- ---- the walk

module _ (D : Deployment) (n : ℕ) (a0 : AgentState) (came : List Queued) (loaded : List ℕ) where
  abbrev At : AgentState → Type 0
  At a = CalmAt a0 came loaded a

  abbrev Is : Turn AgentState → Type 0
  Is t = Calm D n a0 came loaded t

  abbrev Says : Actor → Letter → Type 0
  Says b l = SaysNoWord D n a0 loaded b l

  -- at first the agent was the initiator
  abbrev On : Type 0
  On = IsOff a0.initiating.phase → ⊥

  -- what waits in a queue waited at first, or came
  abbrev FromFirst : List Queued → Type 0
  FromFirst q = (j h term : ℕ) → In (Admission j h term) q → In (Admission j h term) (a0.initiating.queue ++ came)

  -- where only what pends and the initiator's part are other ones
  at-with : (a : AgentState) (pending : List Pending) (i : Initiating) → At a → FromFirst i.queue → IsOff i.phase ⊎ On
      → At (record a { pending = pending; initiating = i })
  at-with a pending i h queue phase = record {
    start = h.start;
    decided = h.decided;
    taken = h.taken;
    said = h.said;
    waiting = h.waiting;
    loads = h.loads;
    own = h.own;
    queue = queue;
    phase = phase;
  }

  at-pends : (a : AgentState) (pending : List Pending) → At a → At (record a { pending = pending })
  at-pends a pending h = at-with a pending a.initiating h h.queue h.phase

  at-initiating : (a : AgentState) (i : Initiating) → At a → FromFirst i.queue → IsOff i.phase ⊎ On → At (record a { initiating = i })
  at-initiating a i h queue phase = at-with a a.pending i h queue phase

  stays : (a : AgentState) → At a → Is (becomes a)
  stays a h = record { at = h; sends = λ b. tt }

  calm-if : (c : Bool) (x y : Turn AgentState) → Is x → Is y → Is (if c then x else y)
  calm-if true x y p q = p
  calm-if false x y p q = q

  at-if : (c : Bool) (x y : AgentState) → At x → At y → At (if c then x else y)
  at-if true x y p q = p
  at-if false x y p q = q

  then-calm : (t : Turn AgentState) (f : AgentState → Turn AgentState) → Is t → (At t.state → Is (f t.state)) → Is (t ▸ f)
  then-calm t f h k = let r = k h.at in record {
    at = r.at;
    sends = λ b. all-append (Says b) (t.sends b) ((f t.state).sends b) (h.sends b) (r.sends b);
  }

  -- one message to one actor
  says-one : (a : AgentState) (to : Actor) (l : Letter) → ((b : Actor) → same to b ≡ true → Says b l) → At a → Is (sending a (only to l))
  says-one a to l p h = record { at = h; sends = λ b. all-one (Says b) (same to b) l (p b) }

  -- ---- to the leaders of the partitions

  leaders-say : (w : Membership) (parts : ℕ → Bool) (m : Msg Blocks) → ((b : Actor) (term start : ℕ) → Says b (letter_in term start m))
      → (b : Actor) → AllByRecursion (Says b) (to_leaders D w parts m b)
  leaders-say w parts m p (Site c) =
      all-if (Says (Site c)) (parts (part_of_slot D c) && is_some_of (leader D w (part_of_slot D c)) c) _ [] (one (start_of_slot D w c)) tt
    where
      one : (start : Option ℕ) → AllByRecursion (Says (Site c)) (to_leader D w m c start)
      one None = tt
      one (Some start) = (p (Site c) (term_of w) start, tt)
  leaders-say w parts m p Director = tt
  leaders-say w parts m p (Client c) = tt
  leaders-say w parts m p (Agent g) = tt
  leaders-say w parts m p (Scanner c) = tt

  all_leaders-say : (w : Option Membership) (m : Msg Blocks) → ((b : Actor) (term start : ℕ) → Says b (letter_in term start m))
      → (b : Actor) → AllByRecursion (Says b) (to_all_leaders D w m b)
  all_leaders-say None m p b = tt
  all_leaders-say (Some w) m p b = leaders-say w (λ x. nat_lt x (parts D)) m p b

  done_to-say : (w : Option Membership) (parts : List ℕ) (m : ℕ) (o : Outcome) (b : Actor) → AllByRecursion (Says b) (done_to D w parts m o b)
  done_to-say None parts m o b = tt
  done_to-say (Some w) parts m o b = leaders-say w (λ x. is_in x parts) (msg.Done m o) (λ c t k. tt) b

  -- ---- answers

  answers_client-calm : (a : AgentState) (call : ℕ) (e : End) (client : Option ℕ) → At a → Is (answers_client a call e client)
  answers_client-calm a call e None h = stays a h
  answers_client-calm a call e (Some c) h =
      says-one (record a { pending = without_call call a.pending }) (Client c) (open_letter (msg.Answer call e)) (λ b q. tt) (at-pends a _ h)

  on_reply-calm : (a : AgentState) (call : ℕ) (e : End) → At a → Is (on_reply D a call e)
  on_reply-calm a call e h = calm-if _ _ _ (stays a h) (answers_client-calm a call e _ h)

  answers-calm : (a : AgentState) (job : Job) (e : Option End) → At a → Is (answers D n a job e)
  answers-calm a job None h = stays a h
  answers-calm a TakeSnapshot (Some e) h = stays a h
  answers-calm a (RunCall call client host start body) (Some e) h =
      calm-if (host == n && start == a.start) (on_reply D a call e) (sending a (only (Agent host) (letter_to start (msg.MpReply call e))))
      (on_reply-calm a call e h) (says-one a (Agent host) (letter_to start (msg.MpReply call e)) (λ b q. tt) h)

  -- ---- the initiator's part

  begins-calm : (E : Database) (a : AgentState) (job : Job) → On → At a → Is (begins E D a job)
  begins-calm E a (RunCall call client host start body) on h =
      record { at = at-initiating a _ h h.queue (inr on); sends = all_leaders-say a.decided _ (λ b t k. tt) }
  begins-calm E a TakeSnapshot on h = record { at = at-initiating a _ h h.queue (inr on); sends = all_leaders-say a.decided _ (λ b t k. tt) }

  -- A second admission in one run can be only at the word of the first one, which that one left as it was.
  admits-again : (now : Option Membership) (own decided : Membership)
      → (now ≡ a0.own) ⊎ AdmitsNow a0 came now → now ≡ Some own → a0.decided ≡ Some decided → same_word own decided ≡ true → a0.own ≡ Some own
  admits-again now own decided (inl e) is d same = sym e ∙ is
  admits-again now own decided (inr m) is d same =
      let q : own ≡ with_admitted m.start m.host m.word = same-some (sym is ∙ m.becomes) in
      let f : own.first ≡ m.word.first = ap (λ x. x.first) q in
      let k : m.decided ≡ decided = same-some (sym m.is_decided ∙ d) in
      let p : own ≡ m.word = same_word-like own m.word decided f same (rw k at m.same) in
      rw p m.is_own

  admitting-calm : (a : AgentState) (own decided : Option Membership) (start host term : ℕ)
      → On → In (Admission start host term) (a0.initiating.queue ++ came) → a.own ≡ own → a.decided ≡ decided → At a → At (admitting a own decided start host term)
  admitting-calm a None decided start host term on asked o d h = h
  admitting-calm a (Some own) None start host term on asked o d h = h
  admitting-calm a (Some own) (Some decided) start host term on asked o d h = choice (same_word own decided && term_of own == term && list_all (λ m. nat_lt m.1 start) (members own)) refl
    where
      choice : (c : Bool) → (same_word own decided && term_of own == term && list_all (λ m. nat_lt m.1 start) (members own)) ≡ c → At (if c then record a { own = Some (with_admitted start host own) } else a)
      choice false e = h
      choice true e =
          let both = and_parts (same_word own decided && term_of own == term) (list_all (λ m. nat_lt m.1 start) (members own)) e in
          let (like, at) = and_parts (same_word own decided) (term_of own == term) both.0 in
          record {
            start = h.start;
            decided = h.decided;
            taken = h.taken;
            said = h.said;
            waiting = h.waiting;
            loads = h.loads;
            own = inr (record {
              start = start;
              host = host;
              term = term;
              word = own;
              decided = decided;
              queued = asked;
              is_own = admits-again a.own own decided h.own o (sym h.decided ∙ d) like;
              is_decided = sym h.decided ∙ d;
              same = like;
              term_is = eqb-true (term_of own) term at;
              becomes = refl;
              above = both.1;
              works = on;
            });
            queue = h.queue;
            phase = h.phase;
          }

  -- a job of the queue, and what goes on behind it
  works_known-calm : (E : Database) (a : AgentState) (job : Job) (later : List Queued) (k : Known) (goes_on : AgentState → Turn AgentState)
      → On → FromFirst later → ((b : AgentState) → At b → Is (goes_on b)) → At a → Is (works_known E D n a job later k goes_on)
  works_known-calm E a job later IsNew goes_on on from more h = begins-calm E (with_queue a later) job on (at-initiating a (with_queue a later).initiating h from h.phase)
  works_known-calm E a job later (IsAnswered e) goes_on on from more h =
      then-calm (answers D n a job (Some e)) goes_on (answers-calm a job (Some e) h) (λ k. more (answers D n a job (Some e)).state k)
  works_known-calm E a job later IsPast goes_on on from more h = more a h

  -- the queue of an initiator, of which it may admit a start
  works_queue-calm : (E : Database) (a : AgentState) (q : List Queued) → On → FromFirst q → At a → Is (works_queue E D n a q)
  works_queue-calm E a [] on from h = stays (with_queue a []) (at-initiating a (with_queue a []).initiating h (λ j k term i. elim i [ ]) h.phase)
  works_queue-calm E a (ToRun job ∷ later) on from h =
      let rest : FromFirst later = λ j k term i. from j k term (inr i) in
      works_known-calm E a job later (known_of job a.initiating.replies) (λ b. works_queue E D n b later) on rest (λ b. works_queue-calm E b later on rest) h
  works_queue-calm E a (Admission start host term ∷ later) on from h =
      works_queue-calm E (admitting a a.own a.decided start host term) later on (λ j k term i. from j k term (inr i))
      (admitting-calm a a.own a.decided start host term on (from start host term (inl refl)) refl refl h)

  if_idle-calm : (E : Database) (a : AgentState) (phase : Phase) → IsOff phase ⊎ On → At a → Is (if_idle E D n a phase)
  if_idle-calm E a Idle (inl off) h = absurd off
  if_idle-calm E a Idle (inr on) h = works_queue-calm E a a.initiating.queue on h.queue h
  if_idle-calm E a Off on h = stays a h
  if_idle-calm E a (Hears told) on h = stays a h
  if_idle-calm E a (Closes m parts finished) on h = stays a h
  if_idle-calm E a Works on h = stays a h

  queues-calm : (E : Database) (a : AgentState) (q : Queued) → FromFirst (q ∷ []) → At a → Is (queues E D n a q)
  queues-calm E a q from h =
      let b = with_queue a (a.initiating.queue ++ q ∷ []) in
      if_idle-calm E b b.initiating.phase h.phase
      (at-initiating a b.initiating h
      (λ j k term i. elim (in-cases (Admission j k term) a.initiating.queue (q ∷ []) i) [
        | inl p ↦ h.queue j k term p
        | inr p ↦ from j k term p
      ]) h.phase)

  -- a job is no admission
  job-none : (job : Job) → FromFirst (ToRun job ∷ [])
  job-none job j h term (inl e) = absurd (cc)
  job-none job j h term (inr i) = elim i [ ]

  rests-calm : (E : Database) (a : AgentState) → On → At a → Is (rests E D n a)
  rests-calm E a on h = works_queue-calm E (no_work a) a.initiating.queue on h.queue (at-initiating a (no_work a).initiating h h.queue (inr on))

  ends_job-calm : (E : Database) (a : AgentState) (job : Job) (e : Option End) → On → At a → Is (ends_job E D n a job e)
  ends_job-calm E a job e on h = then-calm (answers D n a job e) (rests E D n) (answers-calm a job e h) (λ k. rests-calm E (answers D n a job e).state on k)

  work-at : (a : AgentState) (w : Work) → On → At a → At (with_work a w)
  work-at a w on h = at-initiating a (with_work a w).initiating h h.queue (inr on)

  phase-at : (a : AgentState) (p : Phase) → On → At a → At (with_phase a p)
  phase-at a p on h = at-initiating a (with_phase a p).initiating h h.queue (inr on)

  goes_on-calm : (stamp : ℕ) (a : AgentState) (w : Work) (next : CoordStep) → On → At a → Is (goes_on D stamp a w next)
  goes_on-calm stamp a w (Round body) on h = record { at = work-at a _ on h; sends = all_leaders-say a.decided _ (λ b t k. tt) }
  goes_on-calm stamp a w (Finish keep reply) on h =
      record { at = at-initiating a (goes_on D stamp a w (Finish keep reply)).state.initiating h h.queue (inr on); sends = all_leaders-say a.decided _ (λ b t k. tt) }

  feeds-calm : (E : Database) (stamp : ℕ) (a : AgentState) (w : Work) (body : List ℕ) (asked : CoordStep) → On → At a → Is (feeds E D stamp a w body asked)
  feeds-calm E stamp a w body (Finish keep reply) on h = goes_on-calm stamp a w (Finish keep reply) on h
  feeds-calm E stamp a w body (Round asked) on h = goes_on-calm stamp a _ _ on h

  ends_round-calm : (E : Database) (stamp : ℕ) (a : AgentState) (w : Work) (job : Job) → On → At a → Is (ends_round E D stamp a w job)
  ends_round-calm E stamp a w (RunCall call client host start body) on h = feeds-calm E stamp a w body (E.asks body w.fed) on h
  ends_round-calm E stamp a w TakeSnapshot on h = stays a h

  gathers-calm : (E : Database) (stamp : ℕ) (a : AgentState) (w : Work) → On → At a → Is (gathers E D stamp a w)
  gathers-calm E stamp a w on h = calm-if _ _ _ (ends_round-calm E stamp a w w.job on h) (stays (with_work a w) (work-at a w on h))

  on_frag_done-calm : (E : Database) (stamp : ℕ) (a : AgentState) (phase : Phase) (work : Option Work) (p m round : ℕ) (partial : List ℕ)
      → IsOff phase ⊎ On → At a → Is (on_frag_done E D stamp a phase work p m round partial)
  on_frag_done-calm E stamp a Works (Some w) p m round partial (inl off) h = absurd off
  on_frag_done-calm E stamp a Works (Some w) p m round partial (inr on) h = calm-if _ _ _ (gathers-calm E stamp a _ on h) (stays a h)
  on_frag_done-calm E stamp a Works None p m round partial on h = stays a h
  on_frag_done-calm E stamp a Off work p m round partial on h = stays a h
  on_frag_done-calm E stamp a (Hears told) work p m round partial on h = stays a h
  on_frag_done-calm E stamp a (Closes c parts finished) work p m round partial on h = stays a h
  on_frag_done-calm E stamp a Idle work p m round partial on h = stays a h

  runs_again-calm : (E : Database) (a : AgentState) (job : Job) (k : Known) → On → At a → Is (runs_again E D n a job k)
  runs_again-calm E a job IsNew on h = begins-calm E a job on h
  runs_again-calm E a job (IsAnswered e) on h = ends_job-calm E a job (Some e) on h
  runs_again-calm E a job IsPast on h = ends_job-calm E a job None on h

  settles-calm : (E : Database) (a : AgentState) (work : Option Work) → On → At a → Is (settles E D n a work)
  settles-calm E a None on h = rests-calm E a on h
  settles-calm E a (Some w) on h = elim w.decision as (λ x. Is (elim x as (λ _. Turn AgentState) [
    | None ↦ runs_again E D n a w.job (known_of w.job a.initiating.replies)
    | Some o ↦ ends_job E D n a w.job (end_of o)
  ])) [
    | None ↦ runs_again-calm E a w.job (known_of w.job a.initiating.replies) on h
    | Some o ↦ ends_job-calm E a w.job (end_of o) on h
  ]

  on_finished-calm : (E : Database) (a : AgentState) (phase : Phase) (work : Option Work) (p m : ℕ) → IsOff phase ⊎ On → At a → Is (on_finished E D n a phase work p m)
  on_finished-calm E a Works (Some w) p m (inl off) h = absurd off
  on_finished-calm E a Works (Some w) p m (inr on) h =
      let done = record w { finished = p ∷ w.finished } in
      let k = work-at a done on h in
      elim w.decision as (λ x. Is (elim x as (λ _. Turn AgentState) [
        | None ↦ becomes a
        | Some o ↦
            if w.transaction == m
            then (if all_finished (all_parts D) done.finished then ends_job E D n (with_work a done) w.job (end_of o) else becomes (with_work a done))
            else becomes a
      ])) [
        | None ↦ stays a h
        | Some o ↦ calm-if _ _ _ (calm-if _ _ _ (ends_job-calm E (with_work a done) w.job (end_of o) on k) (stays (with_work a done) k)) (stays a h)
      ]
  on_finished-calm E a Works None p m on h = stays a h
  on_finished-calm E a (Closes closing parts finished) work p m (inl off) h = absurd off
  on_finished-calm E a (Closes closing parts finished) work p m (inr on) h =
      let next = Closes closing parts (p ∷ finished) in
      calm-if _ _ _ (calm-if _ _ _ (settles-calm E a work on h) (stays (with_phase a next) (phase-at a next on h))) (stays a h)
  on_finished-calm E a Off work p m on h = stays a h
  on_finished-calm E a (Hears told) work p m on h = stays a h
  on_finished-calm E a Idle work p m on h = stays a h

  closes_open-calm : (E : Database) (a : AgentState) (told : List Heard) (m : Option ℕ) → On → At a → Is (closes_open E D n a told m)
  closes_open-calm E a told None on h = settles-calm E a a.initiating.work on h
  closes_open-calm E a told (Some m) on h = record { at = phase-at a _ on h; sends = done_to-say a.decided _ m _ }

  hears-calm : (E : Database) (a : AgentState) (told : List Heard) → On → At a → Is (hears E D n a told)
  hears-calm E a told on h = calm-if _ _ _
      (let b = first_number a told in
      let k = at-if (a.initiating.next == 0) _ a (at-initiating a _ h h.queue h.phase) h in
      closes_open-calm E (knows_told b told) told (open_told told) on (at-initiating b (knows_told b told).initiating k k.queue k.phase))
      (stays (with_phase a (Hears told)) (phase-at a (Hears told) on h))

  on_mp_state-calm : (E : Database) (a : AgentState) (phase : Phase) (t : Heard) → IsOff phase ⊎ On → At a → Is (on_mp_state E D n a phase t)
  on_mp_state-calm E a (Hears told) t (inl off) h = absurd off
  on_mp_state-calm E a (Hears told) t (inr on) h = calm-if _ _ _ (stays a h) (hears-calm E a _ on h)
  on_mp_state-calm E a Off t on h = stays a h
  on_mp_state-calm E a (Closes c parts finished) t on h = stays a h
  on_mp_state-calm E a Idle t on h = stays a h
  on_mp_state-calm E a Works t on h = stays a h

  -- ---- calls

  -- a call that is asked for says no word
  pub asks-say : (start : ℕ) (p : Pending) (to : Actor × ℕ) (b : Actor) → AllByRecursion (Says b) (asks start p to b)
  asks-say start p to b = all-one (Says b) (same to.0 b) (letter_to to.1 (request start p p.part)) (λ q. plain p.part)
    where
      plain : (part : Option ℕ) → Says b (letter_to to.1 (request start p part))
      plain None = tt
      plain (Some part) = tt

  to_runner-calm : (a : AgentState) (p : Pending) (to : Option (Actor × ℕ)) → At a → Is (to_runner a p to)
  to_runner-calm a p None h = stays a h
  to_runner-calm a p (Some to) h = record { at = at-pends a _ h; sends = asks-say a.start p to }

  hands_on-calm : (a : AgentState) (w : Membership) (c call : ℕ) (part : Option ℕ) (body : List ℕ) → At a → Is (hands_on D a w c call part body)
  hands_on-calm a w c call part body h =
      to_runner-calm a (record { call = call; client = c; part = part; body = body; target = 0 }) (runner D w part) h

  unless_down-calm : (a : AgentState) (w : Membership) (c call : ℕ) (part : Option ℕ) (body : List ℕ) (down : Option ℕ) → At a → Is (unless_down D a w c call part body down)
  unless_down-calm a w c call part body (Some down) h = says-one a (Client c) (open_letter (msg.Answer call (end.Down down))) (λ b q. tt) h
  unless_down-calm a w c call part body None h = hands_on-calm a w c call part body h

  on_call-calm : (a : AgentState) (w : Option Membership) (c call start : ℕ) (part : Option ℕ) (body : List ℕ) → At a → Is (on_call D a w c call start part body)
  on_call-calm a None c call start part body h = stays a h
  on_call-calm a (Some w) c call start part body h =
      calm-if (start == a.start) (unless_down D a w c call part body (part_down D w)) (becomes a) (unless_down-calm a w c call part body (part_down D w) h) (stays a h)

  -- ---- a joiner's hello, and its wish to be admitted

  on_hello-calm : (a : AgentState) (w : Option Membership) (host start : ℕ) → a0.decided ≡ w → At a → Is (on_hello n a w host start)
  on_hello-calm a None host start d h = stays a h
  on_hello-calm a (Some w) host start d h =
      calm-if (is_member w n a.start) (sending a (only (Agent host) (letter_to start (msg.Decided w)))) (becomes a)
      (says-one a (Agent host) (letter_to start (msg.Decided w)) (λ b q. (refl, d)) h) (stays a h)

  asks_initiator-calm : (a : AgentState) (w : Membership) (first : Option (ℕ × ℕ)) → a0.taken ≡ Some w → list_all (λ c. is_in c loaded) (slots_of_host D n) ≡ true
      → At a → Is (asks_initiator n a w first)
  asks_initiator-calm a w None t all h = stays a h
  asks_initiator-calm a w (Some first) t all h = choice (first.0 == n) refl
    where
      -- it asks another host's
      apart : (b : Actor) → (first.0 == n) ≡ false → same (Agent first.0) b ≡ true → same (Agent n) b ≡ false
      apart (Agent g) e f = grind (arith, nat_tests, e, f)
      apart Director e f = refl
      apart (Client g) e f = refl
      apart (Site g) e f = refl
      apart (Scanner g) e f = refl

      choice : (c : Bool) → (first.0 == n) ≡ c → Is (if c then becomes a else sending a (only (Agent first.0) (letter_in (term_of w) first.1 (msg.Admit a.start))))
      choice true e = stays a h
      choice false e = says-one a (Agent first.0) (letter_in (term_of w) first.1 (msg.Admit a.start)) (λ b q. (h.start, apart b e q, (w, t, refl), all)) h

  has_loaded-calm : (a : AgentState) (w : Option Membership) → a0.taken ≡ w → At a → Is (has_loaded D n a w)
  has_loaded-calm a None t h = stays a h
  has_loaded-calm a (Some w) t h = choice (list_all (λ s. is_in s a.loaded) (slots_of_host D n)) refl
    where
      choice : (c : Bool) → list_all (λ s. is_in s a.loaded) (slots_of_host D n) ≡ c → Is (if c then asks_initiator n a w (initiator w) else becomes a)
      choice true e = asks_initiator-calm a w (initiator w) t (subst (λ xs. list_all (λ s. is_in s xs) (slots_of_host D n) ≡ true) h.loads e) h
      choice false e = stays a h

-- ---- the handlers

-- at the first state itself
at-first : (a : AgentState) (came : List Queued) → CalmAt a came a.loaded a
at-first a came = record {
  start = refl;
  decided = refl;
  taken = refl;
  said = refl;
  waiting = refl;
  loads = refl;
  own = inl refl;
  queue = λ j h term i. in-left (Admission j h term) a.initiating.queue came i;
  phase = off-or a.initiating.phase;
}
  where
    off-or : (p : Phase) → IsOff p ⊎ (IsOff p → ⊥)
    off-or Off = inl tt
    off-or (Hears told) = inr (λ x. x)
    off-or (Closes m parts finished) = inr (λ x. x)
    off-or Idle = inr (λ x. x)
    off-or Works = inr (λ x. x)

on_loaded-calm : (D : Deployment) (n : ℕ) (a : AgentState) (slot start : ℕ)
    → Calm D n a [] (if start == a.start then with_number slot a.loaded else a.loaded) (on_loaded D n a slot start)
on_loaded-calm D n a slot start = choice (start == a.start)
  where
    b : AgentState
    b = record a { loaded = with_number slot a.loaded }

    more : CalmAt a [] b.loaded b
    more = let h = at-first a [] in
        record { start = refl; decided = refl; taken = refl; said = refl; waiting = refl; loads = refl; own = inl refl; queue = h.queue; phase = h.phase }

    choice : (c : Bool) → Calm D n a [] (if c then b.loaded else a.loaded) (if c then has_loaded D n b a.taken else becomes a)
    choice true = has_loaded-calm D n a [] b.loaded b a.taken refl more
    choice false = stays D n a [] a.loaded a (at-first a [])

module _ (E : Database) (D : Deployment) (n stamp : ℕ) (a : AgentState) where
  -- a handler that goes on from the agent as it is, and what it does then
  abbrev Calmly : Actor → Letter → Type 0
  Calmly from l = Calm D n a (asked_by from l) (loaded_by a from l) (agent_handler E D n stamp a from l)

  from_agent-calm : (g : ℕ) (l : Letter) → (BringsWord (Agent g) l → ⊥) → Calmly (Agent g) l
  from_agent-calm g l none = elim l.body as (λ m. (BringsWord (Agent g) (record l { body = m }) → ⊥) → Calmly (Agent g) (record l { body = m })) [
    | msg.Closed start ↦ λ k. absurd (k tt)
    | msg.Word base lost admitted ↦ λ k. absurd (k tt)
    | msg.Hello start ↦ λ k. on_hello-calm D n a [] a.loaded a a.decided g start refl (at-first a [])
    | msg.Decided w ↦ λ k. absurd (k tt)
    | msg.MpCall call start client body ↦ λ k. let job = RunCall call client g start body in queues-calm D n a [] a.loaded E a (ToRun job) (job-none D n a [] a.loaded job) (at-first a [])
    | msg.MpReply call e ↦ λ k. on_reply-calm D n a [] a.loaded a call e (at-first a [])
    | msg.Admit start ↦ λ k. let came = Admission start g l.term ∷ [] in
        queues-calm D n a came a.loaded E a (Admission start g l.term) (λ j h term i. in-right (Admission j h term) a.initiating.queue came i) (at-first a came)
    | m ↦ λ k. stays D n a [] a.loaded a (at-first a [])
  ] none

  from_site-calm : (s : ℕ) (l : Letter) → Calmly (Site s) l
  from_site-calm s l = let h = at-first a [] in elim l.body as (λ m. Calmly (Site s) (record l { body = m })) [
    | msg.Reply call start e ↦ on_reply-calm D n a [] a.loaded a call e h
    | msg.FragDone m round partial ↦ on_frag_done-calm D n a [] a.loaded E stamp a a.initiating.phase a.initiating.work (part_of_slot D s) m round partial h.phase h
    | msg.Finished m ↦ on_finished-calm D n a [] a.loaded E a a.initiating.phase a.initiating.work (part_of_slot D s) m h.phase h
    | msg.MpState m is_open outcome replies ↦ on_mp_state-calm D n a [] a.loaded E a a.initiating.phase _ h.phase h
    | msg.Loaded start ↦ on_loaded-calm D n a s start
    | m ↦ stays D n a [] a.loaded a h
  ]

  from_director-calm : (l : Letter) → Calmly Director l
  from_director-calm l = let h = at-first a [] in elim l.body as (λ m. Calmly Director (record l { body = m })) [
    | msg.Snap ↦ calm-if D n a [] a.loaded _ (queues E D n a (ToRun TakeSnapshot)) (becomes a)
        (queues-calm D n a [] a.loaded E a (ToRun TakeSnapshot) (job-none D n a [] a.loaded TakeSnapshot) h) (stays D n a [] a.loaded a h)
    | m ↦ stays D n a [] a.loaded a h
  ]

  from_client-calm : (c : ℕ) (l : Letter) → Calmly (Client c) l
  from_client-calm c l = let h = at-first a [] in elim l.body as (λ m. Calmly (Client c) (record l { body = m })) [
    | msg.Call call start part body ↦ on_call-calm D n a [] a.loaded a a.decided c call start part body h
    | m ↦ stays D n a [] a.loaded a h
  ]

  -- A handler that brings no word changes no word but by an admission.
  pub handler-calm : (from : Actor) (l : Letter) → (BringsWord from l → ⊥) → Calmly from l
  handler-calm Director l none = from_director-calm l
  handler-calm (Client c) l none = from_client-calm c l
  handler-calm (Agent g) l none = from_agent-calm g l none
  handler-calm (Site s) l none = from_site-calm s l
  handler-calm (Scanner x) l none = stays D n a [] a.loaded a (at-first a [])
