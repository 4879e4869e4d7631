-- The turn of an agent: the calls that it keeps and asks for are those that it was asked for.
use Rattle.std.proofs.Common.{◌≡◌, Bool, true, false, List, [], ◌∷◌, ◌++◌, refl, sym, subst, ◌==◌}
use Rattle.std.proofs.lemmas.Bool.{eqb-true}
use Rattle.std.specs.Prelude.{ℕ, ◌&&◌, ◌+◌, not, nat_lt, nat_le, if◌then◌else◌, Option, Some, None, is_none, option_map}
use Rattle.std.specs.List.{AllByRecursion, list_all}
use Rattle.volt_base.specs.declared.entry.Outcome.{Outcome}
use Rattle.volt_base.specs.declared.entry.Outcome.TheVariants as outcome
use Rattle.volt_wire.specs.Word.{Membership}
use Rattle.volt_wire.specs.declared.actor.Actor.{Actor}
use Rattle.volt_wire.specs.declared.actor.Actor.TheVariants.{Director, Client, Agent, Site, Scanner}
use Rattle.volt_wire.specs.declared.end.End.{End}
use Rattle.volt_wire.specs.declared.end.End.TheVariants as end
use Rattle.volt_wire.specs.declared.message.Msg.{Msg}
use Rattle.volt_wire.specs.declared.message.Msg.TheVariants as msg
use Rattle.cluster_model.specs.Environment.{Environment, NoFault, DiskFails, NoMemory, DisksShow}
use Rattle.cluster_model.specs.Engine.{Database, CoordStep, Round, Finish}
use Rattle.cluster_model.specs.declared.known.Known.{Known}
use Rattle.cluster_model.specs.declared.known.Known.TheVariants.{IsNew, IsAnswered, IsPast}
use Rattle.cluster_model.specs.Words.{Deployment, parts, all_parts, part_of_slot, is_host, is_client, is_slot_of, slots_of_host, is_in, with_number, term_of, term_in, same_word, members, start_of, is_member, admits, with_admitted, initiator, leader, start_of_slot, part_down, is_down}
use Rattle.cluster_model.specs.Letters.{Blocks, Letter, Sends, Turn, becomes, ◌▸◌, open_letter, letter_to, letter_in, only, same, Arrival, arrival, Taken, Refused, Waits, Waiting, of_term, above_term}
use Rattle.cluster_model.specs.declared.initiating.Job.{Job}
use Rattle.cluster_model.specs.declared.initiating.Job.TheVariants.{RunCall, TakeSnapshot}
use Rattle.cluster_model.specs.declared.initiating.Queued.{Queued}
use Rattle.cluster_model.specs.declared.initiating.Queued.TheVariants.{ToRun, Admission}
use Rattle.cluster_model.specs.declared.initiating.Heard.{Heard}
use Rattle.cluster_model.specs.declared.initiating.Phase.{Phase}
use Rattle.cluster_model.specs.declared.initiating.Phase.TheVariants.{Off, Hears, Closes, Idle, Works}
use Rattle.cluster_model.specs.AgentState.{AgentState, Pending, Work, new_agent, initiates, client_of, with_pending, without_call, answers_client, on_reply, is_down_in, closes, stops, stops_with_host}
use Rattle.cluster_model.specs.Initiator.{to_leader, to_leaders, to_all_leaders, with_phase, with_work, no_work, body_of_round, begins, answers, known_of, admitting, with_queue, works_known, works_queue, if_idle, queues, rests, ends_job, has_part, in_order, outcome_of, decides, goes_on, feeds, ends_round, gathers, on_frag_done, runs_again, settles, all_finished, on_finished, done_to, closes_open, closing_outcome, own_decision, open_parts, open_told, first_number, knows_told, has_told, on_mp_state, on_decided_word, end_of}
use Rattle.cluster_model.specs.Agent.{with_start, runner, request, asks, to_runner, unless_down, on_call, on_closed, on_word, on_hello, takes_word, is_passed_over, on_decided, asks_initiator, has_loaded, on_loaded, is_other_word, word_to, says, may_decide, goes_again, with_target, asked_again, asks_if, asks_again, decided_sends, decides_word, agrees, from_agent, from_site, from_director, from_client, agent_handler, handler_and_word, unless_stopped, takes_each, takes_waiting, on_start, takes_start, on_stop, agent_runs, agent_takes, start_after, agent_turn}
use Rattle.cluster_steps.specs.Lists.{OnSome}
use Rattle.cluster_steps.proofs.Lists.{all-append, all-if, all-filter, all-one, none-and-some, same-some}
use Rattle.log_laws.proofs.Plain.Copies.{leader-copy}
use Rattle.call_laws.specs.Submissions.{Submissions, IsAsked, AnsweredTo, AskedIn, WaitingAsked, PendingAsked, JobAsked, QueuedAsked, WorkAsked, AgentAsks}

module _ (E : Database) (D : Deployment) (A : Submissions) (n : ℕ) where
  -- what holds of an agent, and of a message that it sends
  abbrev Good : AgentState → Type 0
  Good a = AgentAsks D A n a

  abbrev Sent : Actor → Letter → Type 0
  Sent b l = AskedIn D A (Agent n) b l

  abbrev SentAll : Sends → Type 0
  SentAll out = (b : Actor) → AllByRecursion (Sent b) (out b)

  -- A turn leaves what holds of the agent, and of all that it sends.
  pub record Asks (t : Turn AgentState) : Type 0 where
    pub state : Good t.state
    pub sends : SentAll t.sends

  -- ---- how turns are made

  stays : (a : AgentState) → Good a → Asks (becomes a)
  stays a k = record { state = k; sends = λ b. tt }

  behind : (t : Turn AgentState) (f : AgentState → Turn AgentState) → Asks t → ((a : AgentState) → Good a → Asks (f a)) → Asks (t ▸ f)
  behind t f h k = let u = k t.state h.state in record {
    state = u.state;
    sends = λ b. all-append (Sent b) (t.sends b) ((f t.state).sends b) (h.sends b) (u.sends b);
  }

  if-turn : (c : Bool) (x y : Turn AgentState) → Asks x → Asks y → Asks (if c then x else y)
  if-turn true x y h k = h
  if-turn false x y h k = k

  if-state : (c : Bool) (x y : AgentState) → Good x → Good y → Good (if c then x else y)
  if-state true x y h k = h
  if-state false x y h k = k

  -- ---- what is sent

  -- to one actor, a message that is no request on a partition
  only-plain : (to : Actor) (l : Letter) → ((b : Actor) → Sent b l) → SentAll (only to l)
  only-plain to l k b = all-if (Sent b) (same to b) (l ∷ []) [] (k b, tt) tt

  only-site : (slot : ℕ) (l : Letter) → Sent (Site slot) l → SentAll (only (Site slot) l)
  only-site slot l k (Site c) = all-one (Sent (Site c)) (slot == c) l (λ e. subst (λ x. Sent (Site x) l) (eqb-true slot c e) k)
  only-site slot l k b = tt

  only-client : (m : ℕ) (l : Letter) → Sent (Client m) l → SentAll (only (Client m) l)
  only-client m l k (Client c) = all-one (Sent (Client c)) (m == c) l (λ e. subst (λ x. Sent (Client x) l) (eqb-true m c e) k)
  only-client m l k b = tt

  leaders-plain : (w : Membership) (parts : ℕ → Bool) (m : Msg Blocks) → ((term start : ℕ) (b : Actor) → Sent b (letter_in term start m)) → SentAll (to_leaders D w parts m)
  leaders-plain w parts m k (Site s) = all-if (Sent (Site s)) _ (to_leader D w m s (start_of_slot D w s)) [] (one (start_of_slot D w s)) tt
    where
      one : (o : Option ℕ) → AllByRecursion (Sent (Site s)) (to_leader D w m s o)
      one None = tt
      one (Some start) = (k (term_of w) start (Site s), tt)
  leaders-plain w parts m k b = tt

  all-leaders : (o : Option Membership) (m : Msg Blocks) → ((term start : ℕ) (b : Actor) → Sent b (letter_in term start m)) → SentAll (to_all_leaders D o m)
  all-leaders None m k b = tt
  all-leaders (Some w) m k b = leaders-plain w (λ p. nat_lt p (parts D)) m k b

  done-leaders : (o : Option Membership) (parts : List ℕ) (m : ℕ) (z : Outcome) → SentAll (done_to D o parts m z)
  done-leaders None parts m z b = tt
  done-leaders (Some w) parts m z b = leaders-plain w (λ p. is_in p parts) (msg.Done m z) (λ term start b. tt) b

  -- ---- the calls that are pending

  without-asks : (call : ℕ) (ps : List Pending) → AllByRecursion (PendingAsked A) ps → AllByRecursion (PendingAsked A) (without_call call ps)
  without-asks call [] h = tt
  without-asks call (p ∷ ps) h = all-if (PendingAsked A) (p.call == call) ps (p ∷ without_call call ps) h.1 (h.0, without-asks call ps h.1)

  with-asks : (p : Pending) → PendingAsked A p → (ps : List Pending) → AllByRecursion (PendingAsked A) ps → AllByRecursion (PendingAsked A) (with_pending p ps)
  with-asks p k [] h = (k, tt)
  with-asks p k (q ∷ qs) h = all-if (PendingAsked A) (nat_lt p.call q.call) (p ∷ q ∷ qs) (q ∷ with_pending p qs) (k, h) (h.0, with-asks p k qs h.1)

  -- who waits for a call is its client
  client-asks : (call c : ℕ) (ps : List Pending) → AllByRecursion (PendingAsked A) ps → client_of call ps ≡ Some c → AnsweredTo A (Client c) call
  client-asks call c [] h is = absurd (none-and-some refl is)
  client-asks call c (p ∷ ps) h is = choice (p.call == call) refl is (λ q. client-asks call c ps h.1 q)
    where
      choice : (b : Bool) → (p.call == call) ≡ b → (if b then Some p.client else client_of call ps) ≡ Some c → (client_of call ps ≡ Some c → AnsweredTo A (Client c) call) → AnsweredTo A (Client c) call
      choice true e q later = (p.part, p.body, subst (λ n. IsAsked A call n p.part p.body) (same-some q) (subst (λ n. IsAsked A n p.client p.part p.body) (eqb-true p.call call e) h.0))
      choice false e q later = later q

  -- an answer to the client
  reply-asks : (a : AgentState) (call : ℕ) (e : End) → Good a → Asks (on_reply D a call e)
  reply-asks a call e k = if-turn (is_down_in D a.decided) (becomes a) _ (stays a k) (to (client_of call a.pending) refl)
    where
      to : (o : Option ℕ) → client_of call a.pending ≡ o → Asks (answers_client a call e o)
      to None is = stays a k
      to (Some c) is = record {
        state = record { pending = without-asks call a.pending k.pending; queue = k.queue; work = k.work; waiting = k.waiting };
        sends = only-client c (open_letter (msg.Answer call e)) (client-asks call c a.pending k.pending is);
      }

  -- a request goes to who runs the call
  asks-runner : (w : Membership) (start : ℕ) (p : Pending) → PendingAsked A p → OnSome (λ to. SentAll (asks start p to)) (runner D w p.part)
  asks-runner w start p k = go p.part refl
    where
      slot : (q s : ℕ) → p.part ≡ Some q → part_of_slot D s ≡ q → (o : Option ℕ) → OnSome (λ to. SentAll (asks start p to)) (option_map (λ a. (Site s, a)) o)
      slot q s e at None = tt
      slot q s e at (Some a) = subst (λ x. SentAll (only (Site s) (letter_to a (request start p x)))) (sym e)
          (only-site s (letter_to a (msg.SpCall p.call start p.client p.body)) (subst (λ x. IsAsked A p.call p.client (Some x) p.body) (sym at) (subst (λ x. IsAsked A p.call p.client x p.body) e k)))

      led : (q : ℕ) → p.part ≡ Some q → (o : Option ℕ) → leader D w q ≡ o → OnSome (λ to. SentAll (asks start p to)) (with_start D w o)
      led q e None is = tt
      led q e (Some s) is = slot q s e (leader-copy D w q s is).0 (start_of_slot D w s)

      first : p.part ≡ None → (o : Option (ℕ × ℕ)) → OnSome (λ to. SentAll (asks start p to)) (option_map (λ x. (Agent x.0, x.1)) o)
      first e None = tt
      first e (Some x) = subst (λ z. SentAll (only (Agent x.0) (letter_to x.1 (request start p z)))) (sym e)
          (only-plain (Agent x.0) (letter_to x.1 (msg.MpCall p.call start p.client p.body)) (λ b. subst (λ z. IsAsked A p.call p.client z p.body) e k))

      go : (o : Option ℕ) → p.part ≡ o → OnSome (λ to. SentAll (asks start p to)) (runner D w o)
      go (Some q) e = led q e (leader D w q) refl
      go None e = first e (initiator w)

  -- ---- a call of a client

  call-asks : (a : AgentState) (w : Option Membership) (c call start : ℕ) (part : Option ℕ) (body : List ℕ) → Good a → IsAsked A call c part body → Asks (on_call D a w c call start part body)
  call-asks a None c call start part body k is = stays a k
  call-asks a (Some w) c call start part body k is = if-turn (start == a.start) _ (becomes a) (unless (part_down D w)) (stays a k)
    where
      p : Pending
      p = record { call = call; client = c; part = part; body = body; target = 0 }

      to : (o : Option (Actor × ℕ)) → OnSome (λ x. SentAll (asks a.start p x)) o → Asks (to_runner a p o)
      to None h = stays a k
      to (Some x) h = record {
        state = record { pending = with-asks (record p { target = x.1 }) is a.pending k.pending; queue = k.queue; work = k.work; waiting = k.waiting };
        sends = h;
      }

      unless : (o : Option ℕ) → Asks (unless_down D a w c call part body o)
      unless (Some down) = record { state = k; sends = only-client c (open_letter (msg.Answer call (end.Down down))) (part, body, is) }
      unless None = to (runner D w part) (asks-runner w a.start p is)

  -- ---- words

  closed-asks : (a : AgentState) (w : Option Membership) (start : ℕ) → Good a → Good (on_closed a w start)
  closed-asks a None start k = k
  closed-asks a (Some w) start k = record { pending = k.pending; queue = k.queue; work = k.work; waiting = k.waiting }

  word-asks : (a : AgentState) (w : Option Membership) (host base : ℕ) (lost : List ℕ) (admitted : List (ℕ × ℕ)) → Good a → Good (on_word a w host base lost admitted)
  word-asks a None host base lost admitted k = k
  word-asks a (Some w) host base lost admitted k = if-state (w.base == base) _ a (record { pending = k.pending; queue = k.queue; work = k.work; waiting = k.waiting }) k

  hello-asks : (a : AgentState) (w : Option Membership) (host start : ℕ) → Good a → Asks (on_hello n a w host start)
  hello-asks a None host start k = stays a k
  hello-asks a (Some w) host start k =
      if-turn (is_member w n a.start) _ (becomes a) (record { state = k; sends = only-plain (Agent host) (letter_to start (msg.Decided w)) (λ b. tt) }) (stays a k)

  new-good : (start : ℕ) → Good (new_agent start)
  new-good start = record { pending = tt; queue = tt; work = tt; waiting = tt }

  closes-plain : (start : ℕ) → SentAll (closes D n start)
  closes-plain start (Agent g) = all-if (Sent (Agent g)) (is_host D g) _ [] (all-if (Sent (Agent g)) (g == n) [] _ tt (tt, tt)) tt
  closes-plain start (Client c) = all-if (Sent (Client c)) (is_client D c) _ [] (tt, tt) tt
  closes-plain start b = tt

  stops_host-asks : (start : ℕ) → Asks (stops_with_host D n start)
  stops_host-asks start = record { state = new-good 0; sends = out }
    where
      out : SentAll (stops_with_host D n start).sends
      out (Agent g) = closes-plain start (Agent g)
      out (Client c) = all-append (Sent (Client c)) (closes D n start (Client c)) [] (closes-plain start (Client c)) tt
      out (Site s) = all-if (Sent (Site s)) (is_slot_of D n s) _ [] (tt, tt) tt
      out (Scanner x) = all-if (Sent (Scanner x)) (is_slot_of D n x) _ [] (tt, tt) tt
      out Director = tt

  takes_word-asks : (a : AgentState) (w : Membership) → Good a → Asks (takes_word D n a w)
  takes_word-asks a w k = record { state = record { pending = k.pending; queue = k.queue; work = k.work; waiting = k.waiting }; sends = out }
    where
      out : SentAll (takes_word D n a w).sends
      out (Site s) = all-if (Sent (Site s)) (is_slot_of D n s) _ [] (tt, (tt, tt)) tt
      out b = tt

  decided-asks : (a : AgentState) (decided taken : Option Membership) (w : Membership) → Good a → Asks (on_decided D n a decided taken w)
  decided-asks a (Some d) taken w k = stays a k
  decided-asks a None None w k = if-turn (is_passed_over a.start w) (stops_with_host D n a.start) (takes_word D n a w) (stops_host-asks a.start) (takes_word-asks a w k)
  decided-asks a None (Some t) w k = if-turn (nat_lt (term_of t) (term_of w) && not (admits w a.start)) (stops_with_host D n a.start) (becomes a) (stops_host-asks a.start) (stays a k)

  loaded-asks : (a : AgentState) (slot start : ℕ) → Good a → Asks (on_loaded D n a slot start)
  loaded-asks a slot start k = if-turn (start == a.start) (has_loaded D n b a.taken) (becomes a) (loaded a.taken) (stays a k)
    where
      b : AgentState
      b = record a { loaded = with_number slot a.loaded }

      good : Good b
      good = record { pending = k.pending; queue = k.queue; work = k.work; waiting = k.waiting }

      asking : (w : Membership) (o : Option (ℕ × ℕ)) → Asks (asks_initiator n b w o)
      asking w None = stays b good
      asking w (Some first) = if-turn (first.0 == n) (becomes b) _ (stays b good)
          (record { state = good; sends = only-plain (Agent first.0) (letter_in (term_of w) first.1 (msg.Admit b.start)) (λ x. tt) })

      loaded : (o : Option Membership) → Asks (has_loaded D n b o)
      loaded None = stays b good
      loaded (Some w) = if-turn (list_all (λ s. is_in s b.loaded) (slots_of_host D n)) _ (becomes b) (asking w (initiator w)) (stays b good)

  -- ---- the initiator's queue

  begins-asks : (a : AgentState) (job : Job) → Good a → JobAsked A job → Asks (begins E D a job)
  begins-asks a (RunCall call client host start body) k is = record {
    state = record { pending = k.pending; queue = k.queue; work = is; waiting = k.waiting };
    sends = all-leaders a.decided (msg.Frag a.initiating.next 1 (body_of_round (E.asks body []))) (λ term start b. tt);
  }
  begins-asks a TakeSnapshot k is = record {
    state = record { pending = k.pending; queue = k.queue; work = tt; waiting = k.waiting };
    sends = all-leaders a.decided (msg.Done a.initiating.next outcome.Snapshot) (λ term start b. tt);
  }

  answers-asks : (a : AgentState) (job : Job) (e : Option End) → Good a → Asks (answers D n a job e)
  answers-asks a job None k = stays a k
  answers-asks a TakeSnapshot (Some e) k = stays a k
  answers-asks a (RunCall call client host start body) (Some e) k = if-turn (host == n && start == a.start) (on_reply D a call e) _ (reply-asks a call e k)
      (record { state = k; sends = only-plain (Agent host) (letter_to start (msg.MpReply call e)) (λ b. tt) })

  admitting-good : (a : AgentState) (own decided : Option Membership) (start host term : ℕ) → Good a → Good (admitting a own decided start host term)
  admitting-good a (Some own) (Some decided) start host term k = if-state (same_word own decided && term_of own == term && list_all (λ m. nat_lt m.1 start) (members own)) (record a { own = Some (with_admitted start host own) }) a (record { pending = k.pending; queue = k.queue; work = k.work; waiting = k.waiting }) k
  admitting-good a None decided start host term k = k
  admitting-good a (Some own) None start host term k = k

  works_queue-asks : (qs : List Queued) (a : AgentState) → AllByRecursion (QueuedAsked A) qs → Good a → Asks (works_queue E D n a qs)
  works_queue-asks [] a h k = stays _ (record { pending = k.pending; queue = tt; work = k.work; waiting = k.waiting })
  works_queue-asks (ToRun job ∷ later) a h k = known (known_of job a.initiating.replies) (works_queue-asks later)
    where
      known : (z : Known) → ((b : AgentState) → AllByRecursion (QueuedAsked A) later → Good b → Asks (works_queue E D n b later))
          → Asks (works_known E D n a job later z (λ b. works_queue E D n b later))
      known IsNew go = begins-asks (with_queue a later) job (record { pending = k.pending; queue = h.1; work = k.work; waiting = k.waiting }) h.0
      known (IsAnswered e) go = behind (answers D n a job (Some e)) (λ b. works_queue E D n b later) (answers-asks a job (Some e) k) (λ b g. go b h.1 g)
      known IsPast go = go a h.1 k
  works_queue-asks (Admission start host term ∷ later) a h k =
      works_queue-asks later (admitting a a.own a.decided start host term) h.1 (admitting-good a a.own a.decided start host term k)

  queues-asks : (a : AgentState) (q : Queued) → Good a → QueuedAsked A q → Asks (queues E D n a q)
  queues-asks a q k is = go b.initiating.phase
    where
      b : AgentState
      b = with_queue a (a.initiating.queue ++ q ∷ [])

      good : Good b
      good = record { pending = k.pending; queue = all-append (QueuedAsked A) a.initiating.queue (q ∷ []) k.queue (is, tt); work = k.work; waiting = k.waiting }

      go : (x : Phase) → Asks (if_idle E D n b x)
      go Idle = works_queue-asks b.initiating.queue b good.queue good
      go x = stays b good

  rests-asks : (a : AgentState) → Good a → Asks (rests E D n a)
  rests-asks a k = works_queue-asks a.initiating.queue (no_work a) k.queue (record { pending = k.pending; queue = k.queue; work = tt; waiting = k.waiting })

  ends_job-asks : (a : AgentState) (job : Job) (e : Option End) → Good a → Asks (ends_job E D n a job e)
  ends_job-asks a job e k = behind (answers D n a job e) (rests E D n) (answers-asks a job e k) rests-asks

  -- ---- rounds

  works-good : (a : AgentState) (w : Work) → Good a → WorkAsked A w → Good (with_work a w)
  works-good a w k is = record { pending = k.pending; queue = k.queue; work = is; waiting = k.waiting }

  decides-asks : (stamp : ℕ) (a : AgentState) (w : Work) (keep : Bool) (reply : List ℕ) → Good a → WorkAsked A w → Asks (decides D stamp a w keep reply)
  decides-asks stamp a w keep reply k is = record {
    state = record { pending = k.pending; queue = k.queue; work = is; waiting = k.waiting };
    sends = all-leaders a.decided (msg.Done w.transaction (outcome_of keep w.job stamp reply)) (λ term start b. tt);
  }

  goes_on-asks : (stamp : ℕ) (a : AgentState) (w : Work) (s : CoordStep) → Good a → WorkAsked A w → Asks (goes_on D stamp a w s)
  goes_on-asks stamp a w (Round body) k is = record {
    state = works-good a (record w { round = w.round + 1; gathered = [] }) k is;
    sends = all-leaders a.decided (msg.Frag w.transaction (w.round + 1) body) (λ term start b. tt);
  }
  goes_on-asks stamp a w (Finish keep reply) k is = decides-asks stamp a w keep reply k is

  feeds-asks : (stamp : ℕ) (a : AgentState) (w : Work) (body : List ℕ) (s : CoordStep) → Good a → WorkAsked A w → Asks (feeds E D stamp a w body s)
  feeds-asks stamp a w body (Finish keep reply) k is = decides-asks stamp a w keep reply k is
  feeds-asks stamp a w body (Round asked) k is =
      let fed = w.fed ++ in_order D w.gathered ∷ [] in goes_on-asks stamp a (record w { fed = fed }) (E.asks body fed) k is

  ends_round-asks : (stamp : ℕ) (a : AgentState) (w : Work) (job : Job) → Good a → WorkAsked A w → Asks (ends_round E D stamp a w job)
  ends_round-asks stamp a w (RunCall call client host start body) k is = feeds-asks stamp a w body (E.asks body w.fed) k is
  ends_round-asks stamp a w TakeSnapshot k is = stays a k

  gathers-asks : (stamp : ℕ) (a : AgentState) (w : Work) → Good a → WorkAsked A w → Asks (gathers E D stamp a w)
  gathers-asks stamp a w k is =
      if-turn (list_all (has_part w.gathered) (all_parts D)) _ _ (ends_round-asks stamp a w w.job k is) (stays (with_work a w) (works-good a w k is))

  frag_done-asks : (stamp : ℕ) (a : AgentState) (phase : Phase) (work : Option Work) (p m round : ℕ) (partial : List ℕ) → Good a → OnSome (WorkAsked A) work
      → Asks (on_frag_done E D stamp a phase work p m round partial)
  frag_done-asks stamp a Works (Some w) p m round partial k is = if-turn _ _ (becomes a) (gathers-asks stamp a (record w { gathered = w.gathered ++ (p, partial) ∷ [] }) k is) (stays a k)
  frag_done-asks stamp a Works None p m round partial k is = stays a k
  frag_done-asks stamp a Off work p m round partial k is = stays a k
  frag_done-asks stamp a (Hears told) work p m round partial k is = stays a k
  frag_done-asks stamp a (Closes c parts finished) work p m round partial k is = stays a k
  frag_done-asks stamp a Idle work p m round partial k is = stays a k

  -- ---- a new term

  runs_again-asks : (a : AgentState) (job : Job) (z : Known) → Good a → JobAsked A job → Asks (runs_again E D n a job z)
  runs_again-asks a job IsNew k is = begins-asks a job k is
  runs_again-asks a job (IsAnswered e) k is = ends_job-asks a job (Some e) k
  runs_again-asks a job IsPast k is = ends_job-asks a job None k

  settles-asks : (a : AgentState) (work : Option Work) → Good a → OnSome (WorkAsked A) work → Asks (settles E D n a work)
  settles-asks a None k is = rests-asks a k
  settles-asks a (Some w) k is = elim w.decision as (λ d. Asks (elim d as (λ _. Turn AgentState) [
    | None ↦ runs_again E D n a w.job (known_of w.job a.initiating.replies)
    | Some o ↦ ends_job E D n a w.job (end_of o)
  ])) [
    | None ↦ runs_again-asks a w.job (known_of w.job a.initiating.replies) k is
    | Some o ↦ ends_job-asks a w.job (end_of o) k
  ]

  phase-good : (a : AgentState) (x : Phase) → Good a → Good (with_phase a x)
  phase-good a x k = record { pending = k.pending; queue = k.queue; work = k.work; waiting = k.waiting }

  finished-asks : (a : AgentState) (phase : Phase) (work : Option Work) (p m : ℕ) → Good a → OnSome (WorkAsked A) work → Asks (on_finished E D n a phase work p m)
  finished-asks a Works (Some w) p m k is = let done = record w { finished = p ∷ w.finished } in elim w.decision as (λ d. Asks (elim d as (λ _. Turn AgentState) [
    | None ↦ becomes a
    | Some o ↦
        if w.transaction == m
        then (if all_finished (all_parts D) done.finished then ends_job E D n (with_work a done) w.job (end_of o) else becomes (with_work a done))
        else becomes a
  ])) [
    | None ↦ stays a k
    | Some o ↦ if-turn (w.transaction == m) _ (becomes a)
        (if-turn (all_finished (all_parts D) done.finished) _ _ (ends_job-asks (with_work a done) w.job (end_of o) (works-good a done k is)) (stays (with_work a done) (works-good a done k is))) (stays a k)
  ]
  finished-asks a Works None p m k is = stays a k
  finished-asks a (Closes c parts finished) work p m k is = if-turn (c == m) _ (becomes a)
      (if-turn (all_finished parts (p ∷ finished)) _ _ (settles-asks a work k is) (stays _ (phase-good a (Closes c parts (p ∷ finished)) k))) (stays a k)
  finished-asks a Off work p m k is = stays a k
  finished-asks a (Hears told) work p m k is = stays a k
  finished-asks a Idle work p m k is = stays a k

  mp_state-asks : (a : AgentState) (phase : Phase) (t : Heard) → Good a → Asks (on_mp_state E D n a phase t)
  mp_state-asks a (Hears told) t k = if-turn (has_told told t.part) (becomes a) _ (stays a k) (if-turn (list_all (has_told all) (all_parts D)) _ _ (closes (open_told all)) (stays _ (phase-good a (Hears all) k)))
    where
      all : List Heard
      all = told ++ t ∷ []

      b : AgentState
      b = knows_told (first_number a all) all

      numbered-good : Good (first_number a all)
      numbered-good = if-state (a.initiating.next == 0) _ a (record { pending = k.pending; queue = k.queue; work = k.work; waiting = k.waiting }) k

      good : Good b
      good = let g = numbered-good in record { pending = g.pending; queue = g.queue; work = g.work; waiting = g.waiting }

      closes : (o : Option ℕ) → Asks (closes_open E D n b all o)
      closes None = settles-asks b b.initiating.work good good.work
      closes (Some m) = record {
        state = phase-good b (Closes m (open_parts m all) []) good;
        sends = done-leaders b.decided (open_parts m all) m (closing_outcome m all (own_decision m b.initiating.work));
      }
  mp_state-asks a Off t k = stays a k
  mp_state-asks a (Closes c parts finished) t k = stays a k
  mp_state-asks a Idle t k = stays a k
  mp_state-asks a Works t k = stays a k

  -- ---- at each change of its word

  says-asks : (a : AgentState) (o : Option Membership) → Good a → Asks (says D n a o)
  says-asks a None k = stays a k
  says-asks a (Some w) k = record { state = k; sends = out }
    where
      to : (g : ℕ) (o : Option ℕ) → AllByRecursion (Sent (Agent g)) (word_to w o)
      to g None = tt
      to g (Some start) = (tt, tt)

      out : SentAll (says D n a (Some w)).sends
      out (Agent g) = all-if (Sent (Agent g)) (is_member w n a.start && is_host D g && not (g == n)) (word_to w (start_of w g)) [] (to g (start_of w g)) tt
      out b = tt

  target-asked : (p : Pending) (o : Option (Actor × ℕ)) → PendingAsked A p → PendingAsked A (with_target p o)
  target-asked p None k = k
  target-asked p (Some to) k = k

  again-asked : (w : Membership) (ps : List Pending) → AllByRecursion (PendingAsked A) ps → AllByRecursion (PendingAsked A) (asked_again D w ps)
  again-asked w [] h = tt
  again-asked w (p ∷ ps) h = (target-asked p (goes_again D w p) h.0, again-asked w ps h.1)

  again-sends : (w : Membership) (start : ℕ) (ps : List Pending) → AllByRecursion (PendingAsked A) ps → SentAll (asks_again D start w ps)
  again-sends w start [] h b = tt
  again-sends w start (p ∷ ps) h b =
      all-append (Sent b) (asks_if start p (goes_again D w p) b) (asks_again D start w ps b) (one (is_in p.target w.lost && not (is_down D w))) (again-sends w start ps h.1 b)
    where
      to : (o : Option (Actor × ℕ)) → OnSome (λ x. SentAll (asks start p x)) o → AllByRecursion (Sent b) (asks_if start p o b)
      to None k = tt
      to (Some x) k = k b

      one : (c : Bool) → AllByRecursion (Sent b) (asks_if start p (if c then runner D w p.part else None) b)
      one true = to (runner D w p.part) (asks-runner w start p h.0)
      one false = tt

  decided_word-good : (a : AgentState) → Good a → Good (on_decided_word n a)
  decided_word-good a k = if-state (initiates n a a.decided) _ _ (phase-good a (Hears []) k) (phase-good a Off k)

  pub decides_word-asks : (a : AgentState) (o : Option Membership) → Good a → Asks (decides_word D n a o)
  decides_word-asks a None k = stays a k
  decides_word-asks a (Some w) k = record {
    state = decided_word-good (record a { decided = Some w; pending = asked_again D w a.pending })
        (record { pending = again-asked w a.pending k.pending; queue = k.queue; work = k.work; waiting = k.waiting });
    sends = λ b. all-append (Sent b) (decided_sends D n a w b) (asks_again D a.start w a.pending b) (out b) (again-sends w a.start a.pending k.pending b);
  }
    where
      out : SentAll (decided_sends D n a w)
      out (Site s) = all-if (Sent (Site s)) (is_slot_of D n s && not (is_down D w)) _ [] (tt, tt) tt
      out (Agent g) = all-if (Sent (Agent g)) (is_host D g && not (g == n) && is_none (start_of w g)) _ [] (tt, tt) tt
      out (Client c) = all-if (Sent (Client c)) (is_client D c && is_none a.decided) _ [] (tt, tt) tt
      out b = tt

  agrees-asks : (before : Option Membership) (a : AgentState) → Good a → Asks (agrees D n before a)
  agrees-asks before a k = behind _ _ (if-turn (is_other_word before a.own) (says D n a a.own) (becomes a) (says-asks a a.own k) (stays a k))
      (λ b g. if-turn (may_decide n b b.own) (decides_word D n b b.own) (becomes b) (decides_word-asks b b.own g) (stays b g))

  -- ---- the handler of each message

  pub handler-asks : (stamp : ℕ) (a : AgentState) (from : Actor) (l : Letter) → Good a → AskedIn D A from (Agent n) l → Asks (agent_handler E D n stamp a from l)
  handler-asks stamp a Director l k is = elim l.body as (λ m. Asks (from_director E D n a (record l { body = m }))) [
    | msg.Snap ↦ if-turn (initiates n a a.decided) _ (becomes a) (queues-asks a (ToRun TakeSnapshot) k tt) (stays a k)
    | m ↦ stays a k
  ]
  handler-asks stamp a (Client c) l k is = (elim l.body as (λ m. AskedIn D A (Client c) (Agent n) (record l { body = m }) → Asks (from_client D a c (record l { body = m }))) [
    | msg.Call call start part body ↦ λ is. call-asks a a.decided c call start part body k is
    | m ↦ λ is. stays a k
  ]) is
  handler-asks stamp a (Agent g) l k is = (elim l.body as (λ m. AskedIn D A (Agent g) (Agent n) (record l { body = m }) → Asks (from_agent E D n stamp a g (record l { body = m }))) [
    | msg.Closed start ↦ λ is. stays _ (closed-asks a a.own start k)
    | msg.Word base lost admitted ↦ λ is. stays _ (word-asks a a.own g base lost admitted k)
    | msg.Hello start ↦ λ is. hello-asks a a.decided g start k
    | msg.Decided w ↦ λ is. decided-asks a a.decided a.taken w k
    | msg.MpCall call start client body ↦ λ is. queues-asks a (ToRun (RunCall call client g start body)) k is
    | msg.MpReply call e ↦ λ is. reply-asks a call e k
    | msg.Admit start ↦ λ is. queues-asks a (Admission start g l.term) k tt
    | m ↦ λ is. stays a k
  ]) is
  handler-asks stamp a (Site s) l k is = elim l.body as (λ m. Asks (from_site E D n stamp a s (record l { body = m }))) [
    | msg.Reply call start e ↦ reply-asks a call e k
    | msg.FragDone m round partial ↦ frag_done-asks stamp a a.initiating.phase a.initiating.work (part_of_slot D s) m round partial k k.work
    | msg.Finished m ↦ finished-asks a a.initiating.phase a.initiating.work (part_of_slot D s) m k k.work
    | msg.MpState m is_open outcome replies ↦ mp_state-asks a a.initiating.phase (record { part = part_of_slot D s; transaction = m; is_open = is_open; outcome = outcome; replies = replies }) k
    | msg.Loaded start ↦ loaded-asks a s start k
    | m ↦ stays a k
  ]
  handler-asks stamp a (Scanner x) l k is = stays a k

  with_word-asks : (stamp : ℕ) (a : AgentState) (from : Actor) (l : Letter) → Good a → AskedIn D A from (Agent n) l → Asks (handler_and_word E D n stamp a from l)
  with_word-asks stamp a from l k is = behind (agent_handler E D n stamp a from l) (agrees D n a.own) (handler-asks stamp a from l k is) (agrees-asks a.own)

  -- ---- a whole turn

  each-asks : (stamp : ℕ) (ws : List Waiting) (a : AgentState) → AllByRecursion (WaitingAsked D A (Agent n)) ws → Good a → Asks (takes_each E D n stamp ws a)
  each-asks stamp [] a h k = stays a k
  each-asks stamp (w ∷ ws) a h k = behind (unless_stopped E D n stamp a w.from w.letter) (takes_each E D n stamp ws)
      (if-turn (a.start == 0) (becomes a) _ (stays a k) (with_word-asks stamp a w.from w.letter k h.0)) (λ b g. each-asks stamp ws b h.1 g)

  waiting-asks : (stamp : ℕ) (a : AgentState) → Good a → Asks (takes_waiting E D n stamp a)
  waiting-asks stamp a k =
      let term = term_in a.decided in
      each-asks stamp (of_term term a.waiting) (record a { waiting = above_term term a.waiting }) (all-filter (WaitingAsked D A (Agent n)) (λ w. w.letter.term == term) a.waiting k.waiting)
      (record { pending = k.pending; queue = k.queue; work = k.work; waiting = all-filter (WaitingAsked D A (Agent n)) (λ w. nat_lt term w.letter.term) a.waiting k.waiting })

  -- a message that is kept has lost its past
  kept-asked : (from : Actor) (l : Letter) → AskedIn D A from (Agent n) l → AskedIn D A from (Agent n) (record l { past = [] })
  kept-asked Director l k = k
  kept-asked (Client c) l k = k
  kept-asked (Agent g) l k = k
  kept-asked (Site s) l k = k
  kept-asked (Scanner x) l k = k

  runs-asks : (stamp : ℕ) (a : AgentState) (from : Actor) (l : Letter) → Good a → AskedIn D A from (Agent n) l → Asks (agent_runs E D n stamp a from l)
  runs-asks stamp a from l k is = go (arrival a.start (term_in a.decided) l)
    where
      go : (x : Arrival) → Asks (elim x as (λ _. Turn AgentState) [
        | Taken ↦ handler_and_word E D n stamp a from l ▸ takes_waiting E D n stamp
        | Waits ↦ becomes (record a { waiting = a.waiting ++ record { from = from; letter = record l { past = [] } } ∷ [] })
        | Refused ↦ becomes a
      ])
      go Taken = behind (handler_and_word E D n stamp a from l) (takes_waiting E D n stamp) (with_word-asks stamp a from l k is) (waiting-asks stamp)
      go Waits = stays _ (record {
        pending = k.pending;
        queue = k.queue;
        work = k.work;
        waiting = all-append (WaitingAsked D A (Agent n)) a.waiting (record { from = from; letter = record l { past = [] } } ∷ []) k.waiting (kept-asked from l is, tt);
      })
      go Refused = stays a k

  start-asks : (start : ℕ) → Asks (on_start D n start)
  start-asks start = record { state = new-good start; sends = out }
    where
      out : SentAll (on_start D n start).sends
      out (Agent g) = all-if (Sent (Agent g)) (is_host D g && not (g == n)) _ [] (tt, tt) tt
      out b = tt

  starts-asks : (a : AgentState) (from : Actor) (start : ℕ) → Good a → Asks (takes_start D n a from start)
  starts-asks a Director start k = if-turn (a.start == 0) (on_start D n start) (becomes a) (start-asks start) (stays a k)
  starts-asks a (Client c) start k = stays a k
  starts-asks a (Agent g) start k = stays a k
  starts-asks a (Site s) start k = stays a k
  starts-asks a (Scanner x) start k = stays a k

  stop-asks : (a : AgentState) (start : ℕ) → Good a → Asks (on_stop D n a start)
  stop-asks a start k = if-turn (nat_le a.start start) (stops D n a.start) (becomes a) (record { state = new-good 0; sends = closes-plain a.start }) (stays a k)

  takes-asks : (stamp : ℕ) (a : AgentState) (from : Actor) (l : Letter) → Good a → AskedIn D A from (Agent n) l → Asks (agent_takes E D n stamp a from l)
  takes-asks stamp a from l k is = (elim l.body as (λ m. AskedIn D A from (Agent n) (record l { body = m }) → Asks (agent_takes E D n stamp a from (record l { body = m }))) [
    | msg.Start start ↦ λ is. starts-asks a from start k
    | msg.Stop start ↦ λ is. if-turn (a.start == 0) (becomes a) _ (stays a k) (stop-asks a start k)
    | m ↦ λ is. if-turn (a.start == 0) (becomes a) _ (stays a k) (runs-asks stamp a from (record l { body = m }) k is)
  ]) is

  -- What a message makes of an agent.
  pub agent-asks : (stamp : ℕ) (a : AgentState) (from : Actor) (l : Letter) (o : Environment) → Good a → AskedIn D A from (Agent n) l → Asks (agent_turn E D n stamp a from l o)
  agent-asks stamp a from l (NoMemory answered) k is = stops_host-asks (start_after a from l)
  agent-asks stamp a from l NoFault k is = takes-asks stamp a from l k is
  agent-asks stamp a from l (DiskFails answered) k is = takes-asks stamp a from l k is
  agent-asks stamp a from l (DisksShow shown failed) k is = takes-asks stamp a from l k is
