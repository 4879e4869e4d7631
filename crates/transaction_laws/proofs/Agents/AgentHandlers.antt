-- The handler of a message that an agent takes: what it does with transactions, as their initiator or not.
use Rattle.volt_wire.specs.declared.end.End.TheVariants as end
use Rattle.volt_wire.specs.declared.message.Msg.TheVariants as msg
use Rattle.cluster_model.specs.Agent.{from_agent}
use Rattle.cluster_model.specs.AgentState.{closes}
use Rattle.cluster_model.specs.Words.{is_client}
use Rattle.transaction_laws.proofs.Names.{Actor, Admission, Agent, AgentState, AllBefore, AskedIn, Knows, QueuedAsked, Replied, AllByRecursion, AnswerOk, Books, Bool, Client, Closes, Database, Deployment, Director, Done, End, Firm, Frag, Hears, Idle, Initiates, IsPart, IsSlot, Letter, List, LogState, LogsHold, Membership, None, Off, Option, Outcome, Pending, Phase, PhaseOk, Queued, RunCall, Scanner, Sends, Site, Some, StateOk, Stood, TakeSnapshot, ToRun, Transactions, Turn, Works, [], admits, agent_handler, all-append, all-if, all-mono, answers_client, ap, append-nil, arith, asks_initiator, becomes, false, flat-none, from_client, from_director, from_site, has_loaded, heard_of, if-none, if_idle, if◌then◌else◌, initiates, initiator, inl, inr, is_for, is_host, is_in, is_passed_over, is_slot_of, letter_in, letter_to, list_all, nat_lt, not, on_call, on_closed, on_decided, on_finished, on_frag_done, on_hello, on_loaded, on_mp_state, on_reply, on_word, only, open_letter, order_in, order_of, orders, part, part_of_slot, queues, refl, request, runner, same, slots_of_host, stops, stops_with_host, subst, sym, takes_word, term_of, to_runner, true, union, unless_down, with_number, works_queue, ℕ, ◌&&◌, ◌++◌, ◌<◌, ◌==◌, ◌∙◌, ◌∷◌, ◌≡◌, ◌≤◌, ◌⊎◌}
use Rattle.transaction_laws.proofs.Kept.{AllTell, Brings, Ending, MayTell, NoOrder, SentOrder, SendsDue, InitiatorActs, InitiatorGoes, OffGoes, Tells, books-later}
use Rattle.transaction_laws.proofs.Initiators.{JobsAsked, LaidOut, slot-part, goes-still, goes-from, frag_done-goes, works_queue-goes, finished-goes, mp_state-goes}

-- ---- turns that send no order

-- other messages are none
no-order : (l : Letter) → NoOrder l → order_in l.body ≡ []
no-order l k = elim l.body as (λ m. NoOrder (record l { body = m }) → order_in m ≡ []) [
  | msg.Frag m round body ↦ λ k. absurd k
  | msg.Done m o ↦ λ k. absurd k
  | m ↦ λ k. refl
] k

no-sent : (S : LogState) (n : ℕ) (w : Membership) (c : ℕ) (l : Letter) → NoOrder l → SentOrder S n w c l
no-sent S n w c l k = elim l.body as (λ m. NoOrder (record l { body = m }) → SentOrder S n w c (record l { body = m })) [
  | msg.Frag m round body ↦ λ k. absurd k
  | msg.Done m o ↦ λ k. absurd k
  | m ↦ λ k. tt
] k

pub no-orders : (start term : ℕ) (ls : List Letter) → AllByRecursion NoOrder ls → orders start term ls ≡ []
no-orders start term ls h = flat-none (order_of start term) ls (all-mono NoOrder (λ l. order_of start term l ≡ []) (λ l k. rw (no-order l k) (if-none (is_for start term l))) ls h)

-- Nothing more is due.
inert-sends : (S : LogState) (n : ℕ) (w : Membership) (K : Transactions) (out : Sends) → ((c : ℕ) → AllByRecursion NoOrder (out (Site c))) → SendsDue S n w K K out
inert-sends S n w K out none = record {
  letters = λ c slot. all-mono NoOrder (SentOrder S n w c) (no-sent S n w c) (out (Site c)) (none c);
  due = λ c a slot leads start. sym (ap (λ xs. K.due (part S c) (term_of w) ++ xs) (no-orders a (term_of w) (out (Site c)) (none c)) ∙ append-nil (K.due (part S c) (term_of w)));
  others = λ p t other. refl;
}

-- ---- messages that aren't for the initiator

abbrev ForInitiator : Actor → Letter → Type 0
ForInitiator Director l = elim l.body as (λ _. Type 0) [ msg.Snap ↦ Unit {0} | _ ↦ ⊥ ]
ForInitiator (Agent g) l = elim l.body as (λ _. Type 0) [
  | msg.Decided w ↦ Unit {0}
  | msg.MpCall call start client body ↦ Unit {0}
  | msg.Admit start ↦ Unit {0}
  | _ ↦ ⊥
]
ForInitiator (Site c) l = elim l.body as (λ _. Type 0) [
  | msg.FragDone m round partial ↦ Unit {0}
  | msg.Finished m ↦ Unit {0}
  | msg.MpState m is_open outcome replies ↦ Unit {0}
  | _ ↦ ⊥
]
ForInitiator from l = ⊥

-- ---- an agent that stops

-- It tells of no call.
closes-tell : (M R : Ending) (D : Deployment) (n start : ℕ) → AllTell M R (closes D n start)
closes-tell M R D n start (Agent g) = all-if (Tells M R) (is_host D g) _ [] (all-if (Tells M R) (g == n) [] (open_letter (msg.Closed start) ∷ []) tt (tt, tt)) tt
closes-tell M R D n start (Client c) = all-if (Tells M R) (is_client D c) (open_letter (msg.Closed start) ∷ []) [] (tt, tt) tt
closes-tell M R D n start b = tt

pub stops_with_host-tell : (M R : Ending) (D : Deployment) (n start : ℕ) → AllTell M R (stops_with_host D n start).sends
stops_with_host-tell M R D n start (Agent g) = closes-tell M R D n start (Agent g)
stops_with_host-tell M R D n start (Client c) = all-append (Tells M R) (closes D n start (Client c)) [] (closes-tell M R D n start (Client c)) tt
stops_with_host-tell M R D n start (Site s) = all-if (Tells M R) (is_slot_of D n s) (open_letter (msg.Stop start) ∷ []) [] (tt, tt) tt
stops_with_host-tell M R D n start (Scanner x) = all-if (Tells M R) (is_slot_of D n x) (open_letter (msg.Stop start) ∷ []) [] (tt, tt) tt
stops_with_host-tell M R D n start Director = tt

pub stops-tell : (M R : Ending) (D : Deployment) (n start : ℕ) → AllTell M R (stops D n start).sends
stops-tell M R D n start = closes-tell M R D n start

-- ---- turns that leave the initiator's part as it is

-- What it answers clients is R. That may be that a partition is down.
module _ (M R : Ending) (down : (call part : ℕ) → R call (end.Down part)) where
  only-tells : (to : Actor) (l : Letter) → Tells M R l → AllTell M R (only to l)
  only-tells to l k b = all-if (Tells M R) (same to b) (l ∷ []) [] (k, tt) tt

  -- Rounds and ends aren't sent.
  record LeavesInitiating (a : AgentState) (t : Turn AgentState) : Type 0 where
    pub start : t.state.start ≡ a.start
    pub decided : t.state.decided ≡ a.decided
    pub waiting : t.state.waiting ≡ a.waiting
    pub initiating : t.state.initiating ≡ a.initiating
    pub sends : (c : ℕ) → AllByRecursion NoOrder (t.sends (Site c))
    pub tells : AllTell M R t.sends

  same-leaves : (a : AgentState) → LeavesInitiating a (becomes a)
  same-leaves a = record { start = refl; decided = refl; waiting = refl; initiating = refl; sends = λ c. tt; tells = λ b. tt }

  -- the one turn or the other
  if-leaves : (a : AgentState) (c : Bool) (x y : Turn AgentState) → LeavesInitiating a x → LeavesInitiating a y → LeavesInitiating a (if c then x else y)
  if-leaves a true x y p q = p
  if-leaves a false x y p q = q

  reply-leaves : (D : Deployment) (a : AgentState) (call : ℕ) (e : End) → R call e → LeavesInitiating a (on_reply D a call e)
  reply-leaves D a call e k = if-leaves a _ _ _ (same-leaves a) (client _)
    where
      client : (o : Option ℕ) → LeavesInitiating a (answers_client a call e o)
      client None = same-leaves a
      client (Some c) = record { start = refl; decided = refl; waiting = refl; initiating = refl; sends = λ c. tt; tells = only-tells (Client c) (open_letter (msg.Answer call e)) k }

  call-leaves : (D : Deployment) (a : AgentState) (w : Option Membership) (client call start : ℕ) (p : Option ℕ) (body : List ℕ) → LeavesInitiating a (on_call D a w client call start p body)
  call-leaves D a None client call start p body = same-leaves a
  call-leaves D a (Some w) client call start p body = if-leaves a _ _ _ (unless _) (same-leaves a)
    where
      runs : (q : Pending) (o : Option (Actor × ℕ)) → LeavesInitiating a (to_runner a q o)
      runs q None = same-leaves a
      runs q (Some to) = record {
        start = refl;
        decided = refl;
        waiting = refl;
        initiating = refl;
        sends = λ c. all-if NoOrder (same to.0 (Site c)) (letter_to to.1 (request a.start q q.part) ∷ []) [] (plain q.part, tt) tt;
        tells = only-tells to.0 (letter_to to.1 (request a.start q q.part)) (silent q.part);
      }
        where
          plain : (p : Option ℕ) → NoOrder (letter_to to.1 (request a.start q p))
          plain None = tt
          plain (Some p) = tt

          silent : (p : Option ℕ) → Tells M R (letter_to to.1 (request a.start q p))
          silent None = tt
          silent (Some p) = tt

      unless : (o : Option ℕ) → LeavesInitiating a (unless_down D a w client call p body o)
      unless (Some part) = record {
        start = refl;
        decided = refl;
        waiting = refl;
        initiating = refl;
        sends = λ c. tt;
        tells = only-tells (Client client) (open_letter (msg.Answer call (end.Down part))) (down call part);
      }
      unless None = runs (record { call = call; client = client; part = p; body = body; target = 0 }) (runner D w p)

  closed-leaves : (a : AgentState) (w : Option Membership) (start : ℕ) → LeavesInitiating a (becomes (on_closed a w start))
  closed-leaves a None start = same-leaves a
  closed-leaves a (Some w) start = record { start = refl; decided = refl; waiting = refl; initiating = refl; sends = λ c. tt; tells = λ b. tt }

  word-leaves : (a : AgentState) (w : Option Membership) (host base : ℕ) (lost : List ℕ) (admitted : List (ℕ × ℕ)) → LeavesInitiating a (becomes (on_word a w host base lost admitted))
  word-leaves a None host base lost admitted = same-leaves a
  word-leaves a (Some w) host base lost admitted = choice (w.base == base)
    where
      heard : Membership
      heard = record w { lost = lost; admitted = admitted }

      choice : (b : Bool) → LeavesInitiating a (becomes (if b then record a { own = Some (union heard w); said = λ h. if h == host then Some heard else a.said h } else a))
      choice true = record { start = refl; decided = refl; waiting = refl; initiating = refl; sends = λ c. tt; tells = λ b. tt }
      choice false = same-leaves a

  hello-leaves : (n : ℕ) (a : AgentState) (w : Option Membership) (host start : ℕ) → LeavesInitiating a (on_hello n a w host start)
  hello-leaves n a None host start = same-leaves a
  hello-leaves n a (Some w) host start = if-leaves a _ _ _ (record {
    start = refl;
    decided = refl;
    waiting = refl;
    initiating = refl;
    sends = λ c. tt;
    tells = only-tells (Agent host) (letter_to start (msg.Decided w)) tt;
  }) (same-leaves a)

  loaded-leaves : (D : Deployment) (n : ℕ) (a : AgentState) (slot start : ℕ) → LeavesInitiating a (on_loaded D n a slot start)
  loaded-leaves D n a slot start = if-leaves a (start == a.start) (has_loaded D n b a.taken) (becomes a) (loaded a.taken) (same-leaves a)
    where
      b : AgentState
      b = record a { loaded = with_number slot a.loaded }

      stays : LeavesInitiating a (becomes b)
      stays = record { start = refl; decided = refl; waiting = refl; initiating = refl; sends = λ c. tt; tells = λ b. tt }

      asks : (w : Membership) (o : Option (ℕ × ℕ)) → LeavesInitiating a (asks_initiator n b w o)
      asks w None = stays
      asks w (Some first) = if-leaves a (first.0 == n) (becomes b) _ stays (record {
        start = refl;
        decided = refl;
        waiting = refl;
        initiating = refl;
        sends = λ c. tt;
        tells = only-tells (Agent first.0) (letter_in (term_of w) first.1 (msg.Admit b.start)) tt;
      })

      loaded : (o : Option Membership) → LeavesInitiating a (has_loaded D n b o)
      loaded None = stays
      loaded (Some w) = if-leaves a (list_all (λ s. is_in s b.loaded) (slots_of_host D n)) _ _ (asks w (initiator w)) stays

  -- ---- the handler of a message that isn't for the initiator

  handler-leaves : (E : Database) (D : Deployment) (n stamp : ℕ) (a : AgentState) (from : Actor) (l : Letter) → (ForInitiator from l → ⊥) → Brings R from l → LeavesInitiating a (agent_handler E D n stamp a from l)
  handler-leaves E D n stamp a Director l none brings =
      elim l.body as (λ m. (ForInitiator Director (record l { body = m }) → ⊥) → LeavesInitiating a (from_director E D n a (record l { body = m }))) [
        | msg.Snap ↦ λ k. absurd (k tt)
        | m ↦ λ k. same-leaves a
      ] none
  handler-leaves E D n stamp a (Client c) l none brings = elim l.body as (λ m. LeavesInitiating a (from_client D a c (record l { body = m }))) [
    | msg.Call call start p body ↦ call-leaves D a a.decided c call start p body
    | m ↦ same-leaves a
  ]
  handler-leaves E D n stamp a (Agent g) l none brings =
      elim l.body as (λ m. (ForInitiator (Agent g) (record l { body = m }) → ⊥) → Brings R (Agent g) (record l { body = m }) → LeavesInitiating a (from_agent E D n stamp a g (record l { body = m }))) [
        | msg.Closed start ↦ λ k r. closed-leaves a a.own start
        | msg.Word base lost admitted ↦ λ k r. word-leaves a a.own g base lost admitted
        | msg.Hello start ↦ λ k r. hello-leaves n a a.decided g start
        | msg.MpReply call e ↦ λ k r. reply-leaves D a call e r
        | msg.Decided w ↦ λ k r. absurd (k tt)
        | msg.MpCall call start client body ↦ λ k r. absurd (k tt)
        | msg.Admit start ↦ λ k r. absurd (k tt)
        | m ↦ λ k r. same-leaves a
      ] none brings
  handler-leaves E D n stamp a (Site c) l none brings =
      elim l.body as (λ m. (ForInitiator (Site c) (record l { body = m }) → ⊥) → Brings R (Site c) (record l { body = m }) → LeavesInitiating a (from_site E D n stamp a c (record l { body = m }))) [
        | msg.Reply call start e ↦ λ k r. reply-leaves D a call e r
        | msg.Loaded start ↦ λ k r. loaded-leaves D n a c start
        | msg.FragDone m round partial ↦ λ k r. absurd (k tt)
        | msg.Finished m ↦ λ k r. absurd (k tt)
        | msg.MpState m is_open outcome replies ↦ λ k r. absurd (k tt)
        | m ↦ λ k r. same-leaves a
      ] none brings
  handler-leaves E D n stamp a (Scanner x) l none brings = same-leaves a

  takes_word-leaves : (D : Deployment) (n : ℕ) (a : AgentState) (w : Membership) → LeavesInitiating a (takes_word D n a w)
  takes_word-leaves D n a w = record {
    start = refl;
    decided = refl;
    waiting = refl;
    initiating = refl;
    sends = λ c. all-if NoOrder (is_slot_of D n c) _ [] (tt, (tt, tt)) tt;
    tells = tells;
  }
    where
      tells : AllTell M R (takes_word D n a w).sends
      tells (Site s) = all-if (Tells M R) (is_slot_of D n s) _ [] (tt, (tt, tt)) tt
      tells b = tt

-- ---- the handler of one that isn't an initiator

module _ (M R : Ending) (down : (call part : ℕ) → R call (end.Down part))
    (E : Database) (D : Deployment) (n stamp : ℕ) (a : AgentState) (phase : a.initiating.phase ≡ Off) (work : a.initiating.work ≡ None) (next : a.initiating.next ≡ 0)
    (none : a.initiating.replies ≡ []) where
  leaves-off : (t : Turn AgentState) → LeavesInitiating M R down a t → OffGoes M R a t
  leaves-off t k = record {
    phase = ap (λ i. i.phase) k.initiating ∙ phase;
    work = ap (λ i. i.work) k.initiating ∙ work;
    next = ap (λ i. i.next) k.initiating ∙ next;
    replies = ap (λ i. i.replies) k.initiating ∙ none;
    sends = k.sends;
    tells = k.tells;
    kept = inr (k.start, k.decided, k.waiting);
  }

  if-off : (c : Bool) (x y : Turn AgentState) → OffGoes M R a x → OffGoes M R a y → OffGoes M R a (if c then x else y)
  if-off true x y p q = p
  if-off false x y p q = q

  stays-off : OffGoes M R a (becomes a)
  stays-off = leaves-off (becomes a) (same-leaves M R down a)

  -- what is for an initiator waits in the queue, or is nothing to it
  queues-off : (q : Queued) → OffGoes M R a (queues E D n a q)
  queues-off q = subst (λ x. OffGoes M R a (if_idle E D n b x)) (sym phase)
      (record { phase = phase; work = work; next = next; replies = none; sends = λ c. tt; tells = λ b. tt; kept = inr (refl, refl, refl) })
    where
      b : AgentState
      b = record a { initiating = record a.initiating { queue = a.initiating.queue ++ q ∷ [] } }

  stops-off : OffGoes M R a (stops_with_host D n a.start)
  stops-off = record {
    phase = refl;
    work = refl;
    next = refl;
    replies = refl;
    sends = λ c. all-if NoOrder (is_slot_of D n c) _ [] (tt, tt) tt;
    tells = stops_with_host-tell M R D n a.start;
    kept = inl refl;
  }

  decided-off : (decided taken : Option Membership) (w : Membership) → OffGoes M R a (on_decided D n a decided taken w)
  decided-off (Some d) taken w = stays-off
  decided-off None None w = if-off (is_passed_over a.start w) _ _ stops-off (leaves-off (takes_word D n a w) (takes_word-leaves M R down D n a w))
  decided-off None (Some t) w = if-off (nat_lt (term_of t) (term_of w) && not (admits w a.start)) _ _ stops-off stays-off

  from_agent-off : (g : ℕ) (l : Letter) → Brings R (Agent g) l → OffGoes M R a (from_agent E D n stamp a g l)
  from_agent-off g l brings = elim l.body as (λ m. Brings R (Agent g) (record l { body = m }) → OffGoes M R a (from_agent E D n stamp a g (record l { body = m }))) [
    | msg.Decided w ↦ λ r. decided-off a.decided a.taken w
    | msg.MpCall call start client body ↦ λ r. queues-off (ToRun (RunCall call client g start body))
    | msg.Admit start ↦ λ r. queues-off (Admission start g l.term)
    | m ↦ λ r. leaves-off _ (handler-leaves M R down E D n stamp a (Agent g) (record l { body = m }) (λ k. k) r)
  ] brings

  from_site-off : (c : ℕ) (l : Letter) → Brings R (Site c) l → OffGoes M R a (from_site E D n stamp a c l)
  from_site-off c l brings = elim l.body as (λ m. Brings R (Site c) (record l { body = m }) → OffGoes M R a (from_site E D n stamp a c (record l { body = m }))) [
    | msg.FragDone m round partial ↦ λ r. subst (λ x. OffGoes M R a (on_frag_done E D stamp a x a.initiating.work (part_of_slot D c) m round partial)) (sym phase) stays-off
    | msg.Finished m ↦ λ r. subst (λ x. OffGoes M R a (on_finished E D n a x a.initiating.work (part_of_slot D c) m)) (sym phase) stays-off
    | msg.MpState m is_open outcome replies ↦ λ r. subst (λ x. OffGoes M R a (on_mp_state E D n a x (heard_of (part_of_slot D c) m is_open outcome replies))) (sym phase) stays-off
    | m ↦ λ r. leaves-off _ (handler-leaves M R down E D n stamp a (Site c) (record l { body = m }) (λ k. k) r)
  ] brings

  from_director-off : (l : Letter) → OffGoes M R a (from_director E D n a l)
  from_director-off l = elim l.body as (λ m. OffGoes M R a (from_director E D n a (record l { body = m }))) [
    | msg.Snap ↦ if-off (initiates n a a.decided) _ _ (queues-off (ToRun TakeSnapshot)) stays-off
    | m ↦ stays-off
  ]

  -- The handler of an agent that isn't an initiator.
  pub handler-off : (from : Actor) (l : Letter) → Brings R from l → OffGoes M R a (agent_handler E D n stamp a from l)
  handler-off Director l brings = from_director-off l
  handler-off (Client c) l brings = leaves-off _ (handler-leaves M R down E D n stamp a (Client c) l (λ k. k) brings)
  handler-off (Agent g) l brings = from_agent-off g l brings
  handler-off (Site c) l brings = from_site-off c l brings
  handler-off (Scanner x) l brings = leaves-off _ (handler-leaves M R down E D n stamp a (Scanner x) l (λ k. k) brings)

-- ---- the handler of an initiator

-- What holds of its phase goes by its job at hand and its next number.
pub phase-kept : (E : Database) (S : LogState) (F : Firm) (K : Transactions) (t : ℕ) (a b : AgentState) (phase : Phase) → b.initiating.work ≡ a.initiating.work → b.initiating.next ≡ a.initiating.next
    → PhaseOk E S F K t a phase → PhaseOk E S F K t b phase
phase-kept E S F K t a b Off work next k = absurd k
phase-kept E S F K t a b phase work next k = rw (work, next) k

-- what is told so may be told so to clients
tells-more : (M R Q : Ending) → ((call : ℕ) (e : End) → R call e → Q call e) → (l : Letter) → Tells M R l → Tells M Q l
tells-more M R Q f l k = elim l.body as (λ m. Tells M R (record l { body = m }) → Tells M Q (record l { body = m })) [
  | msg.MpReply call e ↦ λ k. k
  | msg.Answer call e ↦ λ k. f call e k
  | m ↦ λ k. tt
] k

module _ (E : Database) (S : LogState) (F : Firm) (R : Ending) (may : MayTell S.logs S.words.deployment F R) (K : Transactions) (now stamp n : ℕ) (w : Membership) (lay : LaidOut S) (H : LogsHold S)
    (B : Books E S F K now) (low : now ≤ stamp)
    (i : Initiates S n w) (phase : PhaseOk E S F K (term_of w) (S.words.agents n) (S.words.agents n).initiating.phase)
    (past : AllBefore K.submitted stamp) (knows : Knows S F K (S.words.agents n).initiating) (asks : JobsAsked K.submitted (S.words.agents n).initiating) where
  abbrev a : AgentState
  a = S.words.agents n

  -- It goes on as one, and what it tells is so.
  abbrev Goes : Turn AgentState → Type 0
  Goes t = InitiatorGoes E S F K stamp n w a t × AllTell (Replied S.logs S.words.deployment F) R t.sends

  acts-goes : (t : Turn AgentState) → InitiatorActs E S F K stamp n w a t → Goes t
  acts-goes t k = let P = Replied S.logs S.words.deployment F in (k.goes, λ b. all-mono (Tells P P) (Tells P R) (tells-more P P R may.replied) (t.sends b) (k.tells b))

  if-goes : (c : Bool) (x y : Turn AgentState) → Goes x → Goes y → Goes (if c then x else y)
  if-goes true x y p q = p
  if-goes false x y p q = q

  -- where its part stays as it was
  leaves-goes : (t : Turn AgentState) → LeavesInitiating (Replied S.logs S.words.deployment F) R may.down a t → Goes t
  leaves-goes t k = (
    record {
      after = K;
      books = books-later E S F K now stamp low B;
      heard = omega arith;
      start = k.start;
      decided = k.decided;
      waiting = k.waiting;
      phase = subst (λ x. PhaseOk E S F K (term_of w) t.state x.phase) (sym k.initiating)
          (phase-kept E S F K (term_of w) a t.state a.initiating.phase (ap (λ x. x.work) k.initiating) (ap (λ x. x.next) k.initiating) phase);
      submitted = refl;
      knows = subst (Knows S F K) (sym k.initiating) knows;
      sends = inert-sends S n w K t.sends k.sends;
    },
    k.tells,
  )

  same-goes : Goes (becomes a)
  same-goes = leaves-goes (becomes a) (same-leaves (Replied S.logs S.words.deployment F) R may.down a)

  -- what waits is worked where it is idle
  queues-goes : (q : Queued) → QueuedAsked K.submitted q → Goes (queues E S.words.deployment n a q)
  queues-goes q asked = acts-goes (queues E S.words.deployment n a q) (go a.initiating.phase refl phase)
    where
      b : AgentState
      b = record a { initiating = record a.initiating { queue = a.initiating.queue ++ q ∷ [] } }

      -- it knows what it knew
      knows-still : Knows S F K b.initiating
      knows-still = record { rise = knows.rise; covers = knows.covers; decided = knows.decided; fresh = knows.fresh; from = knows.from; first = knows.first; outcome = knows.outcome }

      stays : (x : Phase) → a.initiating.phase ≡ x → PhaseOk E S F K (term_of w) a x → InitiatorActs E S F K stamp n w a (becomes b)
      stays x is k =
          goes-still E S F K stamp n w a now b B low refl refl refl (subst (PhaseOk E S F K (term_of w) b) (sym is) (phase-kept E S F K (term_of w) a b x refl refl k)) knows-still

      go : (x : Phase) → a.initiating.phase ≡ x → PhaseOk E S F K (term_of w) a x → InitiatorActs E S F K stamp n w a (if_idle E S.words.deployment n b x)
      go Idle is k =
          goes-from E S F K stamp n w a K b (works_queue E S.words.deployment n b b.initiating.queue) refl refl (omega arith) refl refl refl
          (works_queue-goes E S F K now stamp n w lay H B low i b refl i.has_decided is (phase-kept E S F K (term_of w) a b Idle refl refl k) knows-still b.initiating.queue
          (all-append (QueuedAsked K.submitted) a.initiating.queue (q ∷ []) asks.0 (asked, tt)))
      go Off is k = stays Off is k
      go (Hears told) is k = stays (Hears told) is k
      go (Closes m parts finished) is k = stays (Closes m parts finished) is k
      go Works is k = stays Works is k

  handler-director : (l : Letter) → Goes (from_director E S.words.deployment n a l)
  handler-director l = elim l.body as (λ m. Goes (from_director E S.words.deployment n a (record l { body = m }))) [
    | msg.Snap ↦ if-goes (initiates n a a.decided) _ _ (queues-goes (ToRun TakeSnapshot) tt) same-goes
    | m ↦ same-goes
  ]

  -- its call was submitted, and what it brings is so
  abbrev Given : Actor → Letter → Type 0
  Given from l = AskedIn S.words.deployment K.submitted from (Agent n) l × Brings R from l

  handler-agent : (g : ℕ) (l : Letter) → Given (Agent g) l → Goes (from_agent E S.words.deployment n stamp a g l)
  handler-agent g l given = elim l.body as (λ m. Given (Agent g) (record l { body = m }) → Goes (from_agent E S.words.deployment n stamp a g (record l { body = m }))) [
    | msg.Decided v ↦ λ r. subst (λ d. Goes (on_decided S.words.deployment n a d a.taken v)) (sym i.has_decided) same-goes
    | msg.MpCall call start client body ↦ λ r. queues-goes (ToRun (RunCall call client g start body)) r.0
    | msg.Admit start ↦ λ r. queues-goes (Admission start g l.term) tt
    | m ↦ λ r. leaves-goes _ (handler-leaves (Replied S.logs S.words.deployment F) R may.down E S.words.deployment n stamp a (Agent g) (record l { body = m }) (λ k. k) r.1)
  ] given

  handler-site : (c : ℕ) (l : Letter) → (l.term ≡ 0) ⊎ (l.term ≡ term_of w) → IsSlot S c → AnswerOk E S F K (part S c) l → Brings R (Site c) l
      → Goes (from_site E S.words.deployment n stamp a c l)
  handler-site c l term slot k brings = elim l.body as (λ m. AnswerOk E S F K (part S c) (record l { body = m }) → Brings R (Site c) (record l { body = m })
      → Goes (from_site E S.words.deployment n stamp a c (record l { body = m }))) [
        | msg.FragDone m round partial ↦ λ k r. acts-goes _ (frag_done-goes E S F K now stamp n w lay H B low i a refl i.has_decided phase past knows asks.1 (part S c) m round partial k.1.0 at
            (subst (λ t. Stood S F (part S c) t (Frag m round k.1.0)) (here k.0) k.1.1))
        | msg.Finished m ↦ λ k r. acts-goes _ (finished-goes E S F K now stamp n w lay H B low i a refl i.has_decided phase knows asks (part S c) m at
            (subst (λ t. (o : Outcome) × Stood S F (part S c) t (Done m o)) (here k.0) k.1))
        | msg.MpState m is_open outcome replies ↦ λ k r. acts-goes _ (mp_state-goes E S F K now stamp n w lay H B low i a refl i.has_decided past knows asks phase (heard_of (part S c) m is_open outcome replies)
            (subst (λ t. K.heard < t → StateOk E S F t (heard_of (part S c) m is_open outcome replies)) (here k.0) k.1))
        | m ↦ λ k r. leaves-goes _ (handler-leaves (Replied S.logs S.words.deployment F) R may.down E S.words.deployment n stamp a (Site c) (record l { body = m }) (λ k. k) r)
      ] k brings
    where
      at : IsPart S (part S c)
      at = slot-part S lay c slot

      -- a letter with a term is of its own one
      here : 0 < l.term → l.term ≡ term_of w
      here some = elim term [ inl none ↦ absurd (omega (arith, some, none)) | inr is ↦ is ]

  -- The handler of an initiator.
  pub handler-initiates : (from : Actor) (l : Letter) → (l.term ≡ 0) ⊎ (l.term ≡ term_of w) → ((c : ℕ) → from ≡ Site c → IsSlot S c × AnswerOk E S F K (part S c) l) → Given from l
      → Goes (agent_handler E S.words.deployment n stamp a from l)
  handler-initiates Director l term ok given = handler-director l
  handler-initiates (Client c) l term ok given =
      leaves-goes _ (handler-leaves (Replied S.logs S.words.deployment F) R may.down E S.words.deployment n stamp a (Client c) l (λ k. k) given.1)
  handler-initiates (Agent g) l term ok given = handler-agent g l given
  handler-initiates (Site c) l term ok given = let (slot, answer) = ok c refl in handler-site c l term slot answer given.1
  handler-initiates (Scanner x) l term ok given =
      leaves-goes _ (handler-leaves (Replied S.logs S.words.deployment F) R may.down E S.words.deployment n stamp a (Scanner x) l (λ k. k) given.1)
