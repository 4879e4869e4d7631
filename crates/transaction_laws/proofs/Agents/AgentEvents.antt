-- An agent takes a message: what holds of transactions, holds after all that it does then.
use Rattle.volt_wire.specs.declared.message.Msg.TheVariants as msg
use Rattle.word_laws.specs.Histories as word
use Rattle.word_laws.proofs.Moves as word_moves
use Rattle.transaction_laws.proofs.Names.{Actor, Agent, Client, Replied, Scanner, not, ◌&&◌, AgentAsks, AllBefore, AskedIn, AgentGoes, AgentState, AgentTakes, AllByRecursion, AnswerOk, Arrival, AskedOk, Bool, CallsHold, Database, Deployment, Director, DiskFails, DisksShow, Environment, Firm, Ignores, In, IsSlot, Letter, List, LogState, LogsHold, Membership, NoFault, NoMemory, Refused, Rest, Runs_, Site, Some, Stops_, Taken, Transactions, Turn, WaitingAnswer, Waits, [], agent-event, agent-there, agent_handler, agent_heard, agent_runs, agent_takes, agent_turn, agent_turned, all-append, all-if, ap, arith, arrival, becomes, cases_Bool, cases_eq, comes-first, concludes, concludes-agent, concludes-none, decided-pops, false, first-agent, first-asks, handler-event, handler-grows, handler_and_word, holds-of, initiator, initiator-member, inl, inr, is_host, is_slot_of, may-join, may_decide, member-is, nat_lt, nat_tests, new_agent, none-waited, not-both, on_start, open_letter, part, refl, rest-heard, rest-of, runs-refused, runs-taken, runs-waits, slots, start-of-body, start_after, stopped-cases, stops, stops_with_host, subst, sym, taken-for, takes-cases, takes_waiting, tells, term_in, then-assoc, true, turn-cases, ℕ, ◌++◌, ◌+◌, ◌<◌, ◌==◌, ◌∙◌, ◌∷◌, ◌≡◌, ◌▸◌}
use Rattle.transaction_laws.proofs.Kept.{AllTell, Brings, Ending, MayTell, NoOrder, Tells, WaitsTold, calls-plain}
use Rattle.transaction_laws.proofs.Agents.AgentHandlers.{stops-tell, stops_with_host-tell}
use Rattle.transaction_laws.proofs.Initiators.{LaidOut}
use Rattle.transaction_laws.proofs.Agents.AgentTurns.{CallsHandler, inert-then, told-handler, then-calls, concludes-calls, concludes-settled, knows-off, mine-same}
use Rattle.transaction_laws.proofs.Agents.AgentWaits.{waited-calls}

-- The agent of host n took the first message from this actor, and that is its turn: what holds of words, sites, logs and
-- transactions, holds after it. What it tells of calls is so, and what waits for it brings only such.
abbrev AgentCallsGo : Database → LogState → Firm → Ending → Bool → Transactions → ℕ → ℕ → Actor → Turn AgentState → Type 0
AgentCallsGo E S F R halted K stamp n from t =
    (r : AgentGoes S n from t) × (L : Transactions) × CallsHold E (record S { words = word_moves.after_agent (word_moves.agent_popped S.words from n) n t.state t.sends r.history }) F halted L stamp
    × (L.submitted ≡ K.submitted) × AllTell (Replied S.logs S.words.deployment F) R t.sends × AllByRecursion (WaitsTold R) t.state.waiting

module _ (E : Database) (S : LogState) (F : Firm) (R : Ending) (halted : Bool) (K : Transactions) (stamp n : ℕ) (from : Actor) (lay : LaidOut S) (H : LogsHold S) (C : CallsHold E S F halted K stamp) where
  abbrev a : AgentState
  a = S.words.agents n

  -- ---- turns in which the initiator's part stays, or the agent stops

  -- it stays, but for what waits
  stays-go : (b : AgentState) → b.start ≡ a.start → b.decided ≡ a.decided → b.initiating ≡ a.initiating → AllByRecursion (WaitingAnswer E S F K) b.waiting → AllByRecursion (WaitsTold R) b.waiting
      → AgentGoes S n from (becomes b) → AgentCallsGo E S F R halted K stamp n from (becomes b)
  stays-go b start word part waits told r = (
    r,
    K,
    inert-then E F halted stamp S H K C (Some from) n (becomes b) r.history r.grows (λ c. tt) (mine-same E S F K n (C.agents n) b start word part waits)
        (λ w x d init some is before. rw word (before (sym start ∙ is))),
    refl,
    λ b. tt,
    told,
  )

  -- it stops
  stops-go : (t : Turn AgentState) → t.state ≡ new_agent 0 → ((c : ℕ) → AllByRecursion NoOrder (t.sends (Site c))) → AllTell (Replied S.logs S.words.deployment F) R t.sends → AgentGoes S n from t → AgentCallsGo E S F R halted K stamp n from t
  stops-go t z none tells r = (
    r,
    K,
    inert-then E F halted stamp S H K C (Some from) n t r.history r.grows none (rw z (record { initiating = inl (refl, refl, refl); knows = knows-off S F K _ refl refl refl; waiting = tt }))
        (λ w x d init some is before. let e : t.state.start ≡ 0 = ap (λ y. y.start) z in absurd (omega (arith, some, is, e))),
    refl,
    tells,
    rw z tt,
  )

  stops_with_host-plain : (k c : ℕ) → AllByRecursion NoOrder ((stops_with_host S.words.deployment n k).sends (Site c))
  stops_with_host-plain k c = all-if NoOrder (is_slot_of S.words.deployment n c) (open_letter (msg.Stop k) ∷ []) [] (tt, tt) tt

  -- A fresh start begins, of which no word is the initiator's.
  starts-go : (s : ℕ) → (In s (S.words.history.began n) → ⊥) → AgentGoes S n from (on_start S.words.deployment n s) → AgentCallsGo E S F R halted K stamp n from (on_start S.words.deployment n s)
  starts-go s fresh r = (
    r,
    K,
    inert-then E F halted stamp S H K C (Some from) n (on_start S.words.deployment n s) r.history r.grows (λ c. tt) (record { initiating = inl (refl, refl, refl); knows = knows-off S F K _ refl refl refl; waiting = tt })
        (λ w x d init some is before. absurd (fresh (named w x d init is))),
    refl,
    starts-tell,
    tt,
  )
    where
      starts-tell : AllTell (Replied S.logs S.words.deployment F) R (on_start S.words.deployment n s).sends
      starts-tell (Agent g) = all-if (Tells (Replied S.logs S.words.deployment F) R) (is_host S.words.deployment g && not (g == n)) (open_letter (msg.Hello s) ∷ []) [] (tt, tt) tt
      starts-tell b = tt

      named : (w : Membership) (x : ℕ) → In w S.words.history.decided → initiator w ≡ Some (n, x) → s ≡ x → In s (S.words.history.began n)
      named w x d init is =
          let g = H.words.history.decided_good w d in
          let m = member-is S.words H.words.history w n x g (initiator-member w n x init) in
          subst (λ z. In z (S.words.history.began n)) (sym is) (subst (λ z. In x (S.words.history.began z)) m.2 (g.named_begun x m.0).began)

-- ---- a message of its term

-- of what comes from a site
came-answer : (E : Database) (S : LogState) (F : Firm) (halted : Bool) (K : Transactions) (stamp n : ℕ) (from : Actor) (l : Letter) (ls : List Letter) → CallsHold E S F halted K stamp
    → S.words.channel from (Agent n) ≡ l ∷ ls → (c : ℕ) → from ≡ Site c → IsSlot S c × AnswerOk E S F K (part S c) l
came-answer E S F halted K stamp n from l ls C is c e = elim (cases_Bool (nat_lt c (slots S.words.deployment))) [
  | inl slot ↦ (slot, (subst (AllByRecursion (AnswerOk E S F K (part S c))) here (C.to_agents c n slot)).0)
  | inr out ↦ let none = C.environment c n (λ slot. not-both (nat_lt c (slots S.words.deployment)) slot out) in absurd (some-left (sym none ∙ here))
]
  where
    here : S.words.channel (Site c) (Agent n) ≡ l ∷ ls
    here = subst (λ f. S.words.channel f (Agent n) ≡ l ∷ ls) e is

    some-left : [] ≡ l ∷ ls → ⊥
    some-left q = absurd (cc)

module _ (E : Database) (S : LogState) (F : Firm) (R : Ending) (may : MayTell S.logs S.words.deployment F R) (halted : Bool) (K : Transactions) (stamp n : ℕ) (from : Actor) (l : Letter) (ls : List Letter)
    (lay : LaidOut S) (H : LogsHold S)
    (C : CallsHold E S F halted K stamp) (up : 0 < word.agent_start S.words n) (is : S.words.channel from (Agent n) ≡ l ∷ ls)
    (take : arrival (S.words.agents n).start (term_in (S.words.agents n).decided) l ≡ Taken)
    (past : AllBefore K.submitted stamp) (asks : AgentAsks S.words.deployment K.submitted n (S.words.agents n)) (call : AskedIn S.words.deployment K.submitted from (Agent n) l)
    (brings : Brings R from l) (waits : AllByRecursion (WaitsTold R) (S.words.agents n).waiting) where
  abbrev D : Deployment
  D = S.words.deployment

  abbrev agent : AgentState
  agent = S.words.agents n

  -- the state without the message
  abbrev P : LogState
  P = agent_heard S from n

  left : Rest P
  left = rest-heard S from n (rest-of S H)

  asked : AskedOk P from l
  asked = first-asks S from n l ls (rest-of S H) is

  -- its handler, and what the agent says then
  abbrev told : Turn AgentState
  told = agent_handler E D n stamp agent from l ▸ tells D n agent.own

  told-calls : CallsHandler E F R halted stamp P K n told
  told-calls = told-handler E F R halted stamp S may lay H K C (Some from) n from l
      (first-agent P n left up E stamp from l asked (decided-pops S from n l ls H.words is) (handler-event E S.words n stamp from l ls H.words up is take (may-join P n left up from l asked)))
      (taken-for agent.start (term_in agent.decided) l take).1 (came-answer E S F halted K stamp n from l ls C is)
      past asks call brings waits

  -- the word that it may decide
  concluded-calls : CallsHandler E F R halted stamp P K n (told ▸ concludes D n)
  concluded-calls = then-calls E F R halted stamp P K n told (concludes D n) told-calls (concludes-none D n)
      (λ k q c u asks waits. let T = agent_turned P n told.state told.sends told-calls.handler.handler.history in
      concludes-calls E F halted stamp T (holds-of T k q) told-calls.after c n u R waits asks (concludes-agent T n k q u))

  -- a handler with all that follows, and then those that waited
  abbrev whole : Turn AgentState
  whole = handler_and_word E D n stamp agent from l

  whole-is : told ▸ concludes D n ≡ whole
  whole-is = then-assoc (agent_handler E D n stamp agent from l) (tells D n agent.own) (concludes D n)

  whole-calls : CallsHandler E F R halted stamp P K n whole
  whole-calls = subst (CallsHandler E F R halted stamp P K n) whole-is concluded-calls

  whole-settled : may_decide n whole.state whole.state.own ≡ false
  whole-settled = subst (λ t. may_decide n t.state t.state.own ≡ false) whole-is (concludes-settled D n told.state)

  taken-calls : CallsHandler E F R halted stamp P K n (whole ▸ takes_waiting E D n stamp)
  taken-calls = then-calls E F R halted stamp P K n whole (takes_waiting E D n stamp) whole-calls (none-waited E D n stamp)
      (λ k q c u asks waits. waited-calls E F R halted stamp n (agent_turned P n whole.state whole.sends whole-calls.handler.handler.history) may lay k q whole-calls.after c u
      (subst (λ A. AllBefore A stamp) (sym whole-calls.submitted) past) asks waits
      (subst (λ b. may_decide n b b.own ≡ false) (sym (agent-there P.words n whole.state whole.sends whole-calls.handler.handler.history)) whole-settled))

  taken-go : AgentCallsGo E S F R halted K stamp n from (whole ▸ takes_waiting E D n stamp)
  taken-go = (
    record {
      history = taken-calls.handler.handler.history;
      grows = handler-grows taken-calls.handler.handler;
      goes = elim taken-calls.handler.handler.goes [ inl e ↦ inl e.0 | inr z ↦ inr (ap (λ b. b.own) z) ];
      by = taken-calls.handler.handler.by;
      holds = holds-of (agent_turned P n (whole ▸ takes_waiting E D n stamp).state (whole ▸ takes_waiting E D n stamp).sends taken-calls.handler.handler.history) taken-calls.handler.handler.holds taken-calls.handler.rest;
    },
    taken-calls.after,
    taken-calls.calls,
    taken-calls.submitted,
    taken-calls.tells,
    taken-calls.told,
  )

-- ---- the whole

-- as it waits
brings-waiting : (R : Ending) (from : Actor) (l : Letter) → Brings R from l → Brings R from (record l { past = [] })
brings-waiting R (Agent h) l k = k
brings-waiting R (Site c) l k = k
brings-waiting R (Client c) l k = tt
brings-waiting R Director l k = tt
brings-waiting R (Scanner x) l k = tt

module _ (E : Database) (S : LogState) (F : Firm) (R : Ending) (may : MayTell S.logs S.words.deployment F R) (halted : Bool) (K : Transactions) (stamp n : ℕ) (from : Actor) (l : Letter) (ls : List Letter)
    (lay : LaidOut S) (H : LogsHold S)
    (C : CallsHold E S F halted K stamp) (is : S.words.channel from (Agent n) ≡ l ∷ ls)
    (past : AllBefore K.submitted stamp) (asks : AgentAsks S.words.deployment K.submitted n (S.words.agents n)) (call : AskedIn S.words.deployment K.submitted from (Agent n) l)
    (brings : Brings R from l) (waits : AllByRecursion (WaitsTold R) (S.words.agents n).waiting) where
  abbrev there : AgentState
  there = S.words.agents n

  abbrev Result : Turn AgentState → Type 0
  Result t = AgentGoes S n from t → AgentCallsGo E S F R halted K stamp n from t

  unchanged : Result (becomes there)
  unchanged = stays-go E S F R halted K stamp n from lay H C there refl refl refl (C.agents n).waiting waits

  -- ---- of an agent that runs

  module _ (up : 0 < word.agent_start S.words n) where
    running : (there.start == 0) ≡ false
    running = grind (arith, nat_tests, up)

    answers : WaitingAnswer E S F K (record { from = from; letter = record l { past = [] } })
    answers = elim from as (λ f. ((c : ℕ) → f ≡ Site c → IsSlot S c × AnswerOk E S F K (part S c) l) → WaitingAnswer E S F K (record { from = f; letter = record l { past = [] } })) [
      | Site c ↦ λ k. k c refl
      | f ↦ λ k. tt
    ] (came-answer E S F halted K stamp n from l ls C is)

    waits-then : Result (becomes (record there { waiting = there.waiting ++ record { from = from; letter = record l { past = [] } } ∷ [] }))
    waits-then = stays-go E S F R halted K stamp n from lay H C (record there { waiting = there.waiting ++ record { from = from; letter = record l { past = [] } } ∷ [] }) refl refl refl
        (all-append (WaitingAnswer E S F K) there.waiting (record { from = from; letter = record l { past = [] } } ∷ []) (C.agents n).waiting (answers, tt))
        (all-append (WaitsTold R) there.waiting (record { from = from; letter = record l { past = [] } } ∷ []) waits (brings-waiting R from l brings, tt))

    runs : (x : Arrival) → arrival there.start (term_in there.decided) l ≡ x → Result (agent_runs E S.words.deployment n stamp there from l)
    runs Taken e r = subst (AgentCallsGo E S F R halted K stamp n from) (sym (runs-taken E S.words.deployment n stamp there from l e))
        (taken-go E S F R may halted K stamp n from l ls lay H C up is e past asks call brings waits)
    runs Waits e r = subst Result (sym (runs-waits E S.words.deployment n stamp there from l e)) waits-then r
    runs Refused e r = subst Result (sym (runs-refused E S.words.deployment n stamp there from l e)) unchanged r

    takes : AgentTakes E S.words.deployment n stamp there from l → Result (agent_takes E S.words.deployment n stamp there from l)
    takes (Stops_ e) r = subst Result (sym e) (stops-go E S F R halted K stamp n from lay H C (stops S.words.deployment n there.start) refl (λ c. tt) (stops-tell (Replied S.logs S.words.deployment F) R S.words.deployment n there.start)) r
    takes (Ignores e c) r = subst Result (sym e) unchanged r
    takes (Runs_ e c) r = subst Result (sym e) (runs (arrival there.start (term_in there.decided) l) refl) r

    running-go : (o : Environment) → Result (agent_turn E S.words.deployment n stamp there from l o)
    running-go o r = elim (turn-cases E S.words.deployment n stamp there from l o running) [
      | inl e ↦ subst Result (sym e)
          (stops-go E S F R halted K stamp n from lay H C (stops_with_host S.words.deployment n there.start) refl (stops_with_host-plain E S F R halted K stamp n from lay H C there.start)
          (stops_with_host-tell (Replied S.logs S.words.deployment F) R S.words.deployment n there.start)) r
      | inr e ↦ subst Result (sym e) (takes (takes-cases E S.words.deployment n stamp there from l running)) r
    ]

  -- ---- of one that is stopped

  module _ (z : word.agent_start S.words n ≡ 0) where
    -- the start that comes to it hasn't begun
    fresh : (s : ℕ) → from ≡ Director → l.body ≡ msg.Start s → In s (S.words.history.began n) → ⊥
    fresh s f b = (subst (AllByRecursion (λ x. In x (S.words.history.began n) → ⊥))
        (comes-first S.words n s l ls (subst (λ x. S.words.channel x (Agent n) ≡ l ∷ ls) f is) (start-of-body l s b)) (H.words.hosts n).fresh).0

    stopped-takes : Result (agent_takes E S.words.deployment n stamp there from l)
    stopped-takes r = elim (stopped-cases E S.words.deployment n stamp there from l (subst (λ x. (x == 0) ≡ true) (sym z) refl)) [
      | inl e ↦ subst Result (sym e) unchanged r
      | inr c ↦ subst Result (sym c.1.2) (starts-go E S F R halted K stamp n from lay H C c.1.0 (fresh c.1.0 c.0 c.1.1)) r
    ]

    stopped-go : (o : Environment) → Result (agent_turn E S.words.deployment n stamp there from l o)
    stopped-go NoFault = stopped-takes
    stopped-go (DiskFails answered) = stopped-takes
    stopped-go (NoMemory answered) =
        stops-go E S F R halted K stamp n from lay H C (stops_with_host S.words.deployment n (start_after there from l)) refl
        (stops_with_host-plain E S F R halted K stamp n from lay H C (start_after there from l))
        (stops_with_host-tell (Replied S.logs S.words.deployment F) R S.words.deployment n (start_after there from l))
    stopped-go (DisksShow shown failed) = stopped-takes

-- A message of an agent that is there, with any share of the environment's: what holds of transactions, holds after its turn.
pub agent-calls : (E : Database) (S : LogState) (F : Firm) (R : Ending) (halted : Bool) (K : Transactions) (now n : ℕ) (from : Actor) (l : Letter) (ls : List Letter) (o : Environment)
    → MayTell S.logs S.words.deployment F R → Brings R from l → AllByRecursion (WaitsTold R) (S.words.agents n).waiting → LaidOut S → LogsHold S → CallsHold E S F halted K now → S.words.channel from (Agent n) ≡ l ∷ ls → is_host S.words.deployment n ≡ true
    → AllBefore K.submitted (now + 1) → AgentAsks S.words.deployment K.submitted n (S.words.agents n) → AskedIn S.words.deployment K.submitted from (Agent n) l
    → ((answered : ℕ) → o ≡ NoMemory answered → nat_lt 0 (start_after (S.words.agents n) from l) ≡ true)
    → let t = agent_turn E S.words.deployment n (now + 1) (S.words.agents n) from l o in
    (r : AgentGoes S n from t) × (L : Transactions)
    × CallsHold E (record S { words = word_moves.after_agent (word_moves.agent_popped S.words from n) n t.state t.sends r.history }) F halted L (now + 1)
    × (L.submitted ≡ K.submitted) × AllTell (Replied S.logs S.words.deployment F) R t.sends × AllByRecursion (WaitsTold R) t.state.waiting
agent-calls E S F R halted K now n from l ls o may brings waits lay H k is host past asks call memory = elim (cases_eq (word.agent_start S.words n) 0) [
  | inl z ↦ stopped-go E S F R may halted K (now + 1) n from l ls lay H C is past asks call brings waits z o goes
  | inr u ↦ running-go E S F R may halted K (now + 1) n from l ls lay H C is past asks call brings waits (omega (arith, u)) o goes
]
  where
    C : CallsHold E S F halted K (now + 1)
    C = calls-plain E S F halted K now H k S.words.next S.words.channel S.words.owner (λ h c. refl) (λ c h. refl) H

    goes : AgentGoes S n from (agent_turn E S.words.deployment n (now + 1) (S.words.agents n) from l o)
    goes = agent-event E S n (now + 1) from l ls o is host memory H
