-- An agent takes a message: what holds, holds after all that it does then.
use Rattle.log_laws.proofs.Names.{◌≡◌, ◌<◌, true, false, List, [], ◌∷◌, ◌++◌, refl, sym, subst, ap, ◌⊎◌, inl, inr, ◌==◌, arith, cases_eq, nat_tests, ℕ, ◌&&◌, not, nat_lt, None, AllByRecursion, Actor, Director, Agent, Site, Database, is_host, term_in, Letter, Sends, Turn, becomes, open_letter, ◌▸◌, arrival, Arrival, Taken, Refused, Waits, Waiting, of_term, above_term, AgentState, new_agent, stops, stops_with_host, agent_handler, handler_and_word, unless_stopped, agent_runs, agent_takes, agent_turn, start_taken, rest, start_in_letter, starts_in, Environment, NoMemory, In, History, Admitted, CameOk, AgentWaitingFrom, AgentWaitingOk, all-mono, all-append, all-filter, all-if, Grows, grows-same, concludes, StopsSay, stops-say, stops_with_host-say, AgentTakes, Stops_, Ignores, Runs_, takes-cases, runs-taken, runs-waits, runs-refused, turn-cases, stopped-cases, unless-running, waiting-brings, pops, waiting-shrinks, with_began, start-grows, start-holds, start-stops-holds, WordsTurn, none-handler, handler-grows, handler-plain, handler-later, others-after, then-assoc, concludes-none, calm-event, handler-event, asked-waiting, came-still, none-taken, none-waited, waits-event, refused-event, ignored-event, stop-pops, stays-holds, comes-first, start-of-body, LogState, AskedOk, LogsHold, asked, Client, Scanner}
use Rattle.volt_wire.specs.declared.message.Msg.TheVariants as msg
use Rattle.cluster_model.specs.Agent.{takes_each, takes_waiting, start_after, on_start}
use Rattle.word_laws.specs.Histories as word
use Rattle.word_laws.proofs.Moves as word_moves
use Rattle.word_laws.proofs.Laters.{waiting-later}
use Rattle.word_laws.proofs.Turns.{tells}
use Rattle.log_laws.proofs.Agents.AgentSends.{NoView, NoAdmit, stops-plain, stops-none}
use Rattle.log_laws.proofs.Agents.Views.{agent_turned}
use Rattle.log_laws.proofs.Agents.Admits.{asked-worded}
use Rattle.log_laws.proofs.Agents.AgentTurns.{Rest, rest-of, holds-of, agent_heard, rest-heard, MayJoin, AgentHandler, plain-rest, plain-agent, stay-plain, stay-agent, stopped-agent, then-agent}
use Rattle.log_laws.proofs.Agents.AgentWords.{concludes-agent, begins-rest}
use Rattle.log_laws.proofs.Agents.AgentHandlers.{BringsDecided, may-join, first-agent}

-- ---- a message that comes

-- what a first message asks
pub first-asks : (S : LogState) (from : Actor) (n : ℕ) (l : Letter) (ls : List Letter) → Rest S → S.words.channel from (Agent n) ≡ l ∷ ls → AskedOk (agent_heard S from n) from l
first-asks S (Agent h) n l ls r is = (subst (AllByRecursion (AskedOk S (Agent h))) is (r.loads.asked h n)).0
first-asks S (Site c) n l ls r is = (subst (AllByRecursion (AskedOk S (Site c))) is (r.loads.told c n)).0
first-asks S from n l ls r is = tt

-- a message that brings a word may leave its place at once
pub decided-pops : (S : LogState) (from : Actor) (n : ℕ) (l : Letter) (ls : List Letter) → word.WordsHold S.words → S.words.channel from (Agent n) ≡ l ∷ ls → BringsDecided from l
    → word.WordsHold (agent_heard S from n).words
decided-pops S (Agent k) n l ls h is b = (elim l.body as (λ m. S.words.channel (Agent k) (Agent n) ≡ record l { body = m } ∷ ls → BringsDecided (Agent k) (record l { body = m })
    → word.WordsHold (agent_heard S (Agent k) n).words) [
      | msg.Decided w ↦ λ e b. pops S.words k n (record l { body = msg.Decided w }) ls e tt h
      | m ↦ λ e b. absurd b
    ]) is b
decided-pops S from n l ls h is b = absurd b

-- what follows a handler, when the agent has said its word
concluded-agent : (S : LogState) (n : ℕ) (t : Turn AgentState) → AgentHandler S n t → AgentHandler S n (t ▸ concludes S.words.deployment n)
concluded-agent S n t r =
    then-agent S n t (concludes S.words.deployment n) r (concludes-none S.words.deployment n) (concludes-agent (agent_turned S n t.state t.sends r.handler.history) n)

-- ---- messages that waited

handler-waited : (E : Database) (S : LogState) (n stamp : ℕ) (from : Actor) (l : Letter) → word.WordsHold S.words → Rest S → 0 < word.agent_start S.words n
    → AgentWaitingFrom S.words n from l → AskedOk S from l
    → AgentHandler S n (unless_stopped E S.words.deployment n stamp (S.words.agents n) from l)
handler-waited E S n stamp from l h r up w asked =
    let running : (S.words.agents n).start == 0 ≡ false = grind (arith, nat_tests, up) in
    let D = S.words.deployment in
    let a = S.words.agents n in
    subst (AgentHandler S n) (sym (unless-running E D n stamp a from l running))
    (subst (AgentHandler S n) (then-assoc (agent_handler E D n stamp a from l) (tells S.words.deployment n a.own) (concludes D n))
    (concluded-agent S n (agent_handler E D n stamp a from l ▸ tells S.words.deployment n a.own)
    (first-agent S n r up E stamp from l asked (λ b. h)
    (calm-event E S.words n stamp from l h up (waiting-brings S.words n from l w) (asked-waiting S.words n from l w) (may-join S n r up from l asked)))))

-- what waits and what it asks stay as they are behind a turn
module _ (S : LogState) (n : ℕ) (t : Turn AgentState) (r : AgentHandler S n t) where
  abbrev V : LogState
  V = agent_turned S n t.state t.sends r.handler.history

  pub waits-on : (ws : List Waiting) → AllByRecursion (λ x. AgentWaitingFrom S.words n x.from x.letter) ws → AllByRecursion (λ x. AgentWaitingFrom V.words n x.from x.letter) ws
  waits-on ws k = all-mono _ _ (λ x p. waiting-later S.words V.words n came x.from x.letter p) ws k
    where
      came : (h term j : ℕ) → CameOk S.words h n term j → CameOk V.words h n term j
      came = came-still S.words V.words n (handler-later S.words n t r.handler) (others-after S.words n t.state t.sends r.handler.history)

  pub asks-on : (ws : List Waiting) → AllByRecursion (λ x. AskedOk S x.from x.letter) ws → AllByRecursion (λ x. AskedOk V x.from x.letter) ws
  asks-on ws k = all-mono _ _ (λ x p. asked-worded S V.words.agents V.words.channel r.handler.history x.from x.letter p) ws k

waited-each : (E : Database) (n stamp : ℕ) (ws : List Waiting) (S : LogState) → word.WordsHold S.words → Rest S → 0 < word.agent_start S.words n
    → AllByRecursion (λ x. AgentWaitingFrom S.words n x.from x.letter) ws → AllByRecursion (λ x. AskedOk S x.from x.letter) ws
    → AgentHandler S n (takes_each E S.words.deployment n stamp ws (S.words.agents n))
waited-each E n stamp [] S h r up w asked = stay-agent S n h r up
waited-each E n stamp (x ∷ xs) S h r up w asked = then-agent S n t (takes_each E S.words.deployment n stamp xs) first (none-taken E S.words.deployment n stamp xs)
    (λ k q u. waited-each E n stamp xs (V S n t first) k q u (waits-on S n t first xs w.1) (asks-on S n t first xs asked.1))
  where
    t : Turn AgentState
    t = unless_stopped E S.words.deployment n stamp (S.words.agents n) x.from x.letter

    first : AgentHandler S n t
    first = handler-waited E S n stamp x.from x.letter h r up w.0 asked.0

-- those of the term that the agent has come to
waited-agent : (E : Database) (S : LogState) (n stamp : ℕ) → word.WordsHold S.words → Rest S → 0 < word.agent_start S.words n
    → AgentHandler S n (takes_waiting E S.words.deployment n stamp (S.words.agents n))
waited-agent E S n stamp h r up = then-agent S n t (takes_each E S.words.deployment n stamp ws) first (none-taken E S.words.deployment n stamp ws)
    (λ k q u. waited-each E n stamp ws (V S n t first) k q u
    (waits-on S n t first ws (all-filter (AgentWaitingOk S.words n) (λ w. w.letter.term == term) (S.words.agents n).waiting (h.agents n).waiting))
    (asks-on S n t first ws (all-filter (λ x. AskedOk S x.from x.letter) (λ w. w.letter.term == term) (S.words.agents n).waiting (r.loads.waiting n))))
  where
    term : ℕ
    term = term_in (S.words.agents n).decided

    ws : List Waiting
    ws = of_term term (S.words.agents n).waiting

    t : Turn AgentState
    t = becomes (record (S.words.agents n) { waiting = above_term term (S.words.agents n).waiting })

    first : AgentHandler S n t
    first = plain-agent S n t r (handler-plain S.words n t (inl (refl, up)) (waiting-shrinks S.words n (λ w. nat_lt term w.letter.term) h) (λ b. tt)) (record {
      start = refl;
      decided = refl;
      taken = refl;
      sites = λ c. tt;
      asked = λ g. tt;
      heard = λ u c i. r.loads.heard n c u i;
      waiting = all-filter (λ x. AskedOk S x.from x.letter) (λ w. nat_lt term w.letter.term) (S.words.agents n).waiting (r.loads.waiting n);
      queued = r.loads.queued n;
    })

-- ---- a message of a running agent

module _ (E : Database) (S : LogState) (n stamp : ℕ) (from : Actor) (l : Letter) (ls : List Letter) (H : LogsHold S) (up : 0 < word.agent_start S.words n)
    (is : S.words.channel from (Agent n) ≡ l ∷ ls) where
  abbrev a : AgentState
  a = S.words.agents n

  -- the state without the message
  abbrev P : LogState
  P = agent_heard S from n

  left : Rest P
  left = rest-heard S from n (rest-of S H)

  asks : AskedOk P from l
  asks = first-asks S from n l ls (rest-of S H) is

  -- it is taken, and then those that waited for the term
  taken-agent : arrival a.start (term_in a.decided) l ≡ Taken → AgentHandler P n (handler_and_word E S.words.deployment n stamp a from l ▸ takes_waiting E S.words.deployment n stamp)
  taken-agent e = then-agent P n (handler_and_word E S.words.deployment n stamp a from l) (takes_waiting E S.words.deployment n stamp) first (none-waited E S.words.deployment n stamp)
      (waited-agent E (agent_turned P n t.state t.sends first.handler.history) n stamp)
    where
      t : Turn AgentState
      t = handler_and_word E S.words.deployment n stamp a from l

      first : AgentHandler P n t
      first = subst (AgentHandler P n) (then-assoc (agent_handler E S.words.deployment n stamp a from l) (tells S.words.deployment n a.own) (concludes S.words.deployment n))
          (concluded-agent P n (agent_handler E S.words.deployment n stamp a from l ▸ tells S.words.deployment n a.own)
          (first-agent P n left up E stamp from l asks (decided-pops S from n l ls H.words is)
          (handler-event E S.words n stamp from l ls H.words up is e (may-join P n left up from l asks))))

  -- what a letter has of history doesn't matter
  without-past : (from : Actor) (l : Letter) → AskedOk P from l → AskedOk P from (record l { past = [] })
  without-past (Agent g) l k = k
  without-past (Site c) l k = k
  without-past Director l k = k
  without-past (Client c) l k = k
  without-past (Scanner c) l k = k

  -- it waits for its term
  waits-agent : arrival a.start (term_in a.decided) l ≡ Waits → AgentHandler P n (becomes (record a { waiting = a.waiting ++ record { from = from; letter = record l { past = [] } } ∷ [] }))
  waits-agent e = plain-agent P n (becomes (record a { waiting = a.waiting ++ record { from = from; letter = record l { past = [] } } ∷ [] })) left
      (waits-event S.words n from l ls H.words up is e) (record {
        start = refl;
        decided = refl;
        taken = refl;
        sites = λ c. tt;
        asked = λ g. tt;
        heard = λ u c i. left.loads.heard n c u i;
        waiting = all-append (λ x. AskedOk P x.from x.letter) a.waiting (record { from = from; letter = record l { past = [] } } ∷ []) (left.loads.waiting n) (without-past from l asks, tt);
        queued = left.loads.queued n;
      })

  -- it is dropped
  dropped-agent : WordsTurn (MayJoin P) P.words n (becomes a) → AgentHandler P n (becomes a)
  dropped-agent handler = plain-agent P n (becomes a) left handler (stay-plain P n left)

  runs-agent : (x : Arrival) → arrival a.start (term_in a.decided) l ≡ x → AgentHandler P n (agent_runs E S.words.deployment n stamp a from l)
  runs-agent Taken e = subst (AgentHandler P n) (sym (runs-taken E S.words.deployment n stamp a from l e)) (taken-agent e)
  runs-agent Waits e = subst (AgentHandler P n) (sym (runs-waits E S.words.deployment n stamp a from l e)) (waits-agent e)
  runs-agent Refused e = subst (AgentHandler P n) (sym (runs-refused E S.words.deployment n stamp a from l e)) (dropped-agent (refused-event S.words n from l ls H.words up is e))

  -- it stops
  stops-agent : (t : Turn AgentState) → t.state ≡ new_agent 0 → ((g : ℕ) → t.sends (Agent g) ≡ (stops S.words.deployment n a.start).sends (Agent g))
      → ((b : Actor) → AllByRecursion (StopsSay a.start) (t.sends b)) → AgentHandler P n t
  stops-agent t z sends says = stopped-agent P n t left (none-handler (stop-pops S.words from n l ls t is H.words up z sends says)) z
      (λ c. stops-plain a.start (t.sends (Site c)) (says (Site c))) (λ g. stops-none a.start (t.sends (Agent g)) (says (Agent g)))

  takes-agent : AgentTakes E S.words.deployment n stamp a from l → AgentHandler P n (agent_takes E S.words.deployment n stamp a from l)
  takes-agent (Stops_ e) = subst (AgentHandler P n) (sym e) (stops-agent (stops S.words.deployment n a.start) refl (λ g. refl) (stops-say S.words.deployment n a.start))
  takes-agent (Ignores e c) = subst (AgentHandler P n) (sym e) (dropped-agent (ignored-event S.words n from l ls H.words up is c))
  takes-agent (Runs_ e c) = subst (AgentHandler P n) (sym e) (runs-agent (arrival a.start (term_in a.decided) l) refl)

  running-agent : (o : Environment) → AgentHandler P n (agent_turn E S.words.deployment n stamp a from l o)
  running-agent o = let running : (a.start == 0) ≡ false = grind (arith, nat_tests, up) in elim (turn-cases E S.words.deployment n stamp a from l o running) [
    | inl e ↦ subst (AgentHandler P n) (sym e)
        (stops-agent (stops_with_host S.words.deployment n a.start) refl (λ g. refl) (stops_with_host-say S.words.deployment n a.start))
    | inr e ↦ subst (AgentHandler P n) (sym e) (takes-agent (takes-cases E S.words.deployment n stamp a from l running))
  ]

-- ---- the whole

-- The agent of host n took the first message from this actor, and that is its turn: what holds, holds after it, with a history
-- of words that grew. The agent has its start still, or no word. Who was admitted was so by it.
pub record AgentGoes (S : LogState) (n : ℕ) (from : Actor) (t : Turn AgentState) : Type 0 where
  pub history : History
  pub grows : Grows S.words.history history
  pub goes : (t.state.start ≡ word.agent_start S.words n) ⊎ (t.state.own ≡ None)
  pub by : (x : Admitted) → In x history.admitted → In x S.words.history.admitted ⊎ ((x.by ≡ word.agent_start S.words n) × (0 < word.agent_start S.words n))
  pub holds : LogsHold (record S { words = word_moves.after_agent (word_moves.agent_popped S.words from n) n t.state t.sends history })

handler-goes : (S : LogState) (n : ℕ) (from : Actor) (t : Turn AgentState) → AgentHandler (agent_heard S from n) n t → AgentGoes S n from t
handler-goes S n from t r = record {
  history = r.handler.history;
  grows = handler-grows r.handler;
  goes = elim r.handler.goes [ inl e ↦ inl e.0 | inr z ↦ inr (ap (λ a. a.own) z) ];
  by = r.handler.by;
  holds = holds-of (agent_turned (agent_heard S from n) n t.state t.sends r.handler.history) r.handler.holds r.rest;
}

-- one that is stopped, and stays so
stays-goes : (S : LogState) (n : ℕ) (from : Actor) (l : Letter) (ls : List Letter) → LogsHold S → S.words.channel from (Agent n) ≡ l ∷ ls → word.agent_start S.words n ≡ 0
    → AgentGoes S n from (becomes (S.words.agents n))
stays-goes S n from l ls h is z = let r = rest-heard S from n (rest-of S h) in record {
  history = S.words.history;
  grows = grows-same S.words.history;
  goes = inl refl;
  by = λ x i. inl i;
  holds = holds-of (agent_turned (agent_heard S from n) n (S.words.agents n) (λ b. []) S.words.history) (stays-holds S.words n from l ls h.words is z)
      (plain-rest (agent_heard S from n) n (becomes (S.words.agents n)) S.words.history r (grows-same S.words.history) r.loads.admitted (stay-plain (agent_heard S from n) n r));
}

-- the start that comes to it hasn't begun
module _ (S : LogState) (n s : ℕ) (H : LogsHold S) (z : word.agent_start S.words n ≡ 0) (host : is_host S.words.deployment n ≡ true)
    (comes : word.starts_to S.words n ≡ s ∷ starts_in (rest (S.words.channel Director (Agent n)))) where
  begun-rest : (k : ℕ) (out : Sends) → (k ≡ s) ⊎ (k ≡ 0) → ((c : ℕ) → AllByRecursion NoView (out (Site c))) → ((g : ℕ) → AllByRecursion NoAdmit (out (Agent g)))
      → Rest (agent_turned (agent_heard S Director n) n (new_agent k) out (with_began S.words.history n s))
  begun-rest k out = begins-rest (agent_heard S Director n) n s k out (rest-heard S Director n (rest-of S H)) some fresh
    where
      some : 0 < s
      some = (subst (AllByRecursion (λ x. (S.words.owner x ≡ n) × (0 < x) × (x < S.words.next))) comes (H.words.hosts n).owned).0.1

      fresh : In s (S.words.history.began n) → ⊥
      fresh = (subst (AllByRecursion (λ x. In x (S.words.history.began n) → ⊥)) comes (H.words.hosts n).fresh).0

  -- it runs
  starts-goes : AgentGoes S n Director (on_start S.words.deployment n s)
  starts-goes = record {
    history = with_began S.words.history n s;
    grows = start-grows S.words.history n s;
    goes = inr refl;
    by = λ x i. inl i;
    holds = holds-of (agent_turned (agent_heard S Director n) n (new_agent s) (on_start S.words.deployment n s).sends (with_began S.words.history n s))
        (start-holds S.words n s H.words z host comes)
        (begun-rest s (on_start S.words.deployment n s).sends (inl refl) (λ c. tt)
        (λ g. all-if NoAdmit (is_host S.words.deployment g && not (g == n)) (open_letter (msg.Hello s) ∷ []) [] (tt, tt) tt));
  }

  -- it has stopped at once
  ends-goes : AgentGoes S n Director (stops_with_host S.words.deployment n s)
  ends-goes = record {
    history = with_began S.words.history n s;
    grows = start-grows S.words.history n s;
    goes = inr refl;
    by = λ x i. inl i;
    holds = holds-of (agent_turned (agent_heard S Director n) n (new_agent 0) (stops_with_host S.words.deployment n s).sends (with_began S.words.history n s))
        (start-stops-holds S.words n s H.words z host comes)
        (begun-rest 0 (stops_with_host S.words.deployment n s).sends (inr refl)
        (λ c. stops-plain s _ (stops_with_host-say S.words.deployment n s (Site c))) (λ g. stops-none s _ (stops_with_host-say S.words.deployment n s (Agent g))));
  }

stopped-takes : (E : Database) (S : LogState) (n stamp : ℕ) (from : Actor) (l : Letter) (ls : List Letter) → LogsHold S → word.agent_start S.words n ≡ 0
    → is_host S.words.deployment n ≡ true
    → S.words.channel from (Agent n) ≡ l ∷ ls → AgentGoes S n from (agent_takes E S.words.deployment n stamp (S.words.agents n) from l)
stopped-takes E S n stamp from l ls h z host is = elim (stopped-cases E S.words.deployment n stamp (S.words.agents n) from l (subst (λ x. (x == 0) ≡ true) (sym z) refl)) [
  | inl e ↦ subst (AgentGoes S n from) (sym e) (stays-goes S n from l ls h is z)
  | inr c ↦ subst (AgentGoes S n from) (sym c.1.2) (subst (λ f. AgentGoes S n f (on_start S.words.deployment n c.1.0)) (sym c.0)
      (starts-goes S n c.1.0 h z host (comes-first S.words n c.1.0 l ls (subst (λ f. S.words.channel f (Agent n) ≡ l ∷ ls) c.0 is) (start-of-body l c.1.0 c.1.1))))
]

-- it finds no memory for a Start
stopped-memory : (S : LogState) (n : ℕ) (from : Actor) (l : Letter) (ls : List Letter) → LogsHold S → word.agent_start S.words n ≡ 0 → is_host S.words.deployment n ≡ true
    → S.words.channel from (Agent n) ≡ l ∷ ls → nat_lt 0 (start_after (S.words.agents n) from l) ≡ true
    → AgentGoes S n from (stops_with_host S.words.deployment n (start_after (S.words.agents n) from l))
stopped-memory S n from l ls h z host is some =
    (elim l.body as (λ m. S.words.channel from (Agent n) ≡ record l { body = m } ∷ ls → nat_lt 0 (start_after (S.words.agents n) from (record l { body = m })) ≡ true
    → AgentGoes S n from (stops_with_host S.words.deployment n (start_after (S.words.agents n) from (record l { body = m })))) [
      | msg.Start s ↦ λ e u. started from s (record l { body = msg.Start s }) e refl u
      | m ↦ λ e u. absurd (not-some u)
    ]) is some
  where
    not-some : nat_lt 0 (word.agent_start S.words n) ≡ true → ⊥
    not-some u = let v = subst (λ x. nat_lt 0 x ≡ true) z u in absurd (cc)

    started : (from : Actor) (s : ℕ) (l : Letter) → S.words.channel from (Agent n) ≡ l ∷ ls → start_in_letter l ≡ s ∷ [] → nat_lt 0 (start_taken (S.words.agents n) from s) ≡ true
        → AgentGoes S n from (stops_with_host S.words.deployment n (start_taken (S.words.agents n) from s))
    started Director s l e b u = subst (λ k. AgentGoes S n Director (stops_with_host S.words.deployment n k)) (sym taken)
        (ends-goes S n s h z host (comes-first S.words n s l ls e b))
      where
        taken : start_taken (S.words.agents n) Director s ≡ s
        taken = rw z refl
    started from s l e b u = absurd (not-some u)

-- A message of an agent that is there, with any share of the environment's: what holds, holds after its turn.
pub agent-event : (E : Database) (S : LogState) (n stamp : ℕ) (from : Actor) (l : Letter) (ls : List Letter) (o : Environment) → S.words.channel from (Agent n) ≡ l ∷ ls
    → is_host S.words.deployment n ≡ true → ((answered : ℕ) → o ≡ NoMemory answered → nat_lt 0 (start_after (S.words.agents n) from l) ≡ true) → LogsHold S
    → AgentGoes S n from (agent_turn E S.words.deployment n stamp (S.words.agents n) from l o)
agent-event E S n stamp from l ls o is host memory h = elim (cases_eq (word.agent_start S.words n) 0) [
  | inl z ↦ stopped o z memory
  | inr r ↦ handler-goes S n from (agent_turn E S.words.deployment n stamp (S.words.agents n) from l o) (running-agent E S n stamp from l ls h (omega (arith, r)) is o)
]
  where
    stopped : (o : Environment) → word.agent_start S.words n ≡ 0 → ((answered : ℕ) → o ≡ NoMemory answered → nat_lt 0 (start_after (S.words.agents n) from l) ≡ true)
        → AgentGoes S n from (agent_turn E S.words.deployment n stamp (S.words.agents n) from l o)
    stopped (NoMemory answered) z m = stopped-memory S n from l ls h z host is (m answered refl)
    stopped x z m = stopped-takes E S n stamp from l ls h z host is
