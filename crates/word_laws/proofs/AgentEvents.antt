-- An agent takes a message: what holds, holds after all that it does then.
use Rattle.std.proofs.Common.{◌≡◌, ◌<◌, true, false, List, [], ◌∷◌, ◌++◌, refl, sym, subst, ap, ◌∙◌, inl, inr, ◌==◌, arith}
use Rattle.std.proofs.lemmas.Bool.Decides.{nat_tests}
use Rattle.std.proofs.lemmas.Bool.{cases_eq}
use Rattle.std.specs.Prelude.{ℕ, nat_lt}
use Rattle.std.specs.List.{AllByRecursion}
use Rattle.volt_wire.specs.declared.actor.Actor.{Actor}
use Rattle.volt_wire.specs.declared.actor.Actor.TheVariants.{Director, Client, Agent, Site, Scanner}
use Rattle.volt_wire.specs.declared.message.Msg.TheVariants as msg
use Rattle.cluster_model.specs.Engine.{Database}
use Rattle.cluster_model.specs.Words.{Deployment, is_host, term_in}
use Rattle.cluster_model.specs.Letters.{Letter, Turn, becomes, ◌▸◌, arrival, Arrival, Taken, Refused, Waits, Waiting, of_term, above_term}
use Rattle.cluster_model.specs.AgentState.{AgentState, new_agent, stops, stops_with_host}
use Rattle.cluster_model.specs.declared.initiating.Queued.TheVariants.{Admission}
use Rattle.cluster_model.specs.Agent.{agent_handler, handler_and_word, unless_stopped, takes_each, takes_waiting, agent_runs, agent_takes, agent_turn, start_after, start_taken, on_start}
use Rattle.cluster_model.specs.Environment.{Environment, NoFault, DiskFails, NoMemory, DisksShow}
use Rattle.cluster_model.specs.World.{took, rest}
use Rattle.cluster_model.specs.Laws.{start_in_letter, starts_in}
use Rattle.cluster_steps.specs.Lists.{In}
use Rattle.word_laws.specs.Histories.{State, agent_start, starts_to, WordsHold, LetterOk, AsksAdmission, CameOk, QueuedAdmissionOk, AgentWaitingFrom, AgentWaitingOk, ClosesFrom, InOrder}
use Rattle.cluster_steps.proofs.Lists.{all-mono, all-filter, eqb-same, not-both}
use Rattle.word_laws.proofs.Moves.{Nobody, Anyone, after_agent, agent_popped, WordsLater, Heeded, WordsGo}
use Rattle.word_laws.proofs.Calm.{BringsWord, asked_by, handler-calm, loaded_by}
use Rattle.word_laws.proofs.Laters.{ask-later, came-later, closes-later, ask-began, waiting-later}
use Rattle.word_laws.proofs.Turns.{tells, concludes, stops_with_host-closed, StopsSay, stops-say, stops_with_host-say}
use Rattle.word_laws.proofs.Arrivals.{arrival-waits, arrival-taken, arrival-open, arrival-dropped, Commands, AgentTakes, Stops_, Ignores, Runs_, takes-cases, runs-taken, runs-waits, runs-refused, turn-cases, stopped-cases, unless-running, waiting-brings}
use Rattle.word_laws.proofs.Steps.{later-moved, pops, pops-other, waiting-shrinks, waits-holds}
use Rattle.word_laws.proofs.Rejoins.{start-goes, start-stops-goes}
use Rattle.word_laws.proofs.Draws.{director-drops-holds}
use Rattle.word_laws.proofs.Hearings.{WordsTurn, none-handler, handler-grows, handler-plain, stay-handler, agent-there, on-handler, then-assoc, calm-handler, concluded-handler, after-same}
use Rattle.word_laws.proofs.Letters.{forgets-handler, stop-handler, closed-handler, word-handler, decided-handler}

-- ---- a message leaves its channel

pub no-zero : (P : State) (n : ℕ) → agent_start P n ≡ 0 → 0 < agent_start P n → ⊥
no-zero P n z u = absurd (omega (arith, z, u))

-- one that the agent has heeded, or needn't
pub pops-any : (S : State) (from : Actor) (n : ℕ) (l : Letter) (ls : List Letter) → S.channel from (Agent n) ≡ l ∷ ls
    → ((k : ℕ) → from ≡ Agent k → Heeded S n l) → WordsHold S → WordsHold (agent_popped S from n)
pops-any S (Agent k) n l ls is heeded h = pops S k n l ls is (heeded k refl) h
pops-any S Director n l ls is heeded h = director-drops-holds S n h
pops-any S (Client c) n l ls is heeded h = pops-other S (Client c) n (λ k. refl) (λ e. absurd (cc)) h
pops-any S (Site i) n l ls is heeded h = pops-other S (Site i) n (λ k. refl) (λ e. absurd (cc)) h
pops-any S (Scanner i) n l ls is heeded h = pops-other S (Scanner i) n (λ k. refl) (λ e. absurd (cc)) h

-- The agent stops, and then the message leaves its channel.
pub stop-pops : (S : State) (from : Actor) (n : ℕ) (l : Letter) (ls : List Letter) (t : Turn AgentState) → S.channel from (Agent n) ≡ l ∷ ls → WordsHold S → 0 < agent_start S n → t.state ≡ new_agent 0
    → ((g : ℕ) → t.sends (Agent g) ≡ (stops S.deployment n (agent_start S n)).sends (Agent g))
    → ((b : Actor) → AllByRecursion (StopsSay (agent_start S n)) (t.sends b)) → WordsTurn Nobody (agent_popped S from n) n t
stop-pops S from n l ls t is h up e sends says = forgets-handler S n from l ls t is r (λ more q. pops-any T from n l more q (λ k z. unheeded) r.holds)
  where
    r : WordsTurn Nobody S n t
    r = stop-handler S n t h up e sends says

    T : State
    T = after_agent S n t.state t.sends r.history

    zero : agent_start T n ≡ 0
    zero = ap (λ x. x.start) (agent-there S n t.state t.sends r.history ∙ e)

    unheeded : Heeded T n l
    unheeded = elim l.body as (λ m. Heeded T n (record l { body = m })) [
      | msg.Word base lost admitted ↦ λ u q. absurd (no-zero T n zero u)
      | msg.Closed o ↦ λ u. absurd (no-zero T n zero u)
      | m ↦ tt
    ]

-- ---- an Admit that came

-- as it left its channel
pub came-popped : (S : State) (k n j : ℕ) (l : Letter) (ls : List Letter) → WordsHold S → S.channel (Agent k) (Agent n) ≡ record l { body = msg.Admit j } ∷ ls → CameOk (agent_popped S (Agent k) n) k n l.term j
came-popped S k n j l ls h is = (
  ask-later S (agent_popped S (Agent k) n) (later-moved S S.agents (took S.channel (Agent k) (Agent n)) (λ s b r. r)) k n l.term j ok,
  subst (AllByRecursion (ClosesFrom (S.history.began k) j)) (sym left) order,
)
  where
    ok : AsksAdmission S k n l.term j
    ok = (subst (AllByRecursion (LetterOk S k n)) is (h.channels k n).letters).0

    order : AllByRecursion (ClosesFrom (S.history.began k) j) ls
    order = (subst (InOrder (S.history.began k)) is (h.channels k n).ordered).0

    left : took S.channel (Agent k) (Agent n) (Agent k) (Agent n) ≡ ls
    left = rw (eqb-same n, eqb-same k) (ap rest is)

-- ---- a message that brings no word

pub calm-event : {M : ℕ → ℕ → Type 0} (E : Database) (P : State) (n stamp : ℕ) (from : Actor) (l : Letter) → WordsHold P → 0 < agent_start P n → (BringsWord from l → ⊥)
    → ((j h term : ℕ) → In (Admission j h term) (asked_by from l) → QueuedAdmissionOk P n (Admission j h term))
    → ((j h term : ℕ) → In (Admission j h term) ((P.agents n).initiating.queue ++ asked_by from l) → M j h)
    → WordsTurn M P n (agent_handler E P.deployment n stamp (P.agents n) from l ▸ tells P.deployment n (P.agents n).own)
calm-event E P n stamp from l h up calm new may =
    calm-handler P h n (asked_by from l) (loaded_by (P.agents n) from l) (agent_handler E P.deployment n stamp (P.agents n) from l) up
    (handler-calm E P.deployment n stamp (P.agents n) from l calm) new may

-- ---- the handler of a message, and what the agent says then

-- of a message that is taken
pub handler-event : {M : ℕ → ℕ → Type 0} (E : Database) (S : State) (n stamp : ℕ) (from : Actor) (l : Letter) (ls : List Letter) → WordsHold S → 0 < agent_start S n
    → S.channel from (Agent n) ≡ l ∷ ls
    → arrival (agent_start S n) (term_in (S.agents n).decided) l ≡ Taken
    → ((j h term : ℕ) → In (Admission j h term) ((S.agents n).initiating.queue ++ asked_by from l) → M j h)
    → WordsTurn M (agent_popped S from n) n (agent_handler E S.deployment n stamp (S.agents n) from l ▸ tells S.deployment n (S.agents n).own)
handler-event {M = M} E S n stamp (Agent k) l ls h up is taken may = elim l.body as (λ m. S.channel (Agent k) (Agent n) ≡ record l { body = m } ∷ ls
    → arrival (agent_start S n) (term_in (S.agents n).decided) (record l { body = m }) ≡ Taken
    → ((j h term : ℕ) → In (Admission j h term) ((S.agents n).initiating.queue ++ asked_by (Agent k) (record l { body = m })) → M j h)
    → WordsTurn M (agent_popped S (Agent k) n) n (agent_handler E S.deployment n stamp (S.agents n) (Agent k) (record l { body = m }) ▸ tells S.deployment n (S.agents n).own)) [
      | msg.Closed o ↦ λ e a may. none-handler (closed-handler S h n k o l ls up e)
      | msg.Word base lost admitted ↦ λ e a may. none-handler (word-handler S h n k base lost admitted l ls up e
          (arrival-taken (agent_start S n) (term_in (S.agents n).decided) (record l { body = msg.Word base lost admitted }) a))
      | msg.Decided w ↦ λ e a may. none-handler (decided-handler (agent_popped S (Agent k) n) (pops S k n (record l { body = msg.Decided w }) ls e tt h) n w up
          (subst (AllByRecursion (LetterOk S k n)) e (h.channels k n).letters).0.1)
      | msg.Admit j ↦ λ e a may. calm-event E (agent_popped S (Agent k) n) n stamp (Agent k) (record l { body = msg.Admit j })
          (pops S k n (record l { body = msg.Admit j }) ls e tt h) up (λ b. b)
          (λ i g term q. elim q [
            | inl p ↦ subst (QueuedAdmissionOk (agent_popped S (Agent k) n) n) p (came-popped S k n j l ls h e)
            | inr p ↦ absurd p
          ]) may
      | m ↦ λ e a may. calm-event E (agent_popped S (Agent k) n) n stamp (Agent k) (record l { body = m }) (pops S k n (record l { body = m }) ls e tt h) up (λ b. b)
          (λ i g term q. absurd q) may
    ] is taken may
handler-event {M = M} E S n stamp Director l ls h up is taken may =
    calm-event E (agent_popped S Director n) n stamp Director l (director-drops-holds S n h) up (λ b. b) (λ i g term q. absurd q) may
handler-event {M = M} E S n stamp (Client c) l ls h up is taken may =
    calm-event E (agent_popped S (Client c) n) n stamp (Client c) l (pops-any S (Client c) n l ls is (λ k q. absurd (cc)) h) up (λ b. b) (λ i g term q. absurd q) may
handler-event {M = M} E S n stamp (Site i) l ls h up is taken may =
    calm-event E (agent_popped S (Site i) n) n stamp (Site i) l (pops-any S (Site i) n l ls is (λ k q. absurd (cc)) h) up (λ b. b) (λ i g term q. absurd q) may
handler-event {M = M} E S n stamp (Scanner i) l ls h up is taken may =
    calm-event E (agent_popped S (Scanner i) n) n stamp (Scanner i) l (pops-any S (Scanner i) n l ls is (λ k q. absurd (cc)) h) up (λ b. b) (λ i g term q. absurd q) may

-- ---- a message that waited

pub asked-waiting : (P : State) (n : ℕ) (from : Actor) (l : Letter) → AgentWaitingFrom P n from l → (j h term : ℕ) → In (Admission j h term) (asked_by from l)
    → QueuedAdmissionOk P n (Admission j h term)
asked-waiting P n (Agent k) l w j h term i = (elim l.body as (λ m. AgentWaitingFrom P n (Agent k) (record l { body = m }) → In (Admission j h term) (asked_by (Agent k) (record l { body = m })) → QueuedAdmissionOk P n (Admission j h term)) [
  | msg.Admit s ↦ λ p q. elim q [ inl e ↦ subst (QueuedAdmissionOk P n) e p | inr e ↦ absurd e ]
  | m ↦ λ p q. absurd q
]) w i
asked-waiting P n Director l w j h term i = absurd i
asked-waiting P n (Client c) l w j h term i = absurd i
asked-waiting P n (Site s) l w j h term i = absurd i
asked-waiting P n (Scanner x) l w j h term i = absurd i

waited-handler : (E : Database) (P : State) (n stamp : ℕ) (from : Actor) (l : Letter) → WordsHold P → 0 < agent_start P n → AgentWaitingFrom P n from l
    → WordsTurn Anyone P n (handler_and_word E P.deployment n stamp (P.agents n) from l)
waited-handler E P n stamp from l h up w =
    subst (WordsTurn Anyone P n) (then-assoc (agent_handler E P.deployment n stamp (P.agents n) from l) (tells P.deployment n (P.agents n).own) (concludes P.deployment n))
    (concluded-handler P n P.deployment (agent_handler E P.deployment n stamp (P.agents n) from l ▸ tells P.deployment n (P.agents n).own)
    (calm-event E P n stamp from l h up (waiting-brings P n from l w) (asked-waiting P n from l w) (λ j g term i. tt)))

-- an Admit that came stays one that came
pub came-still : (P T : State) (n : ℕ) → WordsLater P T → ((h : ℕ) → (h == n) ≡ false → T.channel (Agent h) (Agent n) ≡ P.channel (Agent h) (Agent n)) → (h term j : ℕ)
    → CameOk P h n term j → CameOk T h n term j
came-still P T n later others h term j k = came-later P T later h n term j
    (subst (AllByRecursion (ClosesFrom (T.history.began h) j)) (sym (others h k.0.other))
    (all-mono (ClosesFrom (P.history.began h) j) (ClosesFrom (T.history.began h) j) (λ l c. closes-later P T later h j (ask-began P h n term j k.0) l c) (P.channel (Agent h) (Agent n)) k.1)) k

pub none-taken : (E : Database) (D : Deployment) (n stamp : ℕ) (ws : List Waiting) → takes_each E D n stamp ws (new_agent 0) ≡ becomes (new_agent 0)
none-taken E D n stamp [] = refl
none-taken E D n stamp (w ∷ ws) = none-taken E D n stamp ws

waited-each : (E : Database) (D : Deployment) (n stamp : ℕ) (ws : List Waiting) (P : State) → P.deployment ≡ D → WordsHold P → 0 < agent_start P n → AllByRecursion (λ w. AgentWaitingFrom P n w.from w.letter) ws
    → WordsTurn Anyone P n (takes_each E D n stamp ws (P.agents n))
waited-each E D n stamp [] P d h up w = stay-handler P n (inl (refl, up)) h
waited-each E D n stamp (w ∷ ws) P d h up k = on-handler P n (unless_stopped E D n stamp (P.agents n) w.from w.letter) (takes_each E D n stamp ws) first (none-taken E D n stamp ws)
    (λ T e q later others g u. waited-each E D n stamp ws T (q ∙ d) g u
    (all-mono (λ x. AgentWaitingFrom P n x.from x.letter) (λ x. AgentWaitingFrom T n x.from x.letter) (λ x p. waiting-later P T n (came-still P T n later others) x.from x.letter p) ws k.1))
  where
    running : (P.agents n).start == 0 ≡ false
    running = grind (arith, nat_tests, up)

    first : WordsTurn Anyone P n (unless_stopped E D n stamp (P.agents n) w.from w.letter)
    first = subst (WordsTurn Anyone P n) (sym (unless-running E D n stamp (P.agents n) w.from w.letter running))
        (subst (λ z. WordsTurn Anyone P n (handler_and_word E z n stamp (P.agents n) w.from w.letter)) d (waited-handler E P n stamp w.from w.letter h up k.0))

waited : (E : Database) (D : Deployment) (n stamp : ℕ) (P : State) → P.deployment ≡ D → WordsHold P → 0 < agent_start P n → WordsTurn Anyone P n (takes_waiting E D n stamp (P.agents n))
waited E D n stamp P d h up =
    on-handler P n (becomes (record (P.agents n) { waiting = above_term (term_in (P.agents n).decided) (P.agents n).waiting })) (takes_each E D n stamp (of_term (term_in (P.agents n).decided) (P.agents n).waiting))
    (handler-plain P n (becomes (record (P.agents n) { waiting = above_term (term_in (P.agents n).decided) (P.agents n).waiting })) (inl (refl, up))
    (waiting-shrinks P n (λ w. nat_lt (term_in (P.agents n).decided) w.letter.term) h) (λ b. tt))
    (none-taken E D n stamp (of_term (term_in (P.agents n).decided) (P.agents n).waiting))
    (λ T e q later others g u. waited-each E D n stamp (of_term (term_in (P.agents n).decided) (P.agents n).waiting) T (q ∙ d) g u
    (all-mono (λ x. AgentWaitingFrom P n x.from x.letter) (λ x. AgentWaitingFrom T n x.from x.letter) (λ x p. waiting-later P T n (came-still P T n later others) x.from x.letter p)
    (of_term (term_in (P.agents n).decided) (P.agents n).waiting)
    (all-filter (AgentWaitingOk P n) (λ w. w.letter.term == term_in (P.agents n).decided) (P.agents n).waiting (h.agents n).waiting)))

pub none-waited : (E : Database) (D : Deployment) (n stamp : ℕ) → takes_waiting E D n stamp (new_agent 0) ≡ becomes (new_agent 0)
none-waited E D n stamp = refl

-- ---- a message of a running agent

-- and what follows: it takes those that waited for the term
pub taken-event : (E : Database) (S : State) (n stamp : ℕ) (from : Actor) (l : Letter) (ls : List Letter) → WordsHold S → 0 < agent_start S n → S.channel from (Agent n) ≡ l ∷ ls
    → arrival (agent_start S n) (term_in (S.agents n).decided) l ≡ Taken
    → WordsTurn Anyone (agent_popped S from n) n (handler_and_word E S.deployment n stamp (S.agents n) from l ▸ takes_waiting E S.deployment n stamp)
taken-event E S n stamp from l ls h up is taken =
    on-handler (agent_popped S from n) n (handler_and_word E S.deployment n stamp (S.agents n) from l) (takes_waiting E S.deployment n stamp)
    (subst (WordsTurn Anyone (agent_popped S from n) n) (then-assoc (agent_handler E S.deployment n stamp (S.agents n) from l) (tells S.deployment n (S.agents n).own) (concludes S.deployment n))
    (concluded-handler (agent_popped S from n) n S.deployment (agent_handler E S.deployment n stamp (S.agents n) from l ▸ tells S.deployment n (S.agents n).own)
    (handler-event E S n stamp from l ls h up is taken (λ j g term i. tt))))
    (none-waited E S.deployment n stamp)
    (λ T e q later others g u. waited E S.deployment n stamp T q g u)

-- what a letter has of history doesn't matter
without-past : (S : State) (n : ℕ) (from : Actor) (l : Letter) → AgentWaitingFrom S n from l → AgentWaitingFrom S n from (record l { past = [] })
without-past S n Director l k = k
without-past S n (Client c) l k = k
without-past S n (Agent g) l k = k
without-past S n (Site c) l k = k
without-past S n (Scanner c) l k = k

-- one that waits for its term
pub waits-event : {M : ℕ → ℕ → Type 0} (S : State) (n : ℕ) (from : Actor) (l : Letter) (ls : List Letter) → WordsHold S → 0 < agent_start S n → S.channel from (Agent n) ≡ l ∷ ls
    → arrival (agent_start S n) (term_in (S.agents n).decided) l ≡ Waits
    → WordsTurn M (agent_popped S from n) n (becomes (record (S.agents n) { waiting = (S.agents n).waiting ++ record { from = from; letter = record l { past = [] } } ∷ [] }))
waits-event S n from l ls h up is waits =
    handler-plain (agent_popped S from n) n (becomes (record (S.agents n) { waiting = (S.agents n).waiting ++ record { from = from; letter = record l { past = [] } } ∷ [] })) (inl (refl, up))
    (waits-holds (agent_popped S from n) from n (record l { past = [] }) (without-past (agent_popped S from n) n from l (may-wait from l is waits))
    (pops-any S from n l ls is (λ k e. unheeded k l (subst (λ z. S.channel z (Agent n) ≡ l ∷ ls) e is) waits) h)) (λ b. tt)
  where
    -- it has a term
    no-term : (l : Letter) → arrival (agent_start S n) (term_in (S.agents n).decided) l ≡ Waits → l.term ≡ 0 → ⊥
    no-term l w z = not-both (l.term == 0) (subst (λ x. (x == 0) ≡ true) (sym z) refl) (arrival-waits (agent_start S n) (term_in (S.agents n).decided) l w)

    unheeded : (k : ℕ) (l : Letter) → S.channel (Agent k) (Agent n) ≡ l ∷ ls → arrival (agent_start S n) (term_in (S.agents n).decided) l ≡ Waits → Heeded S n l
    unheeded k l is w = elim l.body as (λ m. S.channel (Agent k) (Agent n) ≡ record l { body = m } ∷ ls → arrival (agent_start S n) (term_in (S.agents n).decided) (record l { body = m }) ≡ Waits → Heeded S n (record l { body = m })) [
      | msg.Word base lost admitted ↦ λ e a. absurd (no-term (record l { body = msg.Word base lost admitted }) a (subst (AllByRecursion (LetterOk S k n)) e (h.channels k n).letters).0.0)
      | msg.Closed o ↦ λ e a. absurd (no-term (record l { body = msg.Closed o }) a (subst (AllByRecursion (LetterOk S k n)) e (h.channels k n).letters).0.0)
      | m ↦ λ e a. tt
    ] is w

    may-wait : (from : Actor) (l : Letter) → S.channel from (Agent n) ≡ l ∷ ls → arrival (agent_start S n) (term_in (S.agents n).decided) l ≡ Waits → AgentWaitingFrom (agent_popped S from n) n from l
    may-wait (Agent k) l is w = elim l.body as (λ m. S.channel (Agent k) (Agent n) ≡ record l { body = m } ∷ ls → arrival (agent_start S n) (term_in (S.agents n).decided) (record l { body = m }) ≡ Waits
        → AgentWaitingFrom (agent_popped S (Agent k) n) n (Agent k) (record l { body = m })) [
          | msg.Word base lost admitted ↦ λ e a. no-term (record l { body = msg.Word base lost admitted }) a (subst (AllByRecursion (LetterOk S k n)) e (h.channels k n).letters).0.0
          | msg.Decided w ↦ λ e a. no-term (record l { body = msg.Decided w }) a (subst (AllByRecursion (LetterOk S k n)) e (h.channels k n).letters).0.0
          | msg.Closed o ↦ λ e a. no-term (record l { body = msg.Closed o }) a (subst (AllByRecursion (LetterOk S k n)) e (h.channels k n).letters).0.0
          | msg.View w ↦ λ e a. (subst (AllByRecursion (LetterOk S k n)) e (h.channels k n).letters).0
          | msg.Admit j ↦ λ e a. came-popped S k n j l ls h e
          | m ↦ λ e a. tt
        ] is w
    may-wait Director l is w = tt
    may-wait (Client c) l is w = tt
    may-wait (Site i) l is w = tt
    may-wait (Scanner i) l is w = tt

-- one for another start, or of a lower term
pub refused-event : {M : ℕ → ℕ → Type 0} (S : State) (n : ℕ) (from : Actor) (l : Letter) (ls : List Letter) → WordsHold S → 0 < agent_start S n → S.channel from (Agent n) ≡ l ∷ ls
    → arrival (agent_start S n) (term_in (S.agents n).decided) l ≡ Refused → WordsTurn M (agent_popped S from n) n (becomes (S.agents n))
refused-event S n from l ls h up is refused =
    stay-handler (agent_popped S from n) n (inl (refl, up)) (pops-any S from n l ls is (λ k e. unheeded k l (subst (λ z. S.channel z (Agent n) ≡ l ∷ ls) e is) refused) h)
  where
    taken-not : (l : Letter) → arrival (agent_start S n) (term_in (S.agents n).decided) l ≡ Refused → l.start ≡ 0 → l.term ≡ 0 → ⊥
    taken-not l r s t =
        let e = arrival-open (agent_start S n) (term_in (S.agents n).decided) l (subst (λ x. (x == 0) ≡ true) (sym s) refl) (subst (λ x. (x == 0) ≡ true) (sym t) refl) in
        clash (sym e ∙ r)
      where
        clash : Taken ≡ Refused → ⊥
        clash e = absurd (cc)

    unheeded : (k : ℕ) (l : Letter) → S.channel (Agent k) (Agent n) ≡ l ∷ ls → arrival (agent_start S n) (term_in (S.agents n).decided) l ≡ Refused → Heeded S n l
    unheeded k l is w = elim l.body as (λ m. S.channel (Agent k) (Agent n) ≡ record l { body = m } ∷ ls → arrival (agent_start S n) (term_in (S.agents n).decided) (record l { body = m }) ≡ Refused → Heeded S n (record l { body = m })) [
      | msg.Word base lost admitted ↦ λ e a u q. absurd (arrival-dropped (agent_start S n) (term_in (S.agents n).decided) (record l { body = msg.Word base lost admitted })
          (subst (AllByRecursion (LetterOk S k n)) e (h.channels k n).letters).0.0 a q)
      | msg.Closed o ↦ λ e a u. let ok = (subst (AllByRecursion (LetterOk S k n)) e (h.channels k n).letters).0 in absurd (taken-not (record l { body = msg.Closed o }) a ok.1 ok.0)
      | m ↦ λ e a. tt
    ] is w

-- a Start or a Stop that doesn't concern it
pub ignored-event : {M : ℕ → ℕ → Type 0} (S : State) (n : ℕ) (from : Actor) (l : Letter) (ls : List Letter) → WordsHold S → 0 < agent_start S n → S.channel from (Agent n) ≡ l ∷ ls
    → Commands l → WordsTurn M (agent_popped S from n) n (becomes (S.agents n))
ignored-event S n from l ls h up is c = stay-handler (agent_popped S from n) n (inl (refl, up)) (pops-any S from n l ls is (λ k e. heeded l c) h)
  where
    heeded : (l : Letter) → Commands l → Heeded S n l
    heeded l c = (elim l.body as (λ m. Commands (record l { body = m }) → Heeded S n (record l { body = m })) [
      | msg.Start s ↦ λ p. tt
      | msg.Stop s ↦ λ p. tt
      | m ↦ λ p. absurd p
    ]) c

running-event : (E : Database) (S : State) (n stamp : ℕ) (from : Actor) (l : Letter) (ls : List Letter) (o : Environment) → WordsHold S → 0 < agent_start S n → S.channel from (Agent n) ≡ l ∷ ls
    → WordsTurn Anyone (agent_popped S from n) n (agent_turn E S.deployment n stamp (S.agents n) from l o)
running-event E S n stamp from l ls o h up is = elim (turn-cases E S.deployment n stamp (S.agents n) from l o running) [
  | inl e ↦ subst (WordsTurn Anyone (agent_popped S from n) n) (sym e) (none-handler
      (stop-pops S from n l ls (stops_with_host S.deployment n (agent_start S n)) is h up refl (λ g. stops_with_host-closed S.deployment n (agent_start S n) g)
      (stops_with_host-say S.deployment n (agent_start S n))))
  | inr e ↦ subst (WordsTurn Anyone (agent_popped S from n) n) (sym e) (takes (takes-cases E S.deployment n stamp (S.agents n) from l running))
]
  where
    running : ((S.agents n).start == 0) ≡ false
    running = grind (arith, nat_tests, up)

    runs : (x : Arrival) → arrival (agent_start S n) (term_in (S.agents n).decided) l ≡ x → WordsTurn Anyone (agent_popped S from n) n (agent_runs E S.deployment n stamp (S.agents n) from l)
    runs Taken e = subst (WordsTurn Anyone (agent_popped S from n) n) (sym (runs-taken E S.deployment n stamp (S.agents n) from l e)) (taken-event E S n stamp from l ls h up is e)
    runs Waits e = subst (WordsTurn Anyone (agent_popped S from n) n) (sym (runs-waits E S.deployment n stamp (S.agents n) from l e)) (waits-event S n from l ls h up is e)
    runs Refused e = subst (WordsTurn Anyone (agent_popped S from n) n) (sym (runs-refused E S.deployment n stamp (S.agents n) from l e)) (refused-event S n from l ls h up is e)

    takes : AgentTakes E S.deployment n stamp (S.agents n) from l → WordsTurn Anyone (agent_popped S from n) n (agent_takes E S.deployment n stamp (S.agents n) from l)
    takes (Stops_ e) = subst (WordsTurn Anyone (agent_popped S from n) n) (sym e) (none-handler (stop-pops S from n l ls (stops S.deployment n (agent_start S n)) is h up refl (λ g. refl)
        (stops-say S.deployment n (agent_start S n))))
    takes (Ignores e c) = subst (WordsTurn Anyone (agent_popped S from n) n) (sym e) (ignored-event S n from l ls h up is c)
    takes (Runs_ e c) = subst (WordsTurn Anyone (agent_popped S from n) n) (sym e) (runs (arrival (agent_start S n) (term_in (S.agents n).decided) l) refl)

-- ---- the whole

handler-goes : (S : State) (n : ℕ) (from : Actor) (t : Turn AgentState) → WordsTurn Anyone (agent_popped S from n) n t → WordsGo S n from t
handler-goes S n from t r = record {
  history = r.history;
  grows = handler-grows r;
  holds = r.holds;
  shown = r.shown;
}

-- a stopped agent stays as it is
pub stays-holds : (S : State) (n : ℕ) (from : Actor) (l : Letter) (ls : List Letter) → WordsHold S → S.channel from (Agent n) ≡ l ∷ ls → agent_start S n ≡ 0
    → WordsHold (after_agent (agent_popped S from n) n (S.agents n) (λ b. []) S.history)
stays-holds S n from l ls h is z = subst WordsHold (sym (after-same (agent_popped S from n) n)) (pops-any S from n l ls is (λ k e. unheeded l) h)
  where
    unheeded : (l : Letter) → Heeded S n l
    unheeded l = elim l.body as (λ m. Heeded S n (record l { body = m })) [
      | msg.Word base lost admitted ↦ λ u q. absurd (no-zero S n z u)
      | msg.Closed o ↦ λ u. absurd (no-zero S n z u)
      | m ↦ tt
    ]

stays-goes : (S : State) (n : ℕ) (from : Actor) (l : Letter) (ls : List Letter) → WordsHold S → S.channel from (Agent n) ≡ l ∷ ls → agent_start S n ≡ 0
    → WordsGo S n from (becomes (S.agents n))
stays-goes S n from l ls h is z = record {
  history = S.history;
  grows = record {
    first = refl;
    began = λ g s i. i;
    said = λ s w i. i;
    took_word = λ s w e. e;
    decided = λ w i. i;
    admitted = λ x i. i;
  };
  holds = stays-holds S n from l ls h is z;
  shown = λ b. tt;
}

-- ---- a message of an agent that is stopped

-- the start in the first message from the director
pub comes-first : (S : State) (n s : ℕ) (l : Letter) (ls : List Letter) → S.channel Director (Agent n) ≡ l ∷ ls → start_in_letter l ≡ s ∷ []
    → starts_to S n ≡ s ∷ starts_in (rest (S.channel Director (Agent n)))
comes-first S n s l ls is e = ap starts_in is ∙ ap (λ x. x ++ starts_in ls) e ∙ ap (λ x. s ∷ starts_in (rest x)) (sym is)

pub start-of-body : (l : Letter) (s : ℕ) → l.body ≡ msg.Start s → start_in_letter l ≡ s ∷ []
start-of-body l s e = ap (λ m. start_in_letter (record l { body = m })) e

stopped-takes : (E : Database) (S : State) (n stamp : ℕ) (from : Actor) (l : Letter) (ls : List Letter) → WordsHold S → agent_start S n ≡ 0 → is_host S.deployment n ≡ true → S.channel from (Agent n) ≡ l ∷ ls
    → WordsGo S n from (agent_takes E S.deployment n stamp (S.agents n) from l)
stopped-takes E S n stamp from l ls h z host is = elim (stopped-cases E S.deployment n stamp (S.agents n) from l (subst (λ x. (x == 0) ≡ true) (sym z) refl)) [
  | inl e ↦ subst (WordsGo S n from) (sym e) (stays-goes S n from l ls h is z)
  | inr c ↦ subst (WordsGo S n from) (sym c.1.2) (subst (λ f. WordsGo S n f (on_start S.deployment n c.1.0)) (sym c.0)
      (start-goes S n c.1.0 h z host (comes-first S n c.1.0 l ls (subst (λ f. S.channel f (Agent n) ≡ l ∷ ls) c.0 is) (start-of-body l c.1.0 c.1.1))))
]

-- it finds no memory for a Start
stopped-memory : (S : State) (n : ℕ) (from : Actor) (l : Letter) (ls : List Letter) → WordsHold S → agent_start S n ≡ 0 → is_host S.deployment n ≡ true → S.channel from (Agent n) ≡ l ∷ ls
    → nat_lt 0 (start_after (S.agents n) from l) ≡ true → WordsGo S n from (stops_with_host S.deployment n (start_after (S.agents n) from l))
stopped-memory S n from l ls h z host is some = (elim l.body as (λ m. S.channel from (Agent n) ≡ record l { body = m } ∷ ls → nat_lt 0 (start_after (S.agents n) from (record l { body = m })) ≡ true
    → WordsGo S n from (stops_with_host S.deployment n (start_after (S.agents n) from (record l { body = m })))) [
      | msg.Start s ↦ λ e u. started from s (record l { body = msg.Start s }) e refl u
      | m ↦ λ e u. absurd (not-some u)
    ]) is some
  where
    not-some : nat_lt 0 (agent_start S n) ≡ true → ⊥
    not-some u = let v = subst (λ x. nat_lt 0 x ≡ true) z u in absurd (cc)

    started : (from : Actor) (s : ℕ) (l : Letter) → S.channel from (Agent n) ≡ l ∷ ls → start_in_letter l ≡ s ∷ [] → nat_lt 0 (start_taken (S.agents n) from s) ≡ true
        → WordsGo S n from (stops_with_host S.deployment n (start_taken (S.agents n) from s))
    started Director s l e b u = subst (λ k. WordsGo S n Director (stops_with_host S.deployment n k)) (sym taken) (start-stops-goes S n s h z host (comes-first S n s l ls e b))
      where
        taken : start_taken (S.agents n) Director s ≡ s
        taken = rw z refl
    started (Client c) s l e b u = absurd (not-some u)
    started (Agent g) s l e b u = absurd (not-some u)
    started (Site i) s l e b u = absurd (not-some u)
    started (Scanner i) s l e b u = absurd (not-some u)

-- ---- an agent takes a message

-- A message of an agent that is there: what holds, holds after its turn, with a history that grew.
pub agent-event : (E : Database) (S : State) (n stamp : ℕ) (from : Actor) (l : Letter) (ls : List Letter) (o : Environment) → S.channel from (Agent n) ≡ l ∷ ls → is_host S.deployment n ≡ true
    → ((answered : ℕ) → o ≡ NoMemory answered → nat_lt 0 (start_after (S.agents n) from l) ≡ true) → WordsHold S → WordsGo S n from (agent_turn E S.deployment n stamp (S.agents n) from l o)
agent-event E S n stamp from l ls o is host memory h = elim (cases_eq (agent_start S n) 0) [
  | inl z ↦ stopped o z memory
  | inr r ↦ handler-goes S n from (agent_turn E S.deployment n stamp (S.agents n) from l o) (running-event E S n stamp from l ls o h (omega (arith, r)) is)
]
  where
    stopped : (o : Environment) → agent_start S n ≡ 0 → ((answered : ℕ) → o ≡ NoMemory answered → nat_lt 0 (start_after (S.agents n) from l) ≡ true) → WordsGo S n from (agent_turn E S.deployment n stamp (S.agents n) from l o)
    stopped NoFault z m = stopped-takes E S n stamp from l ls h z host is
    stopped (DiskFails answered) z m = stopped-takes E S n stamp from l ls h z host is
    stopped (NoMemory answered) z m = stopped-memory S n from l ls h z host is (m answered refl)
    stopped (DisksShow shown failed) z m = stopped-takes E S n stamp from l ls h z host is
