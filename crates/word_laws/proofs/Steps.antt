-- What turns and messages that add no word to the history keep of what holds.
use Rattle.std.proofs.Common.{◌≡◌, ◌<◌, Bool, true, false, List, [], ◌∷◌, ◌++◌, refl, sym, subst, ap, ◌∙◌, ◌⊎◌, inl, inr, ◌==◌, arith}
use Rattle.std.proofs.lemmas.Bool.{false≢true, eqb-true, cases_Bool, and_parts}
use Rattle.std.proofs.lemmas.Bool.Decides.{nat_tests}
use Rattle.std.proofs.Math.Path.{fun_ext}
use Rattle.std.specs.Prelude.{ℕ, ◌&&◌, ◌||◌, if◌then◌else◌, filter, Option, Some, None}
use Rattle.std.specs.List.{AllByRecursion, list_any}
use Rattle.volt_wire.specs.Word.{Membership}
use Rattle.volt_wire.specs.declared.actor.Actor.{Actor}
use Rattle.volt_wire.specs.declared.actor.Actor.TheVariants.{Director, Client, Agent, Site, Scanner}
use Rattle.volt_wire.specs.declared.message.Msg.TheVariants as msg
use Rattle.cluster_model.specs.Words.{is_in, is_host, admits, initiator, Deployment}
use Rattle.cluster_model.specs.Letters.{same, Letter, Sends, Turn, Waiting, open_letter}
use Rattle.cluster_model.specs.AgentState.{AgentState, initiates, is_initiator_in, new_agent}
use Rattle.cluster_model.specs.declared.initiating.Queued.{Queued}
use Rattle.cluster_model.specs.declared.initiating.Queued.TheVariants.{ToRun, Admission}
use Rattle.cluster_model.specs.World.{took, sent, rest, set_at}
use Rattle.cluster_model.specs.Laws.{RiseFrom, starts_in}
use Rattle.cluster_steps.specs.Lists.{In, OnSome}
use Rattle.word_laws.specs.Histories.{State, History, Admitted, Begun, IsRunning, Gone, Earlier, Distinct, HostOk, GoodWord, SaidBy, Unnamed, LetterOk, ClosesFrom, InOrder, CameOk, QueuedAdmissionOk, AgentWaitingFrom, AgentWaitingOk, IsOff, OwnOk, AgentOk, HistoryOk, TellsAdmission, IsClosed, Telling, ClosedUnderWay, OwnIs, Told, HearsClosed, WordsHold, names, agent_start, starts_to}
use Rattle.cluster_steps.proofs.Lists.{all-append, all-mono, all-at, all-from, in-cases, some-here, some-mono, all-filter, set-twice}
use Rattle.word_laws.proofs.Channels.{telling-left, closing-left, closing-right, order-append, order-rest}
use Rattle.cluster_steps.proofs.Channels.{sent-both, sent-keep, taken-both, took-starts, took-all, sent-twice}
use Rattle.word_laws.proofs.Moves.{OwnLost, OwnAdmits, WordsLater, after_agent, agent_popped, Heeded}
use Rattle.word_laws.proofs.Calm.{SaysNoWord, Calm}
use Rattle.word_laws.proofs.Laters.{good-later, letter-later, own-later, said_by-later, admitted_ok-later, unnamed-later, came-later, waiting-later, queued-later}

-- actors that the model takes for the same are
pub same-true : (a b : Actor) → same a b ≡ true → a ≡ b
same-true Director Director e = refl
same-true (Client a) (Client b) e = ap Client (eqb-true a b e)
same-true (Agent a) (Agent b) e = ap Agent (eqb-true a b e)
same-true (Site a) (Site b) e = ap Site (eqb-true a b e)
same-true (Scanner a) (Scanner b) e = ap Scanner (eqb-true a b e)
same-true _ _ e = absurd (false≢true e)

-- ---- an agent's start after its turn

-- it keeps its start, or has stopped
abbrev pub StartGoesOn : State → ℕ → AgentState → Type 0
StartGoesOn S n a = (a.start ≡ agent_start S n) ⊎ (a.start ≡ 0)

-- so does the agent of each host
pub starts-after : (S : State) (n : ℕ) (a : AgentState) (out : Sends) (H : History) → StartGoesOn S n a
    → (h : ℕ) → (agent_start (after_agent S n a out H) h ≡ agent_start S h) ⊎ (agent_start (after_agent S n a out H) h ≡ 0)
starts-after S n a out H e h = choice (h == n) refl
  where
    choice : (c : Bool) → (h == n) ≡ c → ((if c then a else S.agents h).start ≡ agent_start S h) ⊎ ((if c then a else S.agents h).start ≡ 0)
    choice false q = inl refl
    choice true q = elim e [
      | inl x ↦ inl (x ∙ ap (λ k. agent_start S k) (sym (eqb-true h n q)))
      | inr x ↦ inr x
    ]

-- starts that began, where the lists of them only grow
pub begun-after : (S : State) (n : ℕ) (a : AgentState) (out : Sends) (H : History) → ((h s : ℕ) → In s (S.history.began h) → In s (H.began h))
    → (s : ℕ) → Begun S s → Begun (after_agent S n a out H) s
begun-after S n a out H keeps s b = record { some = b.some; below = b.below; host = b.host; began = keeps (S.owner s) s b.began }

-- starts that have stopped stay so
pub gone-after : (S : State) (n : ℕ) (a : AgentState) (out : Sends) (H : History) → ((h s : ℕ) → In s (S.history.began h) → In s (H.began h)) → StartGoesOn S n a
    → (s : ℕ) → Gone S s → Gone (after_agent S n a out H) s
gone-after S n a out H keeps e s g = (
  begun-after S n a out H keeps s g.0,
  λ r. elim (starts-after S n a out H e (S.owner s)) [
    | inl q ↦ g.1 (sym q ∙ r)
    | inr z ↦ absurd (omega (arith, g.0.some, sym z ∙ r))
  ],
)

-- where the starts that began stay, and the rest of the history only grows
pub later-after : (S : State) (n : ℕ) (a : AgentState) (out : Sends) (H : History) → StartGoesOn S n a → H.first ≡ S.history.first → H.began ≡ S.history.began
    → ((s : ℕ) (w : Membership) → In w (S.history.said s) → In w (H.said s))
    → ((s : ℕ) (w : Membership) → S.history.took s ≡ Some w → H.took s ≡ Some w)
    → ((w : Membership) → In w S.history.decided → In w H.decided)
    → ((x : Admitted) → In x S.history.admitted → In x H.admitted)
    → WordsLater S (after_agent S n a out H)
later-after S n a out H e first began said took_word decided admitted = record {
  deployment = refl;
  owner = refl;
  first = first;
  earlier = λ h r s i k. subst (λ f. Earlier r s (f h)) began k;
  earlier_too = λ h r s k. subst (λ f. Earlier r s (f h)) (sym began) k;
  begun = begun-after S n a out H keeps;
  gone = gone-after S n a out H keeps e;
  said = said;
  took_word = took_word;
  decided = decided;
  admitted = admitted;
}
  where
    keeps : (h s : ℕ) → In s (S.history.began h) → In s (H.began h)
    keeps h s i = subst (λ f. In s (f h)) (sym began) i

-- what holds of a host, where the starts that began stay
pub host-after : (S : State) (n : ℕ) (a : AgentState) (out : Sends) (H : History) → StartGoesOn S n a → H.began ≡ S.history.began → (h : ℕ) → HostOk S h → HostOk (after_agent S n a out H) h
host-after S n a out H e began h k = record {
  environment = λ o. elim runs [ inl q ↦ q ∙ k.environment o | inr z ↦ z ];
  running = λ up. subst (λ x. (S.owner x ≡ h) × (x < S.next)) (sym (same-start up)) (k.running (subst (λ x. 0 < x) (same-start up) up));
  last = λ up. let l = k.last (subst (λ x. 0 < x) (same-start up) up) in (l.0, ap (λ f. f h) began ∙ l.1 ∙ ap (λ x. x ∷ l.0) (sym (same-start up)));
  began = subst (λ f. AllByRecursion (λ x. (S.owner x ≡ h) × (0 < x) × (x < S.next)) (f h)) (sym began) k.began;
  distinct = subst (λ f. Distinct (f h)) (sym began) k.distinct;
  owned = k.owned;
  fresh = subst (λ f. AllByRecursion (λ x. In x (f h) → ⊥) (starts_to S h)) (sym began) k.fresh;
  rising = k.rising;
}
  where
    runs : (agent_start (after_agent S n a out H) h ≡ agent_start S h) ⊎ (agent_start (after_agent S n a out H) h ≡ 0)
    runs = starts-after S n a out H e h

    same-start : 0 < agent_start (after_agent S n a out H) h → agent_start (after_agent S n a out H) h ≡ agent_start S h
    same-start up = elim runs [ inl q ↦ q | inr z ↦ absurd (omega (arith, z, up)) ]

-- ---- where the history stays

-- other agents and other channels, with the history as it was
abbrev pub words_moved : State → (ℕ → AgentState) → (Actor → Actor → List Letter) → State
words_moved S agents channel = record S { agents = agents; channel = channel }

pub begun-moved : (S : State) (agents : ℕ → AgentState) (channel : Actor → Actor → List Letter) (s : ℕ) → Begun S s → Begun (words_moved S agents channel) s
begun-moved S agents channel s b = record { some = b.some; below = b.below; host = b.host; began = b.began }

-- what began behind it began before
pub begun-back : (S : State) (agents : ℕ → AgentState) (channel : Actor → Actor → List Letter) (s : ℕ) → Begun (words_moved S agents channel) s → Begun S s
begun-back S agents channel s b = record { some = b.some; below = b.below; host = b.host; began = b.began }

-- where what runs ran before
pub later-moved : (S : State) (agents : ℕ → AgentState) (channel : Actor → Actor → List Letter) → ((s : ℕ) → Begun S s → (agents (S.owner s)).start ≡ s → IsRunning S s) → WordsLater S (words_moved S agents channel)
later-moved S agents channel runs = record {
  deployment = refl;
  owner = refl;
  first = refl;
  earlier = λ h r s i k. k;
  earlier_too = λ h r s k. k;
  begun = begun-moved S agents channel;
  gone = λ s g. (begun-moved S agents channel s g.0, λ r. g.1 (runs s g.0 r));
  said = λ s w i. i;
  took_word = λ s w e. e;
  decided = λ w i. i;
  admitted = λ x i. i;
}

-- where at most more starts began, or took a word
abbrev pub words_renewed : State → (ℕ → AgentState) → (Actor → Actor → List Letter) → (ℕ → List ℕ) → (ℕ → Option Membership) → State
words_renewed S agents channel began took_word = record S { agents = agents; channel = channel; history = record S.history { began = began; took = took_word } }

-- what holds of the history, if it holds of the words that starts took
pub history-renewed : (S : State) (agents : ℕ → AgentState) (channel : Actor → Actor → List Letter) (began : ℕ → List ℕ) (K : ℕ → Option Membership) → WordsLater S (words_renewed S agents channel began K)
    → ((j : ℕ) (w : Membership) → K j ≡ Some w → In w S.history.decided × Begun (words_renewed S agents channel began K) j × ((s : ℕ) → names w s ≡ true → S.owner s ≡ S.owner j → Earlier s j (began (S.owner j))) × (is_in j w.lost ≡ false))
    → HistoryOk S → HistoryOk (words_renewed S agents channel began K)
history-renewed S agents channel began K f took_ok h = let T = words_renewed S agents channel began K in record {
  first_owned = h.first_owned;
  first_one = h.first_one;
  first_plain = h.first_plain;
  first_decided = h.first_decided;
  decided_good = λ w i. good-later S T f w (h.decided_good w i);
  said_good = λ s. all-mono (GoodWord S) (GoodWord T) (good-later S T f) (S.history.said s) (h.said_good s);
  said_names = h.said_names;
  said_falls = h.said_falls;
  knows = h.knows;
  one_way = h.one_way;
  members_said = h.members_said;
  has_member = h.has_member;
  chain = h.chain;
  took_ok = took_ok;
  admitted_ok = λ x i. admitted_ok-later S T f x (h.admitted_ok x i);
  once = h.once;
  one_each = h.one_each;
  nothing_between = h.nothing_between;
}

pub history-moved : (S : State) (agents : ℕ → AgentState) (channel : Actor → Actor → List Letter) → WordsLater S (words_moved S agents channel) → HistoryOk S → HistoryOk (words_moved S agents channel)
history-moved S agents channel f h = history-renewed S agents channel S.history.began S.history.took f (λ j w e. let k = h.took_ok j w e in (k.0, f.begun j k.1, k.2, k.3)) h

-- an agent of which nothing changes, and whose start said and took nothing
pub agent-later : (S T : State) → WordsLater S T → (h : ℕ) (a : AgentState) → T.history.said a.start ≡ S.history.said a.start → T.history.took a.start ≡ S.history.took a.start
    → (0 < a.start → a.own ≡ None → (x : Admitted) → In x T.history.admitted → x.start ≡ a.start → In x S.history.admitted)
    → ((k term j : ℕ) → CameOk S k h term j → CameOk T k h term j) → AgentOk S h a → AgentOk T h a
agent-later S T f h a said took_word admitted came k = record {
  own = some-mono (OwnOk S a.start) (OwnOk T a.start) (λ w o. own-later S T f a.start w said o) a.own k.own;
  alone = λ up e. let u = k.alone up e in (unnamed-later S T f a.start (λ x i q. u.0.not_admitted x (admitted up e x i q) q) u.0, said ∙ u.1);
  decided = some-mono (λ w. In w S.history.decided × (names w a.start ≡ true)) (λ w. In w T.history.decided × (names w a.start ≡ true)) (λ w d. (f.decided w d.0, d.1)) a.decided k.decided;
  taken = some-mono (λ w. (S.history.took a.start ≡ Some w) × In w S.history.decided) (λ w. (T.history.took a.start ≡ Some w) × In w T.history.decided) (λ w d. (f.took_word a.start w d.0, f.decided w d.1)) a.taken k.taken;
  untaken = λ up e. took_word ∙ k.untaken up e;
  wordless = k.wordless;
  joins = k.joins;
  heard = λ g. some-mono (SaidBy S g) (SaidBy T g) (said_by-later S T f g) (a.said g) (k.heard g);
  waiting = all-mono (AgentWaitingOk S h) (AgentWaitingOk T h) (λ x p. waiting-later S T h came x.from x.letter p) a.waiting k.waiting;
  queue = all-mono (QueuedAdmissionOk S h) (QueuedAdmissionOk T h) (queued-later S T h came) a.initiating.queue k.queue;
  initiates = k.initiates;
}

-- an agent that differs in its queue and phase alone, as far as words go
pub agent-same : (S : State) (h : ℕ) (a b : AgentState) → b.start ≡ a.start → b.own ≡ a.own → b.decided ≡ a.decided → b.taken ≡ a.taken → b.said ≡ a.said
    → AllByRecursion (AgentWaitingOk S h) b.waiting → AllByRecursion (QueuedAdmissionOk S h) b.initiating.queue → IsOff b.initiating.phase ⊎ (initiates h b b.decided ≡ true) → AgentOk S h a → AgentOk S h b
agent-same S h a b start own decided taken said waiting queue phase k = record {
  own = subst (λ s. OnSome (OwnOk S s) b.own) (sym start) (subst (λ o. OnSome (OwnOk S a.start) o) (sym own) k.own);
  alone = λ up e. subst (λ s. Unnamed S s × (S.history.said s ≡ [])) (sym start) (k.alone (subst (λ s. 0 < s) start up) (sym own ∙ e));
  decided = subst (λ s. OnSome (λ w. In w S.history.decided × (names w s ≡ true)) b.decided) (sym start) (subst (λ o. OnSome (λ w. In w S.history.decided × (names w a.start ≡ true)) o) (sym decided) k.decided);
  taken = subst (λ s. OnSome (λ w. (S.history.took s ≡ Some w) × In w S.history.decided) b.taken) (sym start) (subst (λ o. OnSome (λ w. (S.history.took a.start ≡ Some w) × In w S.history.decided) o) (sym taken) k.taken);
  untaken = λ up e. ap (λ s. S.history.took s) start ∙ k.untaken (subst (λ s. 0 < s) start up) (sym taken ∙ e);
  wordless = λ e. taken ∙ k.wordless (sym own ∙ e);
  joins = λ d t. own ∙ k.joins (sym decided ∙ d) (sym taken ∙ t);
  heard = λ g. subst (λ f. OnSome (SaidBy S g) (f g)) (sym said) (k.heard g);
  waiting = waiting;
  queue = queue;
  initiates = phase;
}

-- ---- channels that change, where the agents stay

pub own_is-keep : (P : Membership → Type 0) (a b : AgentState) → b.own ≡ a.own → OwnIs P a → OwnIs P b
own_is-keep P a b e k = (k.0, e ∙ k.1, k.2)

-- What must hold of new channels, so that what holds, holds with them.
pub channel-moves : (S : State) (ch : Actor → Actor → List Letter) → ((h : ℕ) → starts_in (ch Director (Agent h)) ≡ starts_to S h)
    → ((P : Letter → Type 0) (h g : ℕ) → AllByRecursion P (S.channel (Agent h) (Agent g)) → AllByRecursion P (ch (Agent h) (Agent g)))
    → ((began : List ℕ) (h g : ℕ) → InOrder began (S.channel (Agent h) (Agent g)) → InOrder began (ch (Agent h) (Agent g)))
    → ((x : Admitted) → In x S.history.admitted → (c : ℕ) → names x.at c ≡ true → IsRunning S c → Told S x c → Told (record S { channel = ch }) x c)
    → ((g o : ℕ) → 0 < agent_start S g → HearsClosed S g o → HearsClosed (record S { channel = ch }) g o)
    → WordsHold S → WordsHold (record S { channel = ch })
channel-moves S ch starts all order told heard h = record {
  some = h.some;
  hosts = λ g. let k = h.hosts g in record {
    environment = k.environment;
    running = k.running;
    last = k.last;
    began = k.began;
    distinct = k.distinct;
    owned = subst (λ x. AllByRecursion (λ s. (S.owner s ≡ g) × (0 < s) × (s < S.next)) x) (sym (starts g)) k.owned;
    fresh = subst (λ x. AllByRecursion (λ s. In s (S.history.began g) → ⊥) x) (sym (starts g)) k.fresh;
    rising = subst (λ x. RiseFrom 0 x) (sym (starts g)) k.rising;
  };
  agents = λ g. agent-later S T f g (S.agents g) refl refl (λ up e x i q. i)
      (λ k term j c. came-later S T f k g term j (all (ClosesFrom (S.history.began k) j) k g c.1) c) (h.agents g);
  channels = λ k g. record {
    letters = all (LetterOk T k g) k g (all-mono (LetterOk S k g) (LetterOk T k g) (letter-later S T f k g) (S.channel (Agent k) (Agent g)) (h.channels k g).letters);
    ordered = order (S.history.began k) k g (h.channels k g).ordered;
  };
  history = history-moved S S.agents ch f h.history;
  told = λ x i c m ne r. told x i c m r (h.told x i c m ne r);
  heard = λ g o up gone ne. heard g o up (h.heard g o up (begun-back S S.agents ch o gone.0, gone.1) ne);
}
  where
    T : State
    T = record S { channel = ch }

    f : WordsLater S T
    f = later-moved S S.agents ch (λ s b r. r)

-- who knows of an admission, where what tells it of that is still under way, or it knows of it itself
pub told-channel : (S : State) (ch : Actor → Actor → List Letter) (x : Admitted) (c : ℕ)
    → (Telling c x.start x.by (S.channel (Agent (S.owner x.by)) (Agent (S.owner c)))
    → OwnAdmits x.start (S.agents (S.owner c)) ⊎ Telling c x.start x.by (ch (Agent (S.owner x.by)) (Agent (S.owner c))))
    → Told S x c → Told (record S { channel = ch }) x c
told-channel S ch x c f (inl k) = inl k
told-channel S ch x c f (inr k) = elim (f k.0) [
  | inl o ↦ inl o
  | inr t ↦ inr (t, k.1)
]

-- who knows of a start that stopped, likewise
pub heard-channel : (S : State) (ch : Actor → Actor → List Letter) (g o : ℕ)
    → (ClosedUnderWay o (S.channel (Agent (S.owner o)) (Agent g))
    → ClosedUnderWay o (ch (Agent (S.owner o)) (Agent g)) ⊎ OwnLost o (S.agents g) ⊎ ((w : Membership) → In w (S.history.said o) → names w (agent_start S g) ≡ false))
    → HearsClosed S g o → HearsClosed (record S { channel = ch }) g o
heard-channel S ch g o f (inl k) = f k
heard-channel S ch g o f (inr k) = inr k

-- the channels between agents stay, and the starts under way
pub channel-holds : (S : State) (ch : Actor → Actor → List Letter) → ((h g : ℕ) → ch (Agent h) (Agent g) ≡ S.channel (Agent h) (Agent g))
    → ((h : ℕ) → starts_in (ch Director (Agent h)) ≡ starts_to S h) → WordsHold S → WordsHold (record S { channel = ch })
channel-holds S ch stays starts h = channel-moves S ch starts
    (λ P k g p. subst (λ x. AllByRecursion P x) (sym (stays k g)) p)
    (λ began k g p. subst (λ x. InOrder began x) (sym (stays k g)) p)
    (λ x i c m r. told-channel S ch x c (λ t. inr (subst (λ y. Telling c x.start x.by y) (sym (stays (S.owner x.by) (S.owner c))) t)))
    (λ g o up. heard-channel S ch g o (λ t. inl (subst (λ y. ClosedUnderWay o y) (sym (stays (S.owner o) g)) t)))
    h

-- A message from no agent, which is no Start.
pub pops-other : (S : State) (from : Actor) (n : ℕ) → ((h : ℕ) → same from (Agent h) ≡ false)
    → (same from Director ≡ true → starts_in (rest (S.channel Director (Agent n))) ≡ starts_to S n) → WordsHold S → WordsHold (agent_popped S from n)
pops-other S from n apart starts h = channel-holds S (took S.channel from (Agent n))
    (λ k g. elsewhere (n == g) (same from (Agent k)) (rest (S.channel (Agent k) (Agent g))) (S.channel (Agent k) (Agent g)) (apart k))
    (λ g. choice g (n == g) (same from Director) refl refl) h
  where
    elsewhere : (b c : Bool) (xs ys : List Letter) → c ≡ false → (if b && c then xs else ys) ≡ ys
    elsewhere true true xs ys e = absurd (cc)
    elsewhere true false xs ys e = refl
    elsewhere false c xs ys e = refl

    choice : (g : ℕ) (b c : Bool) → (n == g) ≡ b → same from Director ≡ c → starts_in (if b && c then rest (S.channel Director (Agent g)) else S.channel Director (Agent g)) ≡ starts_to S g
    choice g true true x y = subst (λ k. starts_in (rest (S.channel Director (Agent k))) ≡ starts_to S k) (eqb-true n g x) (starts y)
    choice g true false x y = refl
    choice g false c x y = refl

-- ---- a message that an agent takes and has heeded

-- a start that no word names is named in no good word
pub unnamed-not : (S : State) (c : ℕ) (w : Membership) → GoodWord S w → names w c ≡ true → Unnamed S c → ⊥
unnamed-not S c w good named u = elim (cases_Bool (admits w c)) [
  | inl q ↦ let r = good.recorded c q in u.not_admitted r.entry r.is_one r.same
  | inr q ↦ first (list_any (λ m. m.1 == c) w.first) (admits w c) named q (ap (λ F. list_any (λ m. m.1 == c) F) good.first ∙ u.not_first)
]
  where
    first : (x y : Bool) → (x || y) ≡ true → y ≡ false → x ≡ false → ⊥
    first true y e q z = absurd (cc)
    first false true e q z = absurd (cc)
    first false false e q z = absurd (cc)

-- a message that told a start of an admission, and that it heeded, is in its word
pub tells-own : (S : State) (n : ℕ) (l : Letter) (c j : ℕ) → Heeded S n l → agent_start S n ≡ c → 0 < c → ((S.agents n).own ≡ None → ⊥) → TellsAdmission c j l → OwnAdmits j (S.agents n)
tells-own S n l c j heeded is up known tells = elim l.body as (λ m. Heeded S n (record l { body = m }) → TellsAdmission c j (record l { body = m }) → OwnAdmits j (S.agents n)) [
  | msg.Word base lost admitted ↦ λ f t. elim (f (subst (λ x. 0 < x) (sym is) up) (t.0 ∙ sym is)) [
    | inl none ↦ absurd (known none)
    | inr k ↦ k j t.1
  ]
  | m ↦ λ f t. absurd t
] heeded tells

-- a Closed that it heeded is in its word, or its start is in no word of the start that stopped
pub closed-own : (S : State) (n : ℕ) (l : Letter) (o : ℕ) → Heeded S n l → 0 < agent_start S n → IsClosed o l
    → OwnLost o (S.agents n) ⊎ ((w : Membership) → In w (S.history.said o) → names w (agent_start S n) ≡ false)
closed-own S n l o heeded up closed = elim l.body as (λ m. Heeded S n (record l { body = m }) → IsClosed o (record l { body = m })
    → OwnLost o (S.agents n) ⊎ ((w : Membership) → In w (S.history.said o) → names w (agent_start S n) ≡ false)) [
      | msg.Closed s ↦ λ f e. subst (λ y. OwnLost y (S.agents n) ⊎ ((w : Membership) → In w (S.history.said y) → names w (agent_start S n) ≡ false)) e (f up)
      | m ↦ λ f e. absurd e
    ] heeded closed

-- an agent that a decided word names knows a word
pub named-knows : (S : State) → WordsHold S → (x : Admitted) → In x S.history.admitted → (c : ℕ) → names x.at c ≡ true → IsRunning S c → (S.agents (S.owner c)).own ≡ None → ⊥
named-knows S h x i c m r none =
    let good = h.history.decided_good x.at (h.history.admitted_ok x i).decided in
    let up : 0 < agent_start S (S.owner c) = subst (λ y. 0 < y) (sym r) (good.named_begun c m).some in
    unnamed-not S c x.at good m (subst (λ y. Unnamed S y) r ((h.agents (S.owner c)).alone up none).0)

-- A message between agents that the other has heeded may leave its channel.
pub pops : (S : State) (k n : ℕ) (l : Letter) (ls : List Letter) → S.channel (Agent k) (Agent n) ≡ l ∷ ls → Heeded S n l → WordsHold S → WordsHold (agent_popped S (Agent k) n)
pops S k n l ls is heeded h = channel-moves S ch (took-starts S.channel k n)
    (λ P a b. took-all P S.channel (Agent k) (Agent n) (Agent a) (Agent b))
    (λ began a b p. taken-both (λ x. InOrder began x) S.channel k n a b (λ ea eb. order-rest began (S.channel (Agent a) (Agent b)) p) p)
    (λ x i c m r. told-channel S ch x c (λ t. taken-both (λ y. OwnAdmits x.start (S.agents (S.owner c)) ⊎ Telling c x.start x.by y) S.channel k n (S.owner x.by) (S.owner c)
    (λ ea eb. told-rest x i c m r ea eb t) (inr t)))
    (λ g o up. heard-channel S ch g o (λ t. taken-both (λ y. ClosedUnderWay o y ⊎ OwnLost o (S.agents g) ⊎ ((w : Membership) → In w (S.history.said o) → names w (agent_start S g) ≡ false))
    S.channel k n (S.owner o) g (λ ea eb. heard-rest g o up ea eb t) (inl t)))
    h
  where
    ch : Actor → Actor → List Letter
    ch = took S.channel (Agent k) (Agent n)

    first : (a b : ℕ) → k ≡ a → n ≡ b → S.channel (Agent a) (Agent b) ≡ l ∷ ls
    first a b ea eb = subst (λ y. S.channel (Agent y) (Agent b) ≡ l ∷ ls) ea (subst (λ y. S.channel (Agent k) (Agent y) ≡ l ∷ ls) eb is)

    told-rest : (x : Admitted) → In x S.history.admitted → (c : ℕ) → names x.at c ≡ true → IsRunning S c → k ≡ S.owner x.by → n ≡ S.owner c
        → Telling c x.start x.by (S.channel (Agent (S.owner x.by)) (Agent (S.owner c)))
        → OwnAdmits x.start (S.agents (S.owner c)) ⊎ Telling c x.start x.by (rest (S.channel (Agent (S.owner x.by)) (Agent (S.owner c))))
    told-rest x i c m r ea eb t =
        let e = first (S.owner x.by) (S.owner c) ea eb in
        subst (λ y. OwnAdmits x.start (S.agents (S.owner c)) ⊎ Telling c x.start x.by (rest y)) (sym e)
        (elim (subst (λ y. Telling c x.start x.by y) e t) [
          | inl tells ↦ inl (tells-own S (S.owner c) l c x.start (subst (λ y. Heeded S y l) eb heeded) r
              ((h.history.decided_good x.at (h.history.admitted_ok x i).decided).named_begun c m).some (named-knows S h x i c m r) tells)
          | inr later ↦ inr later.1
        ])

    heard-rest : (g o : ℕ) → 0 < agent_start S g → k ≡ S.owner o → n ≡ g → ClosedUnderWay o (S.channel (Agent (S.owner o)) (Agent g))
        → ClosedUnderWay o (rest (S.channel (Agent (S.owner o)) (Agent g))) ⊎ OwnLost o (S.agents g) ⊎ ((w : Membership) → In w (S.history.said o) → names w (agent_start S g) ≡ false)
    heard-rest g o up ea eb t =
        let e = first (S.owner o) g ea eb in
        subst (λ y. ClosedUnderWay o (rest y) ⊎ OwnLost o (S.agents g) ⊎ ((w : Membership) → In w (S.history.said o) → names w (agent_start S g) ≡ false)) (sym e)
        (elim (subst (λ y. ClosedUnderWay o y) e t) [
          | inl closed ↦ inr (closed-own S g l o (subst (λ y. Heeded S y l) eb heeded) up closed)
          | inr later ↦ inl later
        ])

-- ---- a turn after which the history stays

-- The agent goes on with its word, or it stops and says to each that runs that it has closed.
abbrev pub Ends : State → ℕ → AgentState → Sends → Type 0
Ends S n a out =
    ((a.start ≡ agent_start S n) × (a.own ≡ (S.agents n).own))
    ⊎ ((a.start ≡ 0) × ((g : ℕ) → 0 < agent_start S g → (g ≡ n → ⊥) → ClosedUnderWay (agent_start S n) (out (Agent g))))

pub ends-goes : (S : State) (n : ℕ) (a : AgentState) (out : Sends) → Ends S n a out → StartGoesOn S n a
ends-goes S n a out (inl k) = inl k.0
ends-goes S n a out (inr k) = inr k.0

-- such a turn only adds to the state
pub later-turn : (S : State) (n : ℕ) (a : AgentState) (out : Sends) → StartGoesOn S n a → WordsLater S (after_agent S n a out S.history)
later-turn S n a out e = later-after S n a out S.history e refl refl (λ s w i. i) (λ s w i. i) (λ w i. i) (λ x i. i)

-- an Admit that came, after a turn that closes no earlier start
pub came-after : (S : State) (n : ℕ) (a : AgentState) (out : Sends) (H : History) → WordsLater S (after_agent S n a out H) → H.began ≡ S.history.began
    → ((g j : ℕ) → AllByRecursion (ClosesFrom (S.history.began n) j) (out (Agent g))) → (g h term j : ℕ) → CameOk S h g term j → CameOk (after_agent S n a out H) h g term j
came-after S n a out H f began closes g h term j k = came-later S (after_agent S n a out H) f h g term j
    (subst (λ b. AllByRecursion (ClosesFrom (b h) j) (sent S.channel (Agent n) out (Agent h) (Agent g))) (sym began)
    (sent-both (λ x. AllByRecursion (ClosesFrom (S.history.began h) j) x) S.channel n out h (Agent g)
    (λ q. all-append (ClosesFrom (S.history.began h) j) (S.channel (Agent h) (Agent g)) (out (Agent g)) k.1
    (subst (λ y. AllByRecursion (ClosesFrom (S.history.began y) j) (out (Agent g))) q (closes g j)))
    (λ q. k.1)))
    k

-- and an Admit that came is still ahead of all Closed of earlier starts
pub came-turn : (S : State) (n : ℕ) (a : AgentState) (out : Sends) → StartGoesOn S n a → ((g j : ℕ) → AllByRecursion (ClosesFrom (S.history.began n) j) (out (Agent g)))
    → (g h term j : ℕ) → CameOk S h g term j → CameOk (after_agent S n a out S.history) h g term j
came-turn S n a out e closes = came-after S n a out S.history (later-turn S n a out e) refl closes

-- any agent as it was before
pub agent-turn : (S : State) (n : ℕ) (a : AgentState) (out : Sends) → StartGoesOn S n a → ((g j : ℕ) → AllByRecursion (ClosesFrom (S.history.began n) j) (out (Agent g)))
    → (h : ℕ) (b : AgentState) → AgentOk S h b → AgentOk (after_agent S n a out S.history) h b
agent-turn S n a out e closes h b k = agent-later S (after_agent S n a out S.history) (later-turn S n a out e) h b refl refl (λ up q x i z. i) (came-turn S n a out e closes h) k

-- who runs after the turn ran before it, with the same word
pub alive-same : (S : State) (n : ℕ) (a : AgentState) (out : Sends) → Ends S n a out → (g : ℕ) → 0 < agent_start (after_agent S n a out S.history) g
    → (agent_start (after_agent S n a out S.history) g ≡ agent_start S g) × (((after_agent S n a out S.history).agents g).own ≡ (S.agents g).own)
alive-same S n a out e g up = choice (g == n) refl up
  where
    choice : (c : Bool) → (g == n) ≡ c → 0 < (if c then a else S.agents g).start → ((if c then a else S.agents g).start ≡ agent_start S g) × ((if c then a else S.agents g).own ≡ (S.agents g).own)
    choice false q u = (refl, refl)
    choice true q u = let r = eqb-true g n q in elim e [
      | inl k ↦ (k.0 ∙ ap (λ x. agent_start S x) (sym r), k.1 ∙ ap (λ x. (S.agents x).own) (sym r))
      | inr k ↦ absurd (omega (arith, k.0, u))
    ]

-- who ran runs, unless it is the agent itself and it stopped
pub runs-still : (S : State) (n : ℕ) (a : AgentState) (out : Sends) (o : ℕ) → (n ≡ S.owner o → a.start ≡ agent_start S n) → IsRunning S o → IsRunning (after_agent S n a out S.history) o
runs-still S n a out o e r = choice (S.owner o == n) refl
  where
    choice : (c : Bool) → (S.owner o == n) ≡ c → (if c then a else S.agents (S.owner o)).start ≡ o
    choice true q = let z = eqb-true (S.owner o) n q in e (sym z) ∙ ap (λ y. agent_start S y) (sym z) ∙ r
    choice false q = r

-- What must hold of such a turn, so that what holds, holds after it.
pub turn-holds : (S : State) (n : ℕ) (a : AgentState) (out : Sends) → Ends S n a out → AgentOk (after_agent S n a out S.history) n a
    → ((g : ℕ) → AllByRecursion (LetterOk (after_agent S n a out S.history) n g) (out (Agent g)))
    → ((g : ℕ) → InOrder (S.history.began n) (out (Agent g)))
    → ((g j : ℕ) → AllByRecursion (ClosesFrom (S.history.began n) j) (out (Agent g)))
    → WordsHold S → WordsHold (after_agent S n a out S.history)
turn-holds S n a out e own letters order closes h = record {
  some = h.some;
  hosts = λ g. host-after S n a out S.history goes refl g (h.hosts g);
  agents = λ g. agent g (g == n) refl;
  channels = λ k g. record {
    letters = sent-both (λ x. AllByRecursion (LetterOk T k g) x) S.channel n out k (Agent g)
        (λ q. all-append (LetterOk T k g) (S.channel (Agent k) (Agent g)) (out (Agent g)) (old k g) (subst (λ y. AllByRecursion (LetterOk T y g) (out (Agent g))) q (letters g)))
        (λ q. old k g);
    ordered = sent-both (λ x. InOrder (S.history.began k) x) S.channel n out k (Agent g)
        (λ q. order-append (S.history.began k) (S.channel (Agent k) (Agent g)) (out (Agent g)) (h.channels k g).ordered
        (subst (λ y. InOrder (S.history.began y) (out (Agent g))) q (order g))
        (λ j. subst (λ y. AllByRecursion (ClosesFrom (S.history.began y) j) (out (Agent g))) q (closes g j)))
        (λ q. (h.channels k g).ordered);
  };
  history = history-moved S T.agents T.channel f h.history;
  told = λ x i c m ne r.
      let up : 0 < agent_start T (S.owner c) = subst (λ y. 0 < y) (sym r) ((h.history.decided_good x.at (h.history.admitted_ok x i).decided).named_begun c m).some in
      let alive = alive-same S n a out e (S.owner c) up in
      told x c (T.agents (S.owner c)) alive.1 (h.told x i c m ne (sym alive.0 ∙ r));
  heard = λ g o up gone ne. heard g o up gone ne (cases_Bool (agent_start S (S.owner o) == o));
}
  where
    T : State
    T = after_agent S n a out S.history

    goes : StartGoesOn S n a
    goes = ends-goes S n a out e

    f : WordsLater S T
    f = later-turn S n a out goes

    old : (k g : ℕ) → AllByRecursion (LetterOk T k g) (S.channel (Agent k) (Agent g))
    old k g = all-mono (LetterOk S k g) (LetterOk T k g) (letter-later S T f k g) (S.channel (Agent k) (Agent g)) (h.channels k g).letters

    agent : (g : ℕ) (c : Bool) → (g == n) ≡ c → AgentOk T g (if c then a else S.agents g)
    agent g true q = subst (λ y. AgentOk T y a) (sym (eqb-true g n q)) own
    agent g false q = agent-turn S n a out goes closes g (S.agents g) (h.agents g)

    told : (x : Admitted) (c : ℕ) (b : AgentState) → b.own ≡ (S.agents (S.owner c)).own → Told S x c
        → OwnAdmits x.start b
        ⊎ (Telling c x.start x.by (T.channel (Agent (S.owner x.by)) (Agent (S.owner c))) × ((w : Membership) → b.own ≡ Some w → is_in x.by w.lost ≡ true → ⊥))
    told x c b q (inl k) = inl (own_is-keep (λ w. admits w x.start ≡ true) (S.agents (S.owner c)) b q k)
    told x c b q (inr k) = inr (
      sent-keep (λ y. Telling c x.start x.by y) (telling-left c x.start x.by) S.channel n out (S.owner x.by) (Agent (S.owner c)) k.0,
      λ w z. k.1 w (sym q ∙ z),
    )

    keeps : (g o : ℕ) → 0 < agent_start T g → HearsClosed S g o → HearsClosed T g o
    keeps g o up (inl k) = inl (sent-keep (λ y. ClosedUnderWay o y) (closing-left o) S.channel n out (S.owner o) (Agent g) k)
    keeps g o up (inr (inl k)) = inr (inl (own_is-keep (λ w. is_in o w.lost ≡ true) (S.agents g) (T.agents g) (alive-same S n a out e g up).1 k))
    keeps g o up (inr (inr k)) = inr (inr (λ w i. subst (λ s. names w s ≡ false) (sym (alive-same S n a out e g up).0) (k w i)))

    -- a start that stopped just now
    stopped : (g o : ℕ) → 0 < agent_start T g → (S.owner o ≡ g → ⊥) → IsRunning S o → (IsRunning T o → ⊥) → (n ≡ S.owner o) ⊎ (n ≡ S.owner o → ⊥) → ClosedUnderWay o (T.channel (Agent (S.owner o)) (Agent g))
    stopped g o up ne r not (inl q) = let alive = alive-same S n a out e g up in elim e [
      | inl k ↦ absurd (not (runs-still S n a out o (λ z. k.0) r))
      | inr k ↦ sent-both (λ y. ClosedUnderWay o y) S.channel n out (S.owner o) (Agent g)
          (λ z. closing-right o (S.channel (Agent (S.owner o)) (Agent g)) (out (Agent g)) (subst (λ y. ClosedUnderWay y (out (Agent g))) (ap (λ y. agent_start S y) q ∙ r)
          (k.1 g (subst (λ y. 0 < y) alive.0 up) (λ y. ne (sym q ∙ sym y)))))
          (λ z. absurd (z q))
    ]
    stopped g o up ne r not (inr q) = absurd (not (runs-still S n a out o (λ z. absurd (q z)) r))

    is-n : (m : ℕ) → (n ≡ m) ⊎ (n ≡ m → ⊥)
    is-n m = elim (cases_Bool (n == m)) [
      | inl c ↦ inl (eqb-true n m c)
      | inr c ↦ inr (λ z. grind (arith, nat_tests, c, z))
    ]

    heard : (g o : ℕ) → 0 < agent_start T g → Gone T o → (S.owner o ≡ g → ⊥) → ((agent_start S (S.owner o) == o) ≡ true) ⊎ ((agent_start S (S.owner o) == o) ≡ false) → HearsClosed T g o
    heard g o up gone ne (inl q) = inl (stopped g o up ne (eqb-true (agent_start S (S.owner o)) o q) gone.1 (is-n (S.owner o)))
    heard g o up gone ne (inr q) = keeps g o up
        (h.heard g o (subst (λ y. 0 < y) (alive-same S n a out e g up).0 up) (begun-back S T.agents T.channel o gone.0, λ r. grind (arith, nat_tests, q, r)) ne)

-- ---- turns put together

-- What is sent doesn't touch the first message that is taken.
pub sent-took : (ch : Actor → Actor → List Letter) (from to : Actor) (out : Sends) (l : Letter) (ls : List Letter) → ch from to ≡ l ∷ ls
    → sent (took ch from to) to out ≡ took (sent ch to out) from to
sent-took ch from to out l ls is = fun_ext (λ x. fun_ext (λ y. one x y))
  where
    swap : (b c : Bool) (xs ys : List Letter) → (c ≡ true → xs ≡ l ∷ ls)
        → (if b then (if c then rest xs else xs) ++ ys else (if c then rest xs else xs)) ≡ (if c then rest (if b then xs ++ ys else xs) else (if b then xs ++ ys else xs))
    swap true true xs ys k = rw (k refl) refl
    swap true false xs ys k = refl
    swap false true xs ys k = refl
    swap false false xs ys k = refl

    one : (x y : Actor) → sent (took ch from to) to out x y ≡ took (sent ch to out) from to x y
    one x y = swap (same to x) (same to y && same from x) (ch x y) (out y) (λ q.
        let e = and_parts (same to y) (same from x) q in
        ap (λ k. ch k y) (sym (same-true from x e.1)) ∙ ap (λ k. ch from k) (sym (same-true to y e.0)) ∙ is)

pub took-sent : (S : State) (from : Actor) (n : ℕ) (a : AgentState) (out : Sends) (H : History) (l : Letter) (ls : List Letter) → S.channel from (Agent n) ≡ l ∷ ls
    → after_agent (agent_popped S from n) n a out H ≡ agent_popped (after_agent S n a out H) from n
took-sent S from n a out H l ls is = ap (λ c. record S { agents = set_at S.agents n a; channel = c; history = H }) (sent-took S.channel from (Agent n) out l ls is)

-- one turn after another is one turn
pub after-after : (S : State) (n : ℕ) (a b : AgentState) (out out' : Sends) (H H' : History) → after_agent (after_agent S n a out H) n b out' H' ≡ after_agent S n b (λ x. out x ++ out' x) H'
after-after S n a b out out' H H' =
    ap (λ g. record S { agents = g; channel = sent (sent S.channel (Agent n) out) (Agent n) out'; history = H' }) (set-twice S.agents n a b)
    ∙ ap (λ c. record S { agents = set_at S.agents n b; channel = c; history = H' }) (sent-twice S.channel (Agent n) out out')

-- ---- a turn that brings no word

-- a start that runs has begun
pub begun-running : (S : State) (n : ℕ) → WordsHold S → 0 < agent_start S n → Begun S (agent_start S n)
begun-running S n h up = record {
  some = up;
  below = (k.running up).1;
  host = ap (λ x. is_host S.deployment x) (k.running up).0 ∙ is-host (is_host S.deployment n) refl;
  began = subst (λ x. In (agent_start S n) (S.history.began x)) (sym (k.running up).0) (let l = k.last up in subst (λ x. In (agent_start S n) x) (sym l.1) (inl refl));
}
  where
    k : HostOk S n
    k = h.hosts n

    is-host : (c : Bool) → is_host S.deployment n ≡ c → c ≡ true
    is-host true q = refl
    is-host false q = let z = k.environment q in absurd (omega (arith, z, up))

-- what an agent sends in a turn that brings no word may be sent
pub plain-ok : (S : State) (D : Deployment) (n : ℕ) (loaded : List ℕ) (g : ℕ) → WordsHold S → 0 < agent_start S n → (l : Letter) → SaysNoWord D n (S.agents n) loaded (Agent g) l → LetterOk S n g l
plain-ok S D n loaded g h up l p = elim l.body as (λ m. SaysNoWord D n (S.agents n) loaded (Agent g) (record l { body = m }) → LetterOk S n g (record l { body = m })) [
  | msg.Word base lost admitted ↦ λ k. absurd k
  | msg.Decided w ↦ λ k. (k.0, (some-here (λ v. In v S.history.decided × (names v (agent_start S n) ≡ true)) (S.agents n).decided w k.1 (h.agents n).decided).0)
  | msg.Closed o ↦ λ k. absurd k
  | msg.Admit j ↦ λ k. record {
    owned = ap (λ x. S.owner x) k.0 ∙ ((h.hosts n).running up).0;
    begun = subst (λ x. Begun S x) (sym k.0) (begun-running S n h up);
    other = k.1;
    word = k.2.0;
    took = ap (λ x. S.history.took x) k.0 ∙ (some-here (λ v. (S.history.took (agent_start S n) ≡ Some v) × In v S.history.decided) (S.agents n).taken k.2.0 k.2.1 (h.agents n).taken).0;
    term_is = k.2.2;
  }
  | msg.View w ↦ λ k. absurd k
  | m ↦ λ k. tt
] p

-- it closes no start
pub plain-closes : (D : Deployment) (n : ℕ) (a : AgentState) (loaded : List ℕ) (g : ℕ) (began : List ℕ) (j : ℕ) (l : Letter) → SaysNoWord D n a loaded (Agent g) l → ClosesFrom began j l
plain-closes D n a loaded g began j l p = elim l.body as (λ m. SaysNoWord D n a loaded (Agent g) (record l { body = m }) → ClosesFrom began j (record l { body = m })) [
  | msg.Closed o ↦ λ k. absurd k
  | m ↦ λ k. tt
] p

-- and all of it is in order
pub plain-order : (D : Deployment) (n : ℕ) (a : AgentState) (loaded : List ℕ) (g : ℕ) (began : List ℕ) (ls : List Letter) → AllByRecursion (SaysNoWord D n a loaded (Agent g)) ls → InOrder began ls
plain-order D n a loaded g began [] p = tt
plain-order D n a loaded g began (l ∷ ls) p = (
  (elim l.body as (λ m. (elim m as (λ _. Type 0) [ msg.Admit j ↦ AllByRecursion (ClosesFrom began j) ls | _ ↦ Unit {0} ])) [
    | msg.Admit j ↦ all-mono (SaysNoWord D n a loaded (Agent g)) (ClosesFrom began j) (plain-closes D n a loaded g began j) ls p.1
    | m ↦ tt
  ]),
  plain-order D n a loaded g began ls p.1,
)

-- only the start and the decided word say who initiates
pub initiates-same : (n : ℕ) (a b : AgentState) → b.start ≡ a.start → b.decided ≡ a.decided → initiates n b b.decided ≡ initiates n a a.decided
initiates-same n a b start decided = ap (λ o. initiates n b o) decided ∙ one a.decided
  where
    one : (o : Option Membership) → initiates n b o ≡ initiates n a o
    one None = refl
    one (Some w) = ap (λ s. is_initiator_in n s (initiator w)) start

-- what is queued behind a turn was queued before, or has just come
pub queue-later : (S T : State) (n : ℕ) → ((h term j : ℕ) → CameOk S h n term j → CameOk T h n term j) → (q came more : List Queued) → AllByRecursion (QueuedAdmissionOk S n) q
    → ((j h term : ℕ) → In (Admission j h term) came → QueuedAdmissionOk S n (Admission j h term)) → ((j h term : ℕ) → In (Admission j h term) more → In (Admission j h term) (q ++ came))
    → AllByRecursion (QueuedAdmissionOk T n) more
queue-later S T n up q came more k new from = all-from (QueuedAdmissionOk T n) more one
  where
    one : (x : Queued) → In x more → QueuedAdmissionOk T n x
    one (ToRun job) i = tt
    one (Admission j h term) i = elim (in-cases (Admission j h term) q came (from j h term i)) [
      | inl z ↦ up h term j (all-at (QueuedAdmissionOk S n) q k (Admission j h term) z)
      | inr z ↦ up h term j (new j h term z)
    ]

-- A turn that brings no word and admits no start.
pub calm-holds : (S : State) (D : Deployment) (n : ℕ) (came : List Queued) (loaded : List ℕ) (t : Turn AgentState) → 0 < agent_start S n → Calm D n (S.agents n) came loaded t → (t.state.own ≡ (S.agents n).own)
    → ((j h term : ℕ) → In (Admission j h term) came → QueuedAdmissionOk S n (Admission j h term)) → WordsHold S → WordsHold (after_agent S n t.state t.sends S.history)
calm-holds S D n came loaded t up c own new h = turn-holds S n t.state t.sends (inl (c.start, own))
    (agent-same T n (S.agents n) t.state c.start own c.decided c.taken c.said (subst (λ x. AllByRecursion (AgentWaitingOk T n) x) (sym c.waiting) k.waiting)
    (queue-later S T n (came-turn S n t.state t.sends (inl c.start) closes n) (S.agents n).initiating.queue came t.state.initiating.queue (h.agents n).queue new c.queue)
    phase k)
    (λ g. all-mono (SaysNoWord D n (S.agents n) loaded (Agent g)) (LetterOk T n g) (λ l p. letter-later S T f n g l (plain-ok S D n loaded g h up l p)) (t.sends (Agent g)) (c.sends (Agent g)))
    (λ g. plain-order D n (S.agents n) loaded g (S.history.began n) (t.sends (Agent g)) (c.sends (Agent g)))
    closes
    h
  where
    T : State
    T = after_agent S n t.state t.sends S.history

    f : WordsLater S T
    f = later-turn S n t.state t.sends (inl c.start)

    closes : (g j : ℕ) → AllByRecursion (ClosesFrom (S.history.began n) j) (t.sends (Agent g))
    closes g j = all-mono (SaysNoWord D n (S.agents n) loaded (Agent g)) (ClosesFrom (S.history.began n) j) (plain-closes D n (S.agents n) loaded g (S.history.began n) j) (t.sends (Agent g)) (c.sends (Agent g))

    k : AgentOk T n (S.agents n)
    k = agent-turn S n t.state t.sends (inl c.start) closes n (S.agents n) (h.agents n)

    phase : IsOff t.state.initiating.phase ⊎ (initiates n t.state t.state.decided ≡ true)
    phase = elim c.phase [
      | inl off ↦ inl off
      | inr runs ↦ elim k.initiates [
        | inl off ↦ absurd (runs off)
        | inr i ↦ inr (initiates-same n (S.agents n) t.state c.start c.decided ∙ i)
      ]
    ]

-- ---- messages that wait

-- an agent that differs in what waits alone
pub waiting-holds : (S : State) (n : ℕ) (ws : List Waiting) → AllByRecursion (AgentWaitingOk S n) ws → WordsHold S → WordsHold (after_agent S n (record (S.agents n) { waiting = ws }) (λ b. []) S.history)
waiting-holds S n ws ok h = turn-holds S n a (λ b. []) (inl (refl, refl))
    (agent-same T n (S.agents n) a refl refl refl refl refl
    (all-mono (AgentWaitingOk S n) (AgentWaitingOk T n) (λ x p. waiting-later S T n (came-turn S n a (λ b. []) (inl refl) (λ g j. tt) n) x.from x.letter p) ws ok)
    k.queue phase k)
    (λ g. tt) (λ g. tt) (λ g j. tt) h
  where
    a : AgentState
    a = record (S.agents n) { waiting = ws }

    T : State
    T = after_agent S n a (λ b. []) S.history

    k : AgentOk T n (S.agents n)
    k = agent-turn S n a (λ b. []) (inl refl) (λ g j. tt) n (S.agents n) (h.agents n)

    phase : IsOff a.initiating.phase ⊎ (initiates n a a.decided ≡ true)
    phase = elim k.initiates [
      | inl off ↦ inl off
      | inr i ↦ inr (initiates-same n (S.agents n) a refl refl ∙ i)
    ]

-- a message of any actor that waits
pub waits-holds : (S : State) (from : Actor) (n : ℕ) (l : Letter) → AgentWaitingFrom S n from l → WordsHold S
    → WordsHold (after_agent S n (record (S.agents n) { waiting = (S.agents n).waiting ++ record { from = from; letter = l } ∷ [] }) (λ b. []) S.history)
waits-holds S from n l p h = waiting-holds S n ((S.agents n).waiting ++ record { from = from; letter = l } ∷ [])
    (all-append (AgentWaitingOk S n) (S.agents n).waiting (record { from = from; letter = l } ∷ []) (h.agents n).waiting (p, tt)) h

-- of those that wait, the ones that pass a test
pub waiting-shrinks : (S : State) (n : ℕ) (test : Waiting → Bool) → WordsHold S
    → WordsHold (after_agent S n (record (S.agents n) { waiting = filter test (S.agents n).waiting }) (λ b. []) S.history)
waiting-shrinks S n test h = waiting-holds S n (filter test (S.agents n).waiting) (all-filter (AgentWaitingOk S n) test (S.agents n).waiting (h.agents n).waiting) h

-- ---- an agent that stops

-- what came before another began too
pub earlier-in : (r s : ℕ) (xs : List ℕ) → Earlier r s xs → In r xs
earlier-in r s [] e = absurd e
earlier-in r s (x ∷ xs) (inl e) = inr e.1
earlier-in r s (x ∷ xs) (inr e) = inr (earlier-in r s xs e)

-- the start that began last came before none
pub last-not-earlier : (r s : ℕ) (xs : List ℕ) → Distinct (r ∷ xs) → Earlier r s (r ∷ xs) → ⊥
last-not-earlier r s xs d (inl e) = d.0 e.1
last-not-earlier r s xs d (inr e) = d.0 (earlier-in r s xs e)

-- an agent that never ran knows nothing that could fail
pub new_agent-known : (S : State) (h : ℕ) → AgentOk S h (new_agent 0)
new_agent-known S h = record {
  own = tt;
  alone = λ up e. absurd (omega (arith, up));
  decided = tt;
  taken = tt;
  untaken = λ up e. absurd (omega (arith, up));
  wordless = λ e. refl;
  joins = λ d t. refl;
  heard = λ k. tt;
  waiting = tt;
  queue = tt;
  initiates = inl tt;
}

-- An agent that stops says so to all others.
pub stops-holds : (S : State) (n : ℕ) (t : Turn AgentState) → 0 < agent_start S n → t.state ≡ new_agent 0
    → ((g : ℕ) → is_host S.deployment g ≡ true → (g == n) ≡ false → t.sends (Agent g) ≡ open_letter (msg.Closed (agent_start S n)) ∷ [])
    → ((g : ℕ) → ((is_host S.deployment g ≡ false) ⊎ ((g == n) ≡ true)) → t.sends (Agent g) ≡ [])
    → WordsHold S → WordsHold (after_agent S n t.state t.sends S.history)
stops-holds S n t up e says silent h = turn-holds S n t.state t.sends (inr (zero-start, closing))
    (subst (λ x. AgentOk T n x) (sym e) (new_agent-known T n))
    (λ g. on-sends (λ ls. AllByRecursion (LetterOk T n g) ls) g ((refl, refl, gone, owner), tt) tt)
    (λ g. on-sends (λ ls. InOrder (S.history.began n) ls) g (tt, tt) tt)
    (λ g j. on-sends (λ ls. AllByRecursion (ClosesFrom (S.history.began n) j) ls) g (not-earlier j, tt) tt)
    h
  where
    T : State
    T = after_agent S n t.state t.sends S.history

    s : ℕ
    s = agent_start S n

    owner : S.owner s ≡ n
    owner = ((h.hosts n).running up).0

    zero-start : t.state.start ≡ 0
    zero-start = ap (λ x. x.start) e

    on-sends : (P : List Letter → Type 0) (g : ℕ) → P (open_letter (msg.Closed s) ∷ []) → P [] → P (t.sends (Agent g))
    on-sends P g p q = choice (is_host S.deployment g) (g == n) refl refl
      where
        choice : (b c : Bool) → is_host S.deployment g ≡ b → (g == n) ≡ c → P (t.sends (Agent g))
        choice true false x y = subst P (sym (says g x y)) p
        choice false c x y = subst P (sym (silent g (inl x))) q
        choice true true x y = subst P (sym (silent g (inr y))) q

    closing : (g : ℕ) → 0 < agent_start S g → (g ≡ n → ⊥) → ClosedUnderWay s (t.sends (Agent g))
    closing g runs ne = choice (is_host S.deployment g) (g == n) refl refl
      where
        choice : (b c : Bool) → is_host S.deployment g ≡ b → (g == n) ≡ c → ClosedUnderWay s (t.sends (Agent g))
        choice true false x y = subst (λ ls. ClosedUnderWay s ls) (sym (says g x y)) (inl refl)
        choice false c x y = let z = (h.hosts g).environment x in absurd (omega (arith, z, runs))
        choice true true x y = absurd (ne (eqb-true g n y))

    not-run : (c : Bool) → (S.owner s == n) ≡ c → (if c then t.state else S.agents (S.owner s)).start ≡ s → ⊥
    not-run true q r = absurd (omega (arith, up, sym zero-start ∙ r))
    not-run false q r = absurd (grind (arith, nat_tests, owner, q))

    gone : Gone T s
    gone = (begun-after S n t.state t.sends S.history (λ k x i. i) s (begun-running S n h up), not-run (S.owner s == n) refl)

    not-earlier : (j : ℕ) → Earlier s j (S.history.began n) → ⊥
    not-earlier j k = let l = (h.hosts n).last up in
        last-not-earlier s j l.0 (subst (λ x. Distinct x) l.1 (h.hosts n).distinct) (subst (λ x. Earlier s j x) l.1 k)
