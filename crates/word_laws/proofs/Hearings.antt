-- The handlers of an agent, and what it says of a new word: what holds, holds after them.
use Rattle.std.proofs.Common.{◌≡◌, ◌<◌, Bool, true, false, List, [], ◌∷◌, ◌++◌, append-nil, append_assoc, refl, sym, subst, ap, ◌∙◌, ◌⊎◌, inl, inr, ◌==◌, arith}
use Rattle.std.proofs.lemmas.Bool.{cases_Bool, eqb-true}
use Rattle.std.proofs.Math.Path.{fun_ext}
use Rattle.std.specs.Prelude.{ℕ, ◌||◌, if◌then◌else◌, Option, Some, None, ◌&&◌, not, is_none}
use Rattle.std.specs.List.{list_all, AllByRecursion}
use Rattle.volt_wire.specs.Word.{Membership}
use Rattle.volt_wire.specs.declared.actor.Actor.TheVariants.{Agent, Client, Site, Scanner, Director}
use Rattle.cluster_model.specs.Words.{Deployment, start_of, is_member, members, initiator, with_admitted, is_slot_of, is_down, is_client}
use Rattle.cluster_model.specs.Letters.{same, Letter, Sends, Turn, becomes, ◌▸◌, letter_to, open_letter}
use Rattle.cluster_model.specs.AgentState.{AgentState, new_agent, initiates}
use Rattle.cluster_model.specs.declared.initiating.Queued.{Queued}
use Rattle.cluster_model.specs.declared.initiating.Queued.TheVariants.{Admission}
use Rattle.cluster_model.specs.Agent.{is_other_word, says, is_word, may_decide, decides_word, decided_sends, asks_again}
use Rattle.cluster_model.specs.World.{set_at}
use Rattle.cluster_steps.specs.Lists.{In, OnSome}
use Rattle.word_laws.specs.Histories.{State, History, Admitted, names, agent_start, GoodWord, SaidBy, ClosesFrom, CameOk, QueuedAdmissionOk, OwnOk, WordsHold}
use Rattle.cluster_steps.proofs.Lists.{all-mono, all-at, in-cases, some-here, not-both, eqb-same, same-some, set-same, all-append, all-from, all-if}
use Rattle.word_laws.proofs.Algebra.{same_word-refl, same_word-is, with_admitted-admits, names-admits}
use Rattle.word_laws.proofs.Members.{members-all, members-below, is_member-start, initiates-is}
use Rattle.word_laws.proofs.Moves.{Nobody, after_agent, WordsLater, Grows, ShownOk, TellsKnown}
use Rattle.word_laws.proofs.Calm.{SaysNoWord, Calm, AdmitsNow}
use Rattle.word_laws.proofs.Agreement.{member-is, said-good}
use Rattle.word_laws.proofs.Turns.{IsRequest, request-cases, asks_again-requests, Decides, tells, concludes, tells-same, tells-other, concludes-not, concludes-is, decides-state, decides-sends, may_decide-cases, is_other_word-equal}
use Rattle.word_laws.proofs.Steps.{later-after, calm-holds, after-after, came-turn, plain-closes}
use Rattle.word_laws.proofs.OwnWords.{said_more, said-both, said_to}
use Rattle.word_laws.proofs.Decisions.{decides-holds}
use Rattle.word_laws.proofs.Admissions.{admits-holds, fresh}
use Rattle.cluster_steps.proofs.Channels.{sent-nothing}
use Rattle.word_laws.proofs.Laters.{shown-later}
use Rattle.volt_wire.specs.declared.actor.Actor.{Actor}
use Rattle.volt_wire.specs.declared.message.Msg.TheVariants as msg

-- ---- turns, one behind the other

-- it runs on with its start, or it has stopped
abbrev pub Going : State → ℕ → AgentState → Type 0
Going P n a = ((a.start ≡ agent_start P n) × (0 < agent_start P n)) ⊎ (a ≡ new_agent 0)

-- A turn of the agent of host n, from a state: the agent goes on or has stopped, and what holds of the state after it.
pub record WordsTurn (M : ℕ → ℕ → Type 0) (P : State) (n : ℕ) (t : Turn AgentState) : Type 0 where
  pub history : History
  pub goes : Going P n t.state
  pub first : history.first ≡ P.history.first
  pub began : history.began ≡ P.history.began
  pub said : (s : ℕ) (w : Membership) → In w (P.history.said s) → In w (history.said s)
  pub took_word : (s : ℕ) (w : Membership) → P.history.took s ≡ Some w → history.took s ≡ Some w
  pub decided : (w : Membership) → In w P.history.decided → In w history.decided
  pub admitted : (x : Admitted) → In x P.history.admitted → In x history.admitted
  -- of each start that it admits, and of its host, this holds
  pub admits : (x : Admitted) → In x history.admitted → In x P.history.admitted ⊎ M x.start (P.owner x.start)
  -- it is the one that admits them
  pub by : (x : Admitted) → In x history.admitted → In x P.history.admitted ⊎ ((x.by ≡ agent_start P n) × (0 < agent_start P n))
  pub holds : WordsHold (after_agent P n t.state t.sends history)
  pub shown : (b : Actor) → AllByRecursion (ShownOk (after_agent P n t.state t.sends history) b) (t.sends b)

-- such a turn only adds to the history
pub handler-grows : {M : ℕ → ℕ → Type 0} {P : State} {n : ℕ} {t : Turn AgentState} (r : WordsTurn M P n t) → Grows P.history r.history
handler-grows r = record {
  first = r.first;
  began = λ h s i. rw r.began i;
  said = r.said;
  took_word = r.took_word;
  decided = r.decided;
  admitted = r.admitted;
}

-- and to the state
pub handler-later : {M : ℕ → ℕ → Type 0} (P : State) (n : ℕ) (t : Turn AgentState) (r : WordsTurn M P n t) → WordsLater P (after_agent P n t.state t.sends r.history)
handler-later P n t r = later-after P n t.state t.sends r.history (elim r.goes [ inl e ↦ inl e.0 | inr e ↦ inr (ap (λ x. x.start) e) ]) r.first r.began r.said r.took_word r.decided r.admitted

-- where nobody is admitted, this holds of all who are
pub none-handler : {M : ℕ → ℕ → Type 0} {P : State} {n : ℕ} {t : Turn AgentState} → WordsTurn Nobody P n t → WordsTurn M P n t
none-handler r = record {
  history = r.history;
  goes = r.goes;
  first = r.first;
  began = r.began;
  said = r.said;
  took_word = r.took_word;
  decided = r.decided;
  admitted = r.admitted;
  admits = λ x i. elim (r.admits x i) [
    | inl k ↦ inl k
    | inr k ↦ absurd k
  ];
  by = r.by;
  holds = r.holds;
  shown = r.shown;
}

-- a turn in which the history stays
pub handler-plain : {M : ℕ → ℕ → Type 0} (P : State) (n : ℕ) (t : Turn AgentState) → Going P n t.state → WordsHold (after_agent P n t.state t.sends P.history)
    → ((b : Actor) → AllByRecursion (ShownOk (after_agent P n t.state t.sends P.history) b) (t.sends b)) → WordsTurn M P n t
handler-plain P n t g h shown = record {
  history = P.history;
  goes = g;
  first = refl;
  began = refl;
  said = λ s w i. i;
  took_word = λ s w e. e;
  decided = λ w i. i;
  admitted = λ x i. i;
  admits = λ x i. inl i;
  by = λ x i. inl i;
  holds = h;
  shown = shown;
}

-- the agent is what the turn made of it
pub agent-there : (P : State) (n : ℕ) (a : AgentState) (out : Sends) (H : History) → (after_agent P n a out H).agents n ≡ a
agent-there P n a out H = rw (eqb-same n) refl

-- and what comes to it from others is as it was
pub others-after : (P : State) (n : ℕ) (a : AgentState) (out : Sends) (H : History) (h : ℕ) → (h == n) ≡ false
    → (after_agent P n a out H).channel (Agent h) (Agent n) ≡ P.channel (Agent h) (Agent n)
others-after P n a out H h e = choice (n == h) refl
  where
    choice : (b : Bool) → (n == h) ≡ b → (if b then P.channel (Agent h) (Agent n) ++ out (Agent n) else P.channel (Agent h) (Agent n)) ≡ P.channel (Agent h) (Agent n)
    choice true q = absurd (not-both (h == n) (subst (λ z. (h == z) ≡ true) (sym (eqb-true n h q)) (eqb-same h)) e)
    choice false q = refl

-- One turn, and then another one from the state after it, with the history that this one leaves.
pub after-handler : {M : ℕ → ℕ → Type 0} (P : State) (n : ℕ) (t : Turn AgentState) (f : AgentState → Turn AgentState) (r : WordsTurn M P n t)
    → (q : WordsTurn M (after_agent P n t.state t.sends r.history) n (f t.state)) → (both : WordsTurn M P n (t ▸ f)) × (both.history ≡ q.history)
after-handler P n t f r q = (
  record {
    history = q.history;
    goes = elim q.goes [
      | inl e ↦ there (e.0 ∙ ap (λ x. x.start) here) (subst (λ x. 0 < x.start) here e.1)
      | inr e ↦ inr e
    ];
    first = q.first ∙ r.first;
    began = q.began ∙ r.began;
    said = λ s w i. q.said s w (r.said s w i);
    took_word = λ s w e. q.took_word s w (r.took_word s w e);
    decided = λ w i. q.decided w (r.decided w i);
    admitted = λ x i. q.admitted x (r.admitted x i);
    admits = λ x i. elim (q.admits x i) [
      | inl k ↦ r.admits x k
      | inr k ↦ inr k
    ];
    by = λ x i. elim (q.by x i) [
      | inl k ↦ r.by x k
      | inr k ↦ inr (ran (k.0 ∙ ap (λ a. a.start) here) (subst (λ a. 0 < a.start) here k.1))
    ];
    holds = subst WordsHold one q.holds;
    shown = λ b. subst (λ Z. AllByRecursion (ShownOk Z b) (t.sends b ++ (f t.state).sends b)) one (all-append (ShownOk U b) (t.sends b) ((f t.state).sends b)
        (shown-later (after_agent P n t.state t.sends r.history) U (handler-later (after_agent P n t.state t.sends r.history) n (f t.state) q) b (t.sends b) (r.shown b)) (q.shown b));
  },
  refl,
)
  where
    U : State
    U = after_agent (after_agent P n t.state t.sends r.history) n (f t.state).state (f t.state).sends q.history

    one : U ≡ after_agent P n (f t.state).state (λ b. t.sends b ++ (f t.state).sends b) q.history
    one = after-after P n t.state (f t.state).state t.sends (f t.state).sends r.history q.history

    here : (after_agent P n t.state t.sends r.history).agents n ≡ t.state
    here = agent-there P n t.state t.sends r.history

    there : (f t.state).state.start ≡ t.state.start → 0 < t.state.start → Going P n (f t.state).state
    there e up = elim r.goes [
      | inl d ↦ inl (e ∙ d.0, d.1)
      | inr d ↦ let z : t.state.start ≡ 0 = ap (λ x. x.start) d in absurd (omega (arith, up, z))
    ]

    ran : {x : ℕ} → x ≡ t.state.start → 0 < t.state.start → (x ≡ agent_start P n) × (0 < agent_start P n)
    ran e up = elim r.goes [
      | inl d ↦ (e ∙ d.0, d.1)
      | inr d ↦ let z : t.state.start ≡ 0 = ap (λ x. x.start) d in absurd (omega (arith, up, z))
    ]

-- from whatever state that is
pub then-handler : {M : ℕ → ℕ → Type 0} (P : State) (n : ℕ) (t : Turn AgentState) (f : AgentState → Turn AgentState) → WordsTurn M P n t
    → ((T : State) → T.agents n ≡ t.state → T.deployment ≡ P.deployment → WordsLater P T
    → ((h : ℕ) → (h == n) ≡ false → T.channel (Agent h) (Agent n) ≡ P.channel (Agent h) (Agent n)) → WordsHold T
    → WordsTurn M T n (f t.state)) → WordsTurn M P n (t ▸ f)
then-handler P n t f r g = (after-handler P n t f r
    (g (after_agent P n t.state t.sends r.history) (agent-there P n t.state t.sends r.history) refl (handler-later P n t r) (others-after P n t.state t.sends r.history) r.holds)).0

-- ---- turns that are one

pub then-assoc : {A : Type 0} (t : Turn A) (f g : A → Turn A) → (t ▸ f) ▸ g ≡ t ▸ (λ x. f x ▸ g)
then-assoc t f g = ap (λ z. record { state = (g (f t.state).state).state; sends = z }) (fun_ext (λ b. append_assoc (t.sends b) ((f t.state).sends b) ((g (f t.state).state).sends b)))

-- a turn that does nothing leaves the one before
pub then-inert : (t : Turn AgentState) (f : AgentState → Turn AgentState) → f t.state ≡ becomes t.state → t ▸ f ≡ t
then-inert t f e = ap (λ u. record { state = u.state; sends = λ b. t.sends b ++ u.sends b }) e
    ∙ ap (λ z. record { state = t.state; sends = z }) (fun_ext (λ b. append-nil (t.sends b)))

-- a word isn't another one than itself
pub other-self : (o : Option Membership) → is_other_word o o ≡ false
other-self None = refl
other-self (Some w) = rw (same_word-refl w) refl

-- ---- nothing changes

pub after-same : (P : State) (n : ℕ) → after_agent P n (P.agents n) (λ b. []) P.history ≡ P
after-same P n = ap (λ c. record P { agents = set_at P.agents n (P.agents n); channel = c }) (sent-nothing P.channel (Agent n))
    ∙ ap (λ f. record P { agents = f }) (set-same P.agents n)

-- a turn of an agent that stays as it is
pub stay-handler : {M : ℕ → ℕ → Type 0} (P : State) (n : ℕ) → Going P n (P.agents n) → WordsHold P → WordsTurn M P n (becomes (P.agents n))
stay-handler P n g h = handler-plain P n (becomes (P.agents n)) g (subst WordsHold (sym (after-same P n)) h) (λ b. tt)

-- ---- a word is decided, where it may be

module _ {M : ℕ → ℕ → Type 0} (T : State) (H : WordsHold T) (n : ℕ) (D : Deployment) (up : 0 < agent_start T n) where
  pub decides-handler : (v : Membership) → (T.agents n).own ≡ Some v → may_decide n (T.agents n) (Some v) ≡ true → WordsTurn M T n (decides_word D n (T.agents n) (Some v))
  decides-handler v own may = record {
    history = record T.history { decided = v ∷ T.history.decided };
    goes = inl (d.start, up);
    first = refl;
    began = refl;
    said = λ s w i. i;
    took_word = λ s w e. e;
    decided = λ w i. inr i;
    admitted = λ x i. i;
    admits = λ x i. inl i;
    by = λ x i. inl i;
    holds = decides-holds T H n v (decides_word D n (T.agents n) (Some v)).state (decides_word D n (T.agents n) (Some v)).sends up own
        (member-is T H.history v n (agent_start T n) good mine).0 others d (decides-sends D n (T.agents n) v);
    shown = shows;
  }
    where
      U : State
      U = after_agent T n (decides_word D n (T.agents n) (Some v)).state (decides_word D n (T.agents n) (Some v)).sends (record T.history { decided = v ∷ T.history.decided })

      -- it shows the word to its sites
      says-word_of : (b : Actor) → AllByRecursion (ShownOk U b) (decided_sends D n (T.agents n) v b)
      says-word_of (Site c) = all-if (ShownOk U (Site c)) (is_slot_of D n c && not (is_down D v)) (letter_to (T.agents n).start (msg.View v) ∷ []) [] (inl refl, tt) tt
      says-word_of (Client c) = all-if (ShownOk U (Client c)) (is_client D c && is_none (T.agents n).decided) (open_letter (msg.Opened (T.agents n).start) ∷ []) [] (tt, tt) tt
      says-word_of (Agent g) = all-from (ShownOk U (Agent g)) (decided_sends D n (T.agents n) v (Agent g)) (λ l i. tt)
      says-word_of Director = tt
      says-word_of (Scanner c) = tt

      -- of calls it tells nothing
      requests-shown : (b : Actor) (l : Letter) → IsRequest l → ShownOk U b l
      requests-shown (Agent g) l r = tt
      requests-shown Director l r = request-cases (TellsKnown U) (λ z call start client body. tt) (λ z call start client body. tt) l r
      requests-shown (Client c) l r = request-cases (TellsKnown U) (λ z call start client body. tt) (λ z call start client body. tt) l r
      requests-shown (Site c) l r = request-cases (TellsKnown U) (λ z call start client body. tt) (λ z call start client body. tt) l r
      requests-shown (Scanner c) l r = request-cases (TellsKnown U) (λ z call start client body. tt) (λ z call start client body. tt) l r

      shows : (b : Actor) → AllByRecursion (ShownOk U b) ((decides_word D n (T.agents n) (Some v)).sends b)
      shows b =
          let again = asks_again D (T.agents n).start v (T.agents n).pending b in
          all-append (ShownOk U b) (decided_sends D n (T.agents n) v b) again (says-word_of b)
          (all-mono IsRequest (ShownOk U b) (requests-shown b) again (asks_again-requests D (T.agents n).start v (T.agents n).pending b))

      d : Decides n (T.agents n) v (decides_word D n (T.agents n) (Some v)).state
      d = decides-state D n (T.agents n) v

      own-ok : OwnOk T (agent_start T n) v
      own-ok = some-here (OwnOk T (agent_start T n)) (T.agents n).own v own (H.agents n).own

      good : GoodWord T v
      good = own-ok.good

      both : (is_member v n (agent_start T n) ≡ true) × (list_all (λ m. m.0 == n || is_word v ((T.agents n).said m.0)) (members v) ≡ true)
      both = may_decide-cases n (T.agents n) v may

      mine : start_of v n ≡ Some (agent_start T n)
      mine = is_member-start v n (agent_start T n) both.0

      said-here : In v (T.history.said (agent_start T n))
      said-here = let m = own-ok.member (member-is T H.history v n (agent_start T n) good mine).0 in subst (λ z. In v z) (sym m.1) (inl refl)

      heard-from : (h r : ℕ) (o : Option Membership) → start_of v h ≡ Some r → OnSome (SaidBy T h) o → is_word v o ≡ true → In v (T.history.said r)
      heard-from h r None e k i = absurd (cc)
      heard-from h r (Some u) e k i =
          let same = same_word-is u v ((said-good T H.history k.0 u k.2).first ∙ sym good.first) i in
          let start : k.0 ≡ r = same-some (sym k.1 ∙ ap (λ z. start_of z h) same ∙ e) in
          subst (λ z. In v (T.history.said z)) start (subst (λ z. In z (T.history.said k.0)) same k.2)

      others : (h r : ℕ) → start_of v h ≡ Some r → In v (T.history.said r)
      others h r e = choice (h == n) refl (members-all v (λ m. m.0 == n || is_word v ((T.agents n).said m.0)) h r both.1 e)
        where
          choice : (b : Bool) → (h == n) ≡ b → (b || is_word v ((T.agents n).said h)) ≡ true → In v (T.history.said r)
          choice true q i =
              let start : agent_start T n ≡ r = same-some (sym mine ∙ ap (start_of v) (sym (eqb-true h n q)) ∙ e) in
              subst (λ z. In v (T.history.said z)) start said-here
          choice false q i = heard-from h r ((T.agents n).said h) e ((H.agents n).heard h) i

  -- It decides its word, or goes on as it was.
  pub concludes-handler : WordsTurn M T n (concludes D n (T.agents n))
  concludes-handler = go (T.agents n).own refl
    where
      go : (o : Option Membership) → (T.agents n).own ≡ o → WordsTurn M T n (concludes D n (T.agents n))
      go None e = subst (WordsTurn M T n) (sym (concludes-not D n (T.agents n) (ap (λ z. may_decide n (T.agents n) z) e))) (stay-handler T n (inl (refl, up)) H)
      go (Some v) e = elim (cases_Bool (may_decide n (T.agents n) (Some v))) [
        | inl m ↦ subst (WordsTurn M T n) (sym (concludes-is D n (T.agents n) (ap (λ z. may_decide n (T.agents n) z) e ∙ m) ∙ ap (decides_word D n (T.agents n)) e)) (decides-handler v e m)
        | inr m ↦ subst (WordsTurn M T n) (sym (concludes-not D n (T.agents n) (ap (λ z. may_decide n (T.agents n) z) e ∙ m))) (stay-handler T n (inl (refl, up)) H)
      ]

-- ---- a message that brings no word

-- what a turn that brings no word shows, and a word that is said: to others than agents none
pub calm-shown : (S T : State) (D : Deployment) (n : ℕ) (loaded : List ℕ) → WordsHold S → WordsLater S T → (b : Actor) (ls : List Letter)
    → AllByRecursion (SaysNoWord D n (S.agents n) loaded b) ls → AllByRecursion (ShownOk T b) ls
calm-shown S T D n loaded h f b ls p = shown-later S T f b ls (all-mono (SaysNoWord D n (S.agents n) loaded b) (ShownOk S b) (one b) ls p)
  where
    told : (b : Actor) (l : Letter) → SaysNoWord D n (S.agents n) loaded b l → TellsKnown S l
    told b l p = elim l.body as (λ m. SaysNoWord D n (S.agents n) loaded b (record l { body = m }) → TellsKnown S (record l { body = m })) [
      | msg.Word base lost admitted ↦ λ k. k
      | msg.Decided w ↦ λ k. (some-here (λ v. In v S.history.decided × (names v (agent_start S n) ≡ true)) (S.agents n).decided w k.1 (h.agents n).decided).0
      | msg.View w ↦ λ k. absurd k
      | msg.Closed o ↦ λ k. absurd k
      | m ↦ λ k. tt
    ] p

    one : (b : Actor) (l : Letter) → SaysNoWord D n (S.agents n) loaded b l → ShownOk S b l
    one (Agent g) l p = tt
    one Director l p = told Director l p
    one (Client g) l p = told (Client g) l p
    one (Site g) l p = told (Site g) l p
    one (Scanner g) l p = told (Scanner g) l p

pub says-shown : (T : State) (n : ℕ) (x : AgentState) (v : Membership) (b : Actor) → AllByRecursion (ShownOk T b) ((says T.deployment n x (Some v)).sends b)
says-shown T n x v (Agent g) = all-from (ShownOk T (Agent g)) ((says T.deployment n x (Some v)).sends (Agent g)) (λ l i. tt)
says-shown T n x v Director = tt
says-shown T n x v (Client g) = tt
says-shown T n x v (Site g) = tt
says-shown T n x v (Scanner g) = tt

-- it says the word that it has just got, which is another one
pub says-word : (D : Deployment) (n : ℕ) (x : AgentState) (before : Option Membership) (v : Membership) → x.own ≡ Some v → is_other_word before (Some v) ≡ true
    → tells D n before x ≡ says D n x (Some v)
says-word D n x before v e o = tells-other D n before x (ap (is_other_word before) e ∙ o) ∙ ap (says D n x) e

module _ {M : ℕ → ℕ → Type 0} (P : State) (H : WordsHold P) (n : ℕ) (came : List Queued) (loaded : List ℕ) (t : Turn AgentState)
    (up : 0 < agent_start P n) (c : Calm P.deployment n (P.agents n) came loaded t)
    (new : (j h term : ℕ) → In (Admission j h term) came → QueuedAdmissionOk P n (Admission j h term))
    (may : (j h term : ℕ) → In (Admission j h term) ((P.agents n).initiating.queue ++ came) → M j h) where
  abbrev D : Deployment
  D = P.deployment

  -- it admits a start
  admits-handler : AdmitsNow (P.agents n) came t.state.own → WordsTurn M P n (t ▸ tells P.deployment n (P.agents n).own)
  admits-handler m = record {
    history = G;
    goes = inl (ap (λ u. u.state.start) turn-is ∙ c.start, up);
    first = refl;
    began = refl;
    said = λ r u i. said-both (λ k us. (u : Membership) → In u (P.history.said k) → In u us) P.history.said (agent_start S1 n) v (λ y i. inr i) (λ k d y i. i) r u i;
    took_word = λ s w e. e;
    decided = λ w i. i;
    admitted = λ x i. inr i;
    admits = λ x i. elim i [
      | inl e ↦ inr (subst (λ y. M y.start (P.owner y.start)) e (subst (λ h. M m.start h) (sym came0.0.owned) (may m.start m.host m.term m.queued)))
      | inr k ↦ inl k
    ];
    by = λ x i. elim i [
      | inl e ↦ inr (sym (ap (λ y. y.by) e) ∙ start1, up)
      | inr k ↦ inl k
    ];
    holds = subst (λ u. WordsHold (after_agent P n u.state u.sends G)) (sym turn-is)
        (subst WordsHold (ap (λ z. after_agent S1 n z out G) state-is
        ∙ after-after P n t0 t.state t.sends out P.history G)
        (admits-holds S1 H1 n m.word m.decided m.start m.host m.term out up1 own1 decided1 m.same init came1 m.term_is (members-below m.word m.start m.above) sends));
    shown = λ b. subst (λ u. AllByRecursion (ShownOk (after_agent P n u.state u.sends G) b) (u.sends b)) (sym turn-is)
        (all-append (ShownOk T b) (t.sends b) (out b) (calm-shown P T D n loaded H later b (t.sends b) (c.sends b)) (says-shown T n t.state v b));
  }
    where
      -- first the turn without the new word, and then the word
      t0 : AgentState
      t0 = record t.state { own = (P.agents n).own }

      v : Membership
      v = with_admitted m.start m.host m.word

      out : Sends
      out = (says P.deployment n t.state (Some v)).sends

      c0 : Calm D n (P.agents n) came loaded (record { state = t0; sends = t.sends })
      c0 = record {
        at = record {
          start = c.start;
          decided = c.decided;
          taken = c.taken;
          said = c.said;
          waiting = c.waiting;
          loads = c.loads;
          own = inl refl;
          queue = c.queue;
          phase = c.phase;
        };
        sends = c.sends;
      }

      S1 : State
      S1 = after_agent P n t0 t.sends P.history

      G : History
      G = record P.history { said = said_more P.history.said (agent_start S1 n) v; admitted = record { start = m.start; by = agent_start S1 n; at = m.word } ∷ P.history.admitted }

      H1 : WordsHold S1
      H1 = calm-holds P D n came loaded (record { state = t0; sends = t.sends }) up c0 refl new H

      here : S1.agents n ≡ t0
      here = agent-there P n t0 t.sends P.history

      start1 : agent_start S1 n ≡ agent_start P n
      start1 = ap (λ x. x.start) here ∙ c.start

      up1 : 0 < agent_start S1 n
      up1 = subst (λ z. 0 < z) (sym start1) up

      own1 : (S1.agents n).own ≡ Some m.word
      own1 = ap (λ x. x.own) here ∙ m.is_own

      decided1 : (S1.agents n).decided ≡ Some m.decided
      decided1 = ap (λ x. x.decided) here ∙ c.decided ∙ m.is_decided

      init : initiator m.decided ≡ Some (n, agent_start S1 n)
      init = elim (H.agents n).initiates [
        | inl off ↦ absurd (m.works off)
        | inr i ↦ initiates-is n (P.agents n) m.decided (ap (λ z. initiates n (P.agents n) z) (sym m.is_decided) ∙ i) ∙ ap (λ z. Some (n, z)) (sym start1)
      ]

      came0 : CameOk P m.host n m.term m.start
      came0 = elim (in-cases (Admission m.start m.host m.term) (P.agents n).initiating.queue came m.queued) [
        | inl i ↦ all-at (QueuedAdmissionOk P n) (P.agents n).initiating.queue (H.agents n).queue (Admission m.start m.host m.term) i
        | inr i ↦ new m.start m.host m.term i
      ]

      came1 : CameOk S1 m.host n m.term m.start
      came1 = came-turn P n t0 t.sends (inl c.start)
          (λ g j. all-mono (SaysNoWord D n (P.agents n) loaded (Agent g)) (ClosesFrom (P.history.began n) j)
          (λ l p. plain-closes D n (P.agents n) loaded g (P.history.began n) j l p) (t.sends (Agent g)) (c.sends (Agent g)))
          n m.host m.term m.start came0

      sends : (g : ℕ) → (says P.deployment n t.state (Some v)).sends (Agent g)
          ≡ said_to P.deployment n (agent_start S1 n) v g
      sends g = ap {A = ℕ} {B = List Letter} (λ z. said_to P.deployment n z v g) (c.start ∙ sym start1)

      state-is : record (S1.agents n) { own = Some v } ≡ t.state
      state-is = ap {A = AgentState} {B = AgentState} (λ x. record x { own = Some v }) here
          ∙ ap {A = Option Membership} {B = AgentState} (λ o. record t.state { own = o }) (sym m.becomes)

      other : is_other_word (P.agents n).own (Some v) ≡ true
      other = elim (cases_Bool (is_other_word (P.agents n).own (Some v))) [
        | inl o ↦ o
        | inr o ↦
            let same = is_other_word-equal m.word v refl (ap (λ z. is_other_word z (Some v)) (sym m.is_own) ∙ o) in
            absurd (not-both (names m.word m.start)
            (subst (λ z. names z m.start ≡ true) (sym same) (names-admits v m.start (with_admitted-admits m.start m.host m.word)))
            (fresh S1 H1 n m.word m.decided m.start m.host m.term out up1 own1 decided1 m.same init came1 m.term_is (members-below m.word m.start m.above) sends))
      ]

      T : State
      T = after_agent P n t.state (λ b. t.sends b ++ out b) G

      later : WordsLater P T
      later = later-after P n t.state (λ b. t.sends b ++ out b) G (inl c.start) refl refl
          (λ r u i. said-both (λ k us. (u : Membership) → In u (P.history.said k) → In u us) P.history.said (agent_start S1 n) v (λ y i. inr i) (λ k d y i. i) r u i)
          (λ s w e. e) (λ w i. i) (λ x i. inr i)

      turn-is : t ▸ tells P.deployment n (P.agents n).own ≡ record { state = t.state; sends = λ b. t.sends b ++ (says P.deployment n t.state (Some v)).sends b }
      turn-is = ap (λ u. record { state = u.state; sends = λ b. t.sends b ++ u.sends b }) (says-word P.deployment n t.state (P.agents n).own v m.becomes other)

  -- A turn that brings no word, and what the agent says then.
  pub calm-handler : WordsTurn M P n (t ▸ tells P.deployment n (P.agents n).own)
  calm-handler = elim c.own [
    | inl same ↦ subst (WordsTurn M P n) (sym (then-inert t (tells P.deployment n (P.agents n).own)
        (tells-same P.deployment n (P.agents n).own t.state (ap (is_other_word (P.agents n).own) same ∙ other-self (P.agents n).own))))
        (handler-plain P n t (inl (c.start, up)) (calm-holds P D n came loaded t up c same new H)
        (λ b. calm-shown P (after_agent P n t.state t.sends P.history) D n loaded H
        (later-after P n t.state t.sends P.history (inl c.start) refl refl (λ s w i. i) (λ s w e. e) (λ w i. i) (λ x i. i)) b (t.sends b) (c.sends b)))
    | inr m ↦ admits-handler m
  ]

-- One turn, and then another one of an agent that goes on. One that has stopped does nothing then.
pub on-handler : {M : ℕ → ℕ → Type 0} (P : State) (n : ℕ) (t : Turn AgentState) (f : AgentState → Turn AgentState) → WordsTurn M P n t → f (new_agent 0) ≡ becomes (new_agent 0)
    → ((T : State) → T.agents n ≡ t.state → T.deployment ≡ P.deployment → WordsLater P T
    → ((h : ℕ) → (h == n) ≡ false → T.channel (Agent h) (Agent n) ≡ P.channel (Agent h) (Agent n)) → WordsHold T
    → 0 < agent_start T n → WordsTurn M T n (f (T.agents n))) → WordsTurn M P n (t ▸ f)
on-handler {M = M} P n t f r silent g = then-handler P n t f r (λ T e d k o h. elim r.goes [
  | inl q ↦ subst (λ z. WordsTurn M T n (f z)) e (g T e d k o h (subst (λ z. 0 < z) (sym (ap (λ x. x.start) e ∙ q.0)) q.1))
  | inr z ↦ subst (λ u. WordsTurn M T n u) (sym (ap f z ∙ silent)) (subst (λ u. WordsTurn M T n (becomes u)) (e ∙ z) (stay-handler T n (inr (e ∙ z)) h))
])

pub concludes-none : (D : Deployment) (n : ℕ) → concludes D n (new_agent 0) ≡ becomes (new_agent 0)
concludes-none D n = refl

-- what follows a handler, when the agent has said its word
pub concluded-handler : {M : ℕ → ℕ → Type 0} (P : State) (n : ℕ) (D : Deployment) (t : Turn AgentState) → WordsTurn M P n t → WordsTurn M P n (t ▸ concludes D n)
concluded-handler P n D t r = on-handler P n t (concludes D n) r (concludes-none D n) (λ T e d k o h up. concludes-handler T h n D up)
