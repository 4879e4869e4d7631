-- An agent takes a message that brings a word: what holds, holds after its handler and what it says then.
use Rattle.std.proofs.Common.{◌≡◌, ◌<◌, Bool, true, false, List, [], ◌∷◌, ◌++◌, refl, sym, subst, ap, ◌∙◌, ◌⊎◌, inl, inr, ◌==◌, arith}
use Rattle.std.proofs.lemmas.Bool.{cases_Bool, eqb-true}
use Rattle.std.specs.Prelude.{ℕ, if◌then◌else◌, Option, Some, None}
use Rattle.std.specs.List.{AllByRecursion}
use Rattle.volt_wire.specs.Word.{Membership}
use Rattle.volt_wire.specs.declared.actor.Actor.{Actor}
use Rattle.volt_wire.specs.declared.actor.Actor.TheVariants.{Agent, Site, Client, Scanner, Director}
use Rattle.volt_wire.specs.declared.message.Msg.TheVariants as msg
use Rattle.cluster_model.specs.Words.{is_in, is_member, admits, union, with_lost, is_slot_of}
use Rattle.cluster_model.specs.Letters.{same, Letter, Turn, becomes, ◌▸◌, open_letter, letter_to}
use Rattle.cluster_model.specs.AgentState.{AgentState, new_agent, stops, stops_with_host}
use Rattle.cluster_model.specs.Agent.{is_other_word, says, on_closed, on_word, on_decided, is_passed_over, takes_word}
use Rattle.cluster_steps.specs.Lists.{In, OnSome}
use Rattle.word_laws.specs.Histories.{State, Admitted, Within, names, agent_start, Gone, GoodWord, SaidBy, LetterOk, OwnOk, Telling, WordsHold, History}
use Rattle.cluster_steps.proofs.Lists.{some-here, not-both, eqb-same, same-some, all-append, all-if, all-from}
use Rattle.word_laws.proofs.Algebra.{within-with_lost, within-union-left, within-union-right, in-with_lost, with_lost-in, lost-union, names-within}
use Rattle.word_laws.proofs.Members.{is_member-start}
use Rattle.word_laws.proofs.Moves.{Nobody, OwnLost, after_agent, agent_popped, WordsLater, Heeded, ShownOk}
use Rattle.word_laws.proofs.Agreement.{member-is, runs-not-lost, said-good, knows-told}
use Rattle.word_laws.proofs.Laters.{good-later, admitted_ok-later, shown-later}
use Rattle.word_laws.proofs.Turns.{tells, tells-same, tells-state, is_other_word-equal, on_decided-joiner, stops-sends, stops-sends-none, stops_with_host-closed, StopsSay, stops-shown, stops_with_host-say}
use Rattle.word_laws.proofs.Steps.{later-after, took-sent, pops, stops-holds, unnamed-not, begun-after, later-moved, begun-running}
use Rattle.word_laws.proofs.OwnWords.{said_more, said-both, says-holds, said_to}
use Rattle.word_laws.proofs.Goods.{good-lost, good-union}
use Rattle.word_laws.proofs.Joins.{took-keeps, takes_word-holds, grows-holds, heard-holds}
use Rattle.word_laws.proofs.Hearings.{WordsTurn, handler-plain, stay-handler, agent-there, other-self, says-word, then-inert, says-shown}
use Rattle.volt_wire.specs.declared.message.Msg.TheVariants.{Look}
use Rattle.cluster_model.specs.World.{took}

-- ---- a message is forgotten behind the turn in which it was heeded

-- behind a turn, where it may be forgotten after it
pub forgets-handler : {M : ℕ → ℕ → Type 0} (S : State) (n : ℕ) (from : Actor) (l : Letter) (ls : List Letter) (t : Turn AgentState) → S.channel from (Agent n) ≡ l ∷ ls
    → (r : WordsTurn M S n t)
    → ((more : List Letter) → (after_agent S n t.state t.sends r.history).channel from (Agent n) ≡ l ∷ more → WordsHold (agent_popped (after_agent S n t.state t.sends r.history) from n))
    → WordsTurn M (agent_popped S from n) n t
forgets-handler S n from l ls t is r forgets = record {
  history = r.history;
  goes = r.goes;
  first = r.first;
  began = r.began;
  said = r.said;
  took_word = r.took_word;
  decided = r.decided;
  admitted = r.admitted;
  admits = r.admits;
  by = r.by;
  shown = λ b. subst (λ Z. AllByRecursion (ShownOk Z b) (t.sends b)) (sym (took-sent S from n t.state t.sends r.history l ls is))
      (shown-later T (agent_popped T from n) (later-moved T T.agents (took T.channel from (Agent n)) (λ s g e. e)) b (t.sends b) (r.shown b));
  holds = let b = behind (same (Agent n) from) in subst WordsHold (sym (took-sent S from n t.state t.sends r.history l ls is)) (forgets b.0 b.1);
}
  where
    T : State
    T = after_agent S n t.state t.sends r.history

    behind : (b : Bool) → (more : List Letter) × ((if b then S.channel from (Agent n) ++ t.sends (Agent n) else S.channel from (Agent n)) ≡ l ∷ more)
    behind true = (ls ++ t.sends (Agent n), ap (λ z. z ++ t.sends (Agent n)) is)
    behind false = (ls, is)

-- a message between agents that it has heeded
pub pop-handler : {M : ℕ → ℕ → Type 0} (S : State) (n k : ℕ) (l : Letter) (ls : List Letter) (t : Turn AgentState) → S.channel (Agent k) (Agent n) ≡ l ∷ ls
    → (r : WordsTurn M S n t) → Heeded (after_agent S n t.state t.sends r.history) n l → WordsTurn M (agent_popped S (Agent k) n) n t
pop-handler S n k l ls t is r heeded = forgets-handler S n (Agent k) l ls t is r (λ more e. pops (after_agent S n t.state t.sends r.history) k n l more e heeded r.holds)

-- ---- an agent stops

-- it says Closed as it should
pub stop-handler : (S : State) (n : ℕ) (t : Turn AgentState) → WordsHold S → 0 < agent_start S n → t.state ≡ new_agent 0
    → ((g : ℕ) → t.sends (Agent g) ≡ (stops S.deployment n (agent_start S n)).sends (Agent g))
    → ((b : Actor) → AllByRecursion (StopsSay (agent_start S n)) (t.sends b)) → WordsTurn Nobody S n t
stop-handler S n t H up e sends says = handler-plain S n t (inr e) (stops-holds S n t up e
    (λ g i o. sends g ∙ stops-sends S.deployment n (agent_start S n) g i o)
    (λ g o. sends g ∙ stops-sends-none S.deployment n (agent_start S n) g o) H)
    (λ b. stops-shown (after_agent S n t.state t.sends S.history) (agent_start S n) gone b (t.sends b) (says b))
  where
    owner : S.owner (agent_start S n) ≡ n
    owner = ((H.hosts n).running up).0

    gone : Gone (after_agent S n t.state t.sends S.history) (agent_start S n)
    gone = (
      begun-after S n t.state t.sends S.history (λ k x i. i) (agent_start S n) (begun-running S n H up),
      λ r. absurd (omega (
        arith,
        up,
        sym (ap (λ x. x.start) (subst (λ z. (after_agent S n t.state t.sends S.history).agents z ≡ new_agent 0) (sym owner)
            (agent-there S n t.state t.sends S.history ∙ e))) ∙ r,
      )),
    )

-- ---- an agent's own word becomes another one

module _ (S : State) (H : WordsHold S) (n : ℕ) (w v : Membership) (heard : ℕ → Option Membership)
    (up : 0 < agent_start S n) (own : (S.agents n).own ≡ Some w) (low : Within w v) (good : GoodWord S v)
    (hears : (k : ℕ) → OnSome (SaidBy S k) (heard k)) where
  abbrev speaker : AgentState
  speaker = record (S.agents n) { own = Some v; said = heard }

  -- a member says it
  pub own-handler : names v (agent_start S n) ≡ true → ((y : Admitted) → In y S.history.admitted → is_in y.by v.lost ≡ true → admits v y.start ≡ true)
      → WordsTurn Nobody S n (says S.deployment n speaker (Some v))
  own-handler member knows = record {
    history = record S.history { said = said_more S.history.said (agent_start S n) v };
    goes = inl (refl, up);
    first = refl;
    began = refl;
    said = grows;
    took_word = λ s u e. e;
    decided = λ u i. i;
    admitted = λ y i. i;
    admits = λ y i. inl i;
    by = λ y i. inl i;
    holds = says-holds S H n w v heard (says S.deployment n speaker (Some v)).sends S.history.admitted up own low member hears (λ g. refl) (λ y i. i) (λ y i. inl i)
        (good-later S T later v good) (λ y i. admitted_ok-later S T later y (H.history.admitted_ok y i)) H.history.once H.history.one_each H.history.nothing_between knows;
    shown = says-shown T n speaker v;
  }
    where
      grows : (s : ℕ) (u : Membership) → In u (S.history.said s) → In u (said_more S.history.said (agent_start S n) v s)
      grows s u i = said-both (λ k us. (u : Membership) → In u (S.history.said k) → In u us) S.history.said (agent_start S n) v (λ y i. inr i) (λ k d y i. i) s u i

      T : State
      T = after_agent S n speaker (says S.deployment n speaker (Some v)).sends (record S.history { said = said_more S.history.said (agent_start S n) v })

      later : WordsLater S T
      later = later-after S n speaker (says S.deployment n speaker (Some v)).sends (record S.history { said = said_more S.history.said (agent_start S n) v }) (inl refl) refl refl grows (λ s u e. e) (λ u i. i) (λ y i. i)

  silent-words : names v (agent_start S n) ≡ false → (g : ℕ) → said_to S.deployment n (agent_start S n) v g ≡ []
  silent-words other g = elim (cases_Bool (is_member v n (agent_start S n))) [
    | inl m ↦ absurd (not-both (names v (agent_start S n)) (member-is S H.history v n (agent_start S n) good (is_member-start v n (agent_start S n) m)).0 other)
    | inr m ↦ rw m refl
  ]

  -- a joiner says nothing
  pub silent-handler : names v (agent_start S n) ≡ false → ((y : Admitted) → In y S.history.admitted → names y.at (agent_start S n) ≡ true → is_in y.by v.lost ≡ true → admits v y.start ≡ true)
      → WordsTurn Nobody S n (says S.deployment n speaker (Some v))
  silent-handler other knows = handler-plain S n (says S.deployment n speaker (Some v)) (inl (refl, up))
      (grows-holds S H n w v heard (says S.deployment n speaker (Some v)).sends up own low other good hears knows (silent-words other))
      (says-shown (after_agent S n speaker (says S.deployment n speaker (Some v)).sends S.history) n speaker v)

-- ---- Closed

module _ (S : State) (H : WordsHold S) (n k o : ℕ) (l : Letter) (ls : List Letter) (up : 0 < agent_start S n)
    (is : S.channel (Agent k) (Agent n) ≡ record l { body = msg.Closed o } ∷ ls) where
  gone : Gone S o
  gone = (subst (AllByRecursion (LetterOk S k n)) is (H.channels k n).letters).0.2

  from : S.owner o ≡ k
  from = (subst (AllByRecursion (LetterOk S k n)) is (H.channels k n).letters).0.3

  owned : S.owner (agent_start S n) ≡ n
  owned = ((H.hosts n).running up).0

  -- what the agent does with it, and says then
  abbrev closed-turn : Turn AgentState
  closed-turn = becomes (on_closed (S.agents n) (S.agents n).own o) ▸ tells S.deployment n (S.agents n).own

  -- what the initiator of an admission said to it came before
  closed-told : (w : Membership) → (S.agents n).own ≡ Some w → (y : Admitted) → In y S.history.admitted → names y.at (agent_start S n) ≡ true
      → is_in y.by (with_lost o w).lost ≡ true → admits w y.start ≡ true
  closed-told w own y i named lost = elim (H.told y i (agent_start S n) named other (ap (agent_start S) owned)) [
    | inl k ↦ subst (λ z. admits z y.start ≡ true) (same-some (sym k.1 ∙ ap (λ z. (S.agents z).own) owned ∙ own)) k.2
    | inr t ↦ elim (in-with_lost o y.by w lost) [
      | inl e ↦ absurd (blocked e t.0)
      | inr l ↦ absurd (t.1 w (ap (λ z. (S.agents z).own) owned ∙ own) l)
    ]
  ]
    where
      good : GoodWord S (with_lost o w)
      good = good-lost S o w gone (some-here (OwnOk S (agent_start S n)) (S.agents n).own w own (H.agents n).own).good

      other : agent_start S n ≡ y.by → ⊥
      other e = not-both (is_in (agent_start S n) (with_lost o w).lost) (subst (λ z. is_in z (with_lost o w).lost ≡ true) (sym e) lost)
          (runs-not-lost S H.history (with_lost o w) (agent_start S n) good (ap (agent_start S) owned))

      blocked : o ≡ y.by → Telling (agent_start S n) y.start y.by (S.channel (Agent (S.owner y.by)) (Agent (S.owner (agent_start S n)))) → ⊥
      blocked e t =
          let u : Telling (agent_start S n) y.start y.by (record l { body = msg.Closed o } ∷ ls) =
          subst (Telling (agent_start S n) y.start y.by) is
          (subst (λ z. Telling (agent_start S n) y.start y.by (S.channel (Agent z) (Agent n))) (sym (ap S.owner e) ∙ from)
          (subst (λ z. Telling (agent_start S n) y.start y.by (S.channel (Agent (S.owner y.by)) (Agent z))) owned t)) in
          elim u [ inl p ↦ p | inr p ↦ p.0 e ]

  pub closed-handler : WordsTurn Nobody (agent_popped S (Agent k) n) n closed-turn
  closed-handler = go (S.agents n).own refl
    where
      stays : closed-turn ≡ becomes (S.agents n)
          → (0 < agent_start S n → OwnLost o (S.agents n) ⊎ ((u : Membership) → In u (S.history.said o) → names u (agent_start S n) ≡ false))
          → WordsTurn Nobody (agent_popped S (Agent k) n) n closed-turn
      stays e heeded = subst (WordsTurn Nobody (agent_popped S (Agent k) n) n) (sym e)
          (stay-handler (agent_popped S (Agent k) n) n (inl (refl, up)) (pops S k n (record l { body = msg.Closed o }) ls is heeded H))

      grown : (w : Membership) → (S.agents n).own ≡ Some w → (t : Turn AgentState) → closed-turn ≡ t
          → t.state ≡ record (S.agents n) { own = Some (with_lost o w) } → WordsTurn Nobody S n t → WordsTurn Nobody (agent_popped S (Agent k) n) n closed-turn
      grown w own t e state r = subst (WordsTurn Nobody (agent_popped S (Agent k) n) n) (sym e)
          (pop-handler S n k (record l { body = msg.Closed o }) ls t is r
          (λ up. inl (with_lost o w, ap (λ a. a.own) (agent-there S n t.state t.sends r.history ∙ state), with_lost-in o w)))

      go : (z : Option Membership) → (S.agents n).own ≡ z → WordsTurn Nobody (agent_popped S (Agent k) n) n closed-turn
      go None e = stays (ap (λ z. becomes (on_closed (S.agents n) z o) ▸ tells S.deployment n z) e ∙ tells-same S.deployment n None (S.agents n) (ap (is_other_word None) e))
          (λ u. inr (λ w i. elim (cases_Bool (names w (agent_start S n))) [
            | inl m ↦ absurd (unnamed-not S (agent_start S n) w (said-good S H.history o w i) m ((H.agents n).alone up e).0)
            | inr m ↦ m
          ]))
      go (Some w) e = elim (cases_Bool (is_other_word (Some w) (Some (with_lost o w)))) [
        | inl other ↦ grown w e (says S.deployment n (record (S.agents n) { own = Some (with_lost o w) }) (Some (with_lost o w)))
            (ap (λ z. becomes (on_closed (S.agents n) z o) ▸ tells S.deployment n z) e ∙ says-word S.deployment n (record (S.agents n) { own = Some (with_lost o w) }) (Some w) (with_lost o w) refl other) refl
            (elim (cases_Bool (names (with_lost o w) (agent_start S n))) [
              | inl m ↦ own-handler S H n w (with_lost o w) (S.agents n).said up e (within-with_lost o w) (good w e) (H.agents n).heard m
                  (λ y i l. knows-told S H.history y i (agent_start S n) w (with_lost o w) (good w e) m (within-with_lost o w) (λ q. closed-told w e y i q l))
              | inr m ↦ silent-handler S H n w (with_lost o w) (S.agents n).said up e (within-with_lost o w) (good w e) (H.agents n).heard m
                  (λ y i q l. (within-with_lost o w).admitted y.start (closed-told w e y i q l))
            ])
        | inr other ↦ let same = is_other_word-equal w (with_lost o w) refl other in
            stays (ap (λ z. becomes (on_closed (S.agents n) z o) ▸ tells S.deployment n z) e
            ∙ tells-same S.deployment n (Some w) (record (S.agents n) { own = Some (with_lost o w) }) other
            ∙ ap (λ z. becomes (record (S.agents n) { own = z })) (ap Some (sym same) ∙ sym e))
            (λ u. inl (w, e, subst (λ z. is_in o z.lost ≡ true) (sym same) (with_lost-in o w)))
      ]
        where
          good : (w : Membership) → (S.agents n).own ≡ Some w → GoodWord S (with_lost o w)
          good w e = good-lost S o w gone (some-here (OwnOk S (agent_start S n)) (S.agents n).own w e (H.agents n).own).good

-- ---- Word

module _ (S : State) (H : WordsHold S) (n k base : ℕ) (lost : List ℕ) (admitted : List (ℕ × ℕ)) (l : Letter) (ls : List Letter) (up : 0 < agent_start S n)
    (is : S.channel (Agent k) (Agent n) ≡ record l { body = msg.Word base lost admitted } ∷ ls) (meant : (l.start ≡ 0) ⊎ (l.start ≡ agent_start S n)) where
  -- the word, as a word of the epoch
  abbrev told : Membership
  told = record S.history.first { lost = lost; admitted = admitted }

  letter : LetterOk S k n (record l { body = msg.Word base lost admitted })
  letter = (subst (AllByRecursion (LetterOk S k n)) is (H.channels k n).letters).0

  heard-good : GoodWord S told
  heard-good = said-good S H.history letter.2.0 told letter.2.2

  names-here : names told (agent_start S n) ≡ true
  names-here =
      let m = member-is S H.history told n l.start heard-good letter.3 in
      elim meant [
        | inl z ↦ absurd (omega (arith, z, (heard-good.named_begun l.start m.0).some))
        | inr e ↦ subst (λ z. names told z ≡ true) e m.0
      ]

  module _ (w : Membership) (own : (S.agents n).own ≡ Some w) where
    -- the word as the agent reads it, with its own base and its own first hosts
    abbrev read : Membership
    read = record w { lost = lost; admitted = admitted }

    own-good : GoodWord S w
    own-good = (some-here (OwnOk S (agent_start S n)) (S.agents n).own w own (H.agents n).own).good

    spelled : read ≡ told
    spelled = ap {A = ℕ} {B = Membership} (λ z. record w { base = z; lost = lost; admitted = admitted }) own-good.base
        ∙ ap {A = List (ℕ × ℕ)} {B = Membership} (λ z. record w { base = S.history.first.base; first = z; lost = lost; admitted = admitted }) own-good.first

    read-good : GoodWord S read
    read-good = subst (GoodWord S) (sym spelled) heard-good

    abbrev v : Membership
    v = union read w

    v-good : GoodWord S v
    v-good = good-union S read w read-good own-good

    abbrev heard : ℕ → Option Membership
    heard h = if h == k then Some read else (S.agents n).said h

    abbrev hearer : AgentState
    hearer = record (S.agents n) { own = Some v; said = heard }

    hears : (h : ℕ) → OnSome (SaidBy S h) (heard h)
    hears h = choice (h == k) refl
      where
        choice : (b : Bool) → (h == k) ≡ b → OnSome (SaidBy S h) (if b then Some read else (S.agents n).said h)
        choice true e = subst (λ z. SaidBy S z read) (sym (eqb-true h k e)) (subst (SaidBy S k) (sym spelled) letter.2)
        choice false e = (H.agents n).heard h

    low : Within w v
    low = within-union-right read w

    member : names v (agent_start S n) ≡ true
    member = names-within read v (agent_start S n) refl
        (within-union-left read w)
        (subst (λ z. names z (agent_start S n) ≡ true) (sym spelled) names-here)

    owned-here : S.owner (agent_start S n) ≡ n
    owned-here = ((H.hosts n).running up).0

    -- who is lost in its word by what it heard before
    word-told : (y : Admitted) → In y S.history.admitted → is_in y.by w.lost ≡ true → names y.at (agent_start S n) ≡ true → admits w y.start ≡ true
    word-told y i q named = elim (H.told y i (agent_start S n) named other (ap (agent_start S) owned-here)) [
      | inl k ↦ subst (λ z. admits z y.start ≡ true) (same-some (sym k.1 ∙ ap (λ z. (S.agents z).own) owned-here ∙ own)) k.2
      | inr t ↦ absurd (t.1 w (ap (λ z. (S.agents z).own) owned-here ∙ own) q)
    ]
      where
        other : agent_start S n ≡ y.by → ⊥
        other e = not-both (is_in (agent_start S n) w.lost) (subst (λ z. is_in z w.lost ≡ true) (sym e) q) (runs-not-lost S H.history w (agent_start S n) own-good (ap (agent_start S) owned-here))

    knows : (y : Admitted) → In y S.history.admitted → is_in y.by v.lost ≡ true → admits v y.start ≡ true
    knows y i q = elim (lost-union read w y.by q) [
      | inl p ↦ (within-union-left read w).admitted y.start
          (H.history.knows letter.2.0 told letter.2.2 y i p)
      | inr p ↦ knows-told S H.history y i (agent_start S n) w v v-good member low (word-told y i p)
    ]

    base-same : (w.base == base) ≡ true
    base-same = subst (λ z. (w.base == z) ≡ true) (own-good.base ∙ sym letter.1) (eqb-same w.base)

    handler-is : becomes (on_word (S.agents n) (Some w) k base lost admitted) ▸ tells S.deployment n (Some w)
        ≡ tells S.deployment n (Some w) hearer
    handler-is = rw base-same refl

    tells-handler : WordsTurn Nobody S n (tells S.deployment n (Some w) hearer)
    tells-handler = elim (cases_Bool (is_other_word (Some w) (Some v))) [
      | inl other ↦ subst (WordsTurn Nobody S n) (sym (says-word S.deployment n hearer (Some w) v refl other)) (own-handler S H n w v heard up own low v-good hears member knows)
      | inr other ↦
          let same = is_other_word-equal w v refl other in
          subst (WordsTurn Nobody S n) (sym (tells-same S.deployment n (Some w) hearer other))
          (subst (λ z. WordsTurn Nobody S n (becomes (record (S.agents n) { own = z; said = heard }))) (own ∙ ap Some same)
          (handler-plain S n (becomes (record (S.agents n) { said = heard })) (inl (refl, up)) (heard-holds S H n heard up hears) (λ b. tt)))
    ]

  -- what the agent does with it, and says then
  abbrev word-turn : Turn AgentState
  word-turn = becomes (on_word (S.agents n) (S.agents n).own k base lost admitted) ▸ tells S.deployment n (S.agents n).own

  pub word-handler : WordsTurn Nobody (agent_popped S (Agent k) n) n word-turn
  word-handler = go (S.agents n).own refl
    where
      go : (z : Option Membership) → (S.agents n).own ≡ z → WordsTurn Nobody (agent_popped S (Agent k) n) n word-turn
      go None e = subst (WordsTurn Nobody (agent_popped S (Agent k) n) n)
          (sym (ap (λ z. becomes (on_word (S.agents n) z k base lost admitted) ▸ tells S.deployment n z) e ∙ tells-same S.deployment n None (S.agents n) (ap (is_other_word None) e)))
          (stay-handler (agent_popped S (Agent k) n) n (inl (refl, up)) (pops S k n (record l { body = msg.Word base lost admitted }) ls is (λ u m. inl e) H))
      go (Some w) e =
          let t = tells S.deployment n (Some w) (hearer w e) in
          let r = tells-handler w e in
          subst (WordsTurn Nobody (agent_popped S (Agent k) n) n) (sym (ap (λ z. becomes (on_word (S.agents n) z k base lost admitted) ▸ tells S.deployment n z) e ∙ handler-is w e))
          (pop-handler S n k (record l { body = msg.Word base lost admitted }) ls t is r
          (λ u m. inr (λ j q. (
            v w e,
            ap (λ a. a.own) (agent-there S n t.state t.sends r.history
                ∙ tells-state S.deployment n (Some w) (hearer w e)),
            (within-union-left (read w e) w).admitted j q,
          ))))

-- ---- Decided

module _ (P : State) (H : WordsHold P) (n : ℕ) (w : Membership) (up : 0 < agent_start P n) (decided : In w P.history.decided) where
  tells-nothing : (n : ℕ) (before : Option Membership) → tells P.deployment n before (new_agent 0) ≡ becomes (new_agent 0)
  tells-nothing n before = choice (is_other_word before None)
    where
      choice : (b : Bool) → (if b then says P.deployment n (new_agent 0) None else becomes (new_agent 0)) ≡ becomes (new_agent 0)
      choice true = refl
      choice false = refl

  unchanged : WordsTurn Nobody P n (becomes (P.agents n) ▸ tells P.deployment n (P.agents n).own)
  unchanged = subst (WordsTurn Nobody P n) (sym (tells-same P.deployment n (P.agents n).own (P.agents n) (other-self (P.agents n).own))) (stay-handler P n (inl (refl, up)) H)

  stops-then : WordsTurn Nobody P n (stops_with_host P.deployment n (agent_start P n) ▸ tells P.deployment n (P.agents n).own)
  stops-then = subst (WordsTurn Nobody P n) (sym (then-inert (stops_with_host P.deployment n (agent_start P n)) (tells P.deployment n (P.agents n).own) (tells-nothing n (P.agents n).own)))
      (stop-handler P n (stops_with_host P.deployment n (agent_start P n)) H up refl (λ g. stops_with_host-closed P.deployment n (agent_start P n) g)
      (stops_with_host-say P.deployment n (agent_start P n)))

  abbrev joiner : AgentState
  joiner = record (P.agents n) { own = Some w; taken = Some w }

  -- a joiner takes its first word
  takes : (P.agents n).own ≡ None → (P.agents n).taken ≡ None → WordsTurn Nobody P n (takes_word P.deployment n (P.agents n) w ▸ tells P.deployment n (P.agents n).own)
  takes own taken = record {
    history = record P.history { took = λ r. if r == agent_start P n then Some w else P.history.took r };
    goes = inl (ap (λ u. u.state.start) turn-is, up);
    first = refl;
    began = refl;
    said = λ s u i. i;
    took_word = grows;
    decided = λ u i. i;
    admitted = λ x i. i;
    admits = λ x i. inl i;
    by = λ x i. inl i;
    holds = subst (λ u. WordsHold (after_agent P n u.state u.sends (record P.history { took = λ r. if r == agent_start P n then Some w else P.history.took r }))) (sym turn-is)
        (takes_word-holds P H n w (λ b. (takes_word P.deployment n (P.agents n) w).sends b ++ (says P.deployment n joiner (Some w)).sends b) up own taken decided silent);
    shown = λ b. subst (λ u. AllByRecursion (ShownOk (after_agent P n u.state u.sends G) b) (u.sends b)) (sym turn-is) (shows b);
  }
    where
      G : History
      G = record P.history { took = λ r. if r == agent_start P n then Some w else P.history.took r }

      T : State
      T = after_agent P n joiner (λ b. (takes_word P.deployment n (P.agents n) w).sends b ++ (says P.deployment n joiner (Some w)).sends b) G

      -- it shows the word to its sites
      shows : (b : Actor) → AllByRecursion (ShownOk T b) ((takes_word P.deployment n (P.agents n) w).sends b ++ (says P.deployment n joiner (Some w)).sends b)
      shows (Site c) = all-append (ShownOk T (Site c)) (if is_slot_of P.deployment n c then open_letter (msg.Start (agent_start P n)) ∷ letter_to (agent_start P n) (msg.View w) ∷ [] else []) []
          (all-if (ShownOk T (Site c)) (is_slot_of P.deployment n c) _ [] (tt, (decided, tt)) tt) tt
      shows (Agent g) = all-from (ShownOk T (Agent g)) _ (λ l i. tt)
      shows Director = tt
      shows (Client c) = tt
      shows (Scanner c) = tt

      good : GoodWord P w
      good = H.history.decided_good w decided

      unnamed : names w (agent_start P n) ≡ false
      unnamed = elim (cases_Bool (names w (agent_start P n))) [
        | inl m ↦ absurd (unnamed-not P (agent_start P n) w good m ((H.agents n).alone up own).0)
        | inr m ↦ m
      ]

      turn-is : takes_word P.deployment n (P.agents n) w ▸ tells P.deployment n (P.agents n).own
          ≡ record {
            state = joiner;
            sends = λ b. (takes_word P.deployment n (P.agents n) w).sends b ++ (says P.deployment n joiner (Some w)).sends b;
          }
      turn-is = ap (λ u. record { state = u.state; sends = λ b. (takes_word P.deployment n (P.agents n) w).sends b ++ u.sends b })
          (says-word P.deployment n joiner (P.agents n).own w refl (ap (λ z. is_other_word z (Some w)) own))

      not-member : is_member w n (agent_start P n) ≡ false
      not-member = elim (cases_Bool (is_member w n (agent_start P n))) [
        | inl m ↦ absurd (not-both (names w (agent_start P n)) (member-is P H.history w n (agent_start P n) good (is_member-start w n (agent_start P n) m)).0 unnamed)
        | inr m ↦ m
      ]

      silent : (g : ℕ) → (takes_word P.deployment n (P.agents n) w).sends (Agent g) ++ (says P.deployment n joiner (Some w)).sends (Agent g) ≡ []
      silent g = rw not-member refl

      grows : (s : ℕ) (u : Membership) → P.history.took s ≡ Some u → (if s == agent_start P n then Some w else P.history.took s) ≡ Some u
      grows = took-keeps P.history.took (agent_start P n) w ((H.agents n).untaken up taken)

  -- a joiner that is passed over stops
  unless-passed : (c : Bool) → WordsTurn Nobody P n (takes_word P.deployment n (P.agents n) w ▸ tells P.deployment n (P.agents n).own)
      → WordsTurn Nobody P n ((if c then stops_with_host P.deployment n (agent_start P n) else takes_word P.deployment n (P.agents n) w) ▸ tells P.deployment n (P.agents n).own)
  unless-passed true k = stops-then
  unless-passed false k = k

  pub decided-handler : WordsTurn Nobody P n (on_decided P.deployment n (P.agents n) (P.agents n).decided (P.agents n).taken w ▸ tells P.deployment n (P.agents n).own)
  decided-handler = go (P.agents n).decided (P.agents n).taken refl refl
    where
      go : (d t : Option Membership) → (P.agents n).decided ≡ d → (P.agents n).taken ≡ t
          → WordsTurn Nobody P n (on_decided P.deployment n (P.agents n) (P.agents n).decided (P.agents n).taken w ▸ tells P.deployment n (P.agents n).own)
      go (Some d) t e f = subst (λ z. WordsTurn Nobody P n (on_decided P.deployment n (P.agents n) z (P.agents n).taken w ▸ tells P.deployment n (P.agents n).own)) (sym e) unchanged
      go None None e f = subst (λ z. WordsTurn Nobody P n (on_decided P.deployment n (P.agents n) z (P.agents n).taken w ▸ tells P.deployment n (P.agents n).own)) (sym e)
          (subst (λ z. WordsTurn Nobody P n (on_decided P.deployment n (P.agents n) None z w ▸ tells P.deployment n (P.agents n).own)) (sym f)
          (unless-passed (is_passed_over (agent_start P n) w) (takes ((H.agents n).joins e f) f)))
      go None (Some t) e f = subst (λ z. WordsTurn Nobody P n (on_decided P.deployment n (P.agents n) z (P.agents n).taken w ▸ tells P.deployment n (P.agents n).own)) (sym e)
          (subst (λ z. WordsTurn Nobody P n (on_decided P.deployment n (P.agents n) None z w ▸ tells P.deployment n (P.agents n).own)) (sym f)
          (elim (on_decided-joiner P.deployment n (P.agents n) t w) [
            | inl s ↦ subst (λ z. WordsTurn Nobody P n (z ▸ tells P.deployment n (P.agents n).own)) (sym s) stops-then
            | inr b ↦ subst (λ z. WordsTurn Nobody P n (z ▸ tells P.deployment n (P.agents n).own)) (sym b) unchanged
          ]))
