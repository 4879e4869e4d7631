-- The initiator admits a start: what holds, holds after that.
use Rattle.std.proofs.Common.{◌≡◌, ◌<◌, true, false, List, [], ◌∷◌, refl, sym, subst, ap, ◌∙◌, inl, inr, ◌==◌}
use Rattle.std.proofs.lemmas.Bool.{cases_Bool}
use Rattle.std.specs.Prelude.{ℕ, Some}
use Rattle.std.specs.List.{AllByRecursion}
use Rattle.volt_wire.specs.Word.{Membership}
use Rattle.volt_wire.specs.declared.actor.Actor.TheVariants.{Agent}
use Rattle.volt_wire.specs.declared.message.Msg.TheVariants as msg
use Rattle.cluster_model.specs.Words.{is_in, start_of, initiator, term_of, same_word, with_admitted}
use Rattle.cluster_model.specs.Letters.{Letter, Sends}
use Rattle.cluster_steps.specs.Lists.{In}
use Rattle.word_laws.specs.Histories.{State, Admitted, Within, Alike, names, agent_start, Begun, IsRunning, Gone, Distinct, Earlier, Falls, GoodWord, ClosesFrom, CameOk, OwnOk, AdmittedOk, IsClosed, ClosedUnderWay, WordsHold}
use Rattle.cluster_steps.proofs.Lists.{some-here, not-both, eqb-same, same-some, all-at}
use Rattle.word_laws.proofs.Algebra.{within-refl, within-with_admitted, with_admitted-admits, names-within, names-admits, same_word-is}
use Rattle.word_laws.proofs.Moves.{WordsLater}
use Rattle.word_laws.proofs.Agreement.{term-same, at-good, alike-same, member-of, running-member, runs-not-lost}
use Rattle.word_laws.proofs.Laters.{admitted_ok-later}
use Rattle.word_laws.proofs.Steps.{later-after, last-not-earlier}
use Rattle.word_laws.proofs.OwnWords.{said_to, said_more, spoken, NewHere, said-both, says-holds}
use Rattle.word_laws.proofs.Goods.{good-admitted}

-- no start came before itself
pub not-earlier-self : (j : ℕ) (xs : List ℕ) → Distinct xs → Earlier j j xs → ⊥
not-earlier-self j [] d e = e
not-earlier-self j (x ∷ xs) d (inl e) = d.0 (subst (λ z. In z xs) (sym e.0) e.1)
not-earlier-self j (x ∷ xs) d (inr e) = not-earlier-self j xs d.1 e

-- no Closed of an earlier start is under way
pub not-closing : (began : List ℕ) (j o : ℕ) (ls : List Letter) → AllByRecursion (ClosesFrom began j) ls → Earlier o j began → ClosedUnderWay o ls → ⊥
not-closing began j o [] h e c = c
not-closing began j o (l ∷ ls) h e (inr c) = not-closing began j o ls h.1 e c
not-closing began j o (l ∷ ls) h e (inl c) = (elim l.body as (λ m. ClosesFrom began j (record l { body = m }) → IsClosed o (record l { body = m }) → ⊥) [
  | msg.Closed s ↦ λ k q. k (subst (λ z. Earlier z j began) (sym q) e)
  | m ↦ λ k q. q
]) h.0 c

module _ (S : State) (H : WordsHold S) (n : ℕ) (W V : Membership) (j h term : ℕ) (out : Sends)
    (up : 0 < agent_start S n) (own : (S.agents n).own ≡ Some W) (decided : (S.agents n).decided ≡ Some V) (same : same_word W V ≡ true)
    (init : initiator V ≡ Some (n, agent_start S n)) (came : CameOk S h n term j) (term_is : term_of W ≡ term) (over : (g r : ℕ) → start_of W g ≡ Some r → r < j)
    (sends : (g : ℕ) → out (Agent g) ≡ said_to S.deployment n (agent_start S n) (with_admitted j h W) g) where
  abbrev s : ℕ
  s = agent_start S n

  -- the word with the start
  abbrev X : Membership
  X = with_admitted j h W

  owned : S.owner s ≡ n
  owned = ((H.hosts n).running up).0

  runs : IsRunning S s
  runs = ap (agent_start S) owned

  own-ok : OwnOk S s W
  own-ok = some-here (OwnOk S s) (S.agents n).own W own (H.agents n).own

  decided-ok : In V S.history.decided × (names V s ≡ true)
  decided-ok = some-here (λ w. In w S.history.decided × (names w s ≡ true)) (S.agents n).decided V decided (H.agents n).decided

  word-decided : W ≡ V
  word-decided = same_word-is W V (own-ok.good.first ∙ sym (H.history.decided_good V decided-ok.0).first) same

  own-decided : In W S.history.decided
  own-decided = subst (λ z. In z S.history.decided) (sym word-decided) decided-ok.0

  own-names : names W s ≡ true
  own-names = subst (λ z. names z s ≡ true) (sym word-decided) decided-ok.1

  own-initiator : initiator W ≡ Some (n, s)
  own-initiator = subst (λ z. initiator z ≡ Some (n, s)) (sym word-decided) init

  said-now : (before : List Membership) × (S.history.said s ≡ W ∷ before)
  said-now = own-ok.member own-names

  own-said : In W (S.history.said s)
  own-said = subst (λ z. In W z) (sym said-now.1) (inl refl)

  -- what the initiator said is within its word
  said-within : (u : Membership) → In u (S.history.said s) → Within u W
  said-within u i = elim (subst (λ z. In u z) said-now.1 i) [
    | inl e ↦ subst (λ z. Within z W) e (within-refl W)
    | inr k ↦ all-at (λ x. Within x W) said-now.0 (subst (λ z. Falls z) said-now.1 (H.history.said_falls s)).0 u k
  ]

  -- it admitted nobody at this word yet
  none-at : (y : Admitted) → In y S.history.admitted → y.at ≡ W → ⊥
  none-at y i e =
      let k = H.history.admitted_ok y i in
      let by : y.by ≡ s = ap (λ p. p.1) (same-some (sym k.by_initiator ∙ ap initiator e ∙ own-initiator)) in
      let p = said-within (with_admitted y.start (S.owner y.start) y.at) (subst (λ z. In (with_admitted y.start (S.owner y.start) y.at) (S.history.said z)) by k.said) in
      not-both (names y.at y.start) (subst (λ z. names z y.start ≡ true) (sym e) (names-admits W y.start (p.admitted y.start (with_admitted-admits y.start (S.owner y.start) y.at)))) k.fresh

  word-is : came.0.word ≡ W
  word-is =
      let t = H.history.took_ok j came.0.word came.0.took in
      term-same S H.history came.0.word W (H.history.decided_good came.0.word t.0) own-ok.good (H.history.chain came.0.word W t.0 own-decided) (came.0.term_is ∙ sym term_is)

  earlier : (r : ℕ) → names W r ≡ true → S.owner r ≡ S.owner j → Earlier r j (S.history.began (S.owner j))
  earlier r m e = (H.history.took_ok j came.0.word came.0.took).2 r (subst (λ z. names z r ≡ true) (sym word-is) m) e

  -- the initiator's word doesn't name the start
  pub fresh : names W j ≡ false
  fresh = elim (cases_Bool (names W j)) [
    | inl m ↦ absurd (not-earlier-self j (S.history.began (S.owner j)) (H.hosts (S.owner j)).distinct (earlier j m refl))
    | inr m ↦ m
  ]

  pub not-admitted : (y : Admitted) → In y S.history.admitted → y.start ≡ j → ⊥
  not-admitted y i e =
      let k = H.history.admitted_ok y i in
      let w : k.word ≡ came.0.word = same-some (sym k.took ∙ ap S.history.took e ∙ came.0.took) in
      let t : term_of y.at ≡ term_of W = sym k.term_is ∙ ap term_of (w ∙ word-is) in
      none-at y i (term-same S H.history y.at W (at-good S H.history y i) own-ok.good (H.history.chain y.at W k.decided own-decided) t)

  -- other starts of its host are lost
  one-host : (r : ℕ) → names W r ≡ true → S.owner r ≡ S.owner j → is_in r W.lost ≡ true
  one-host r m e = elim (H.heard n r up gone apart) [
    | inl c ↦ absurd (not-closing (S.history.began h) j r (S.channel (Agent h) (Agent n)) came.1
        (subst (λ z. Earlier r j (S.history.began z)) came.0.owned (earlier r m e))
        (subst (λ z. ClosedUnderWay r (S.channel (Agent z) (Agent n))) (e ∙ came.0.owned) c))
    | inr k ↦ elim k [
      | inl l ↦ subst (λ z. is_in r z.lost ≡ true) (same-some (sym l.1 ∙ own)) l.2
      | inr f ↦ elim (cases_Bool (is_in r W.lost)) [
        | inl l ↦ l
        | inr l ↦ absurd (not-both (names W s) own-names
            (f W (H.history.members_said W own-decided (S.owner r) r (member-of S H.history W r own-ok.good m l))))
      ]
    ]
  ]
    where
      begun : Begun S r
      begun = own-ok.good.named_begun r m

      gone : Gone S r
      gone = (
        begun,
        λ runs. let up : 0 < agent_start S (S.owner r) = subst (λ z. 0 < z) (sym runs) begun.some in
            let l = (H.hosts (S.owner r)).last up in
            let d : Distinct (r ∷ l.0) = subst (λ z. Distinct (z ∷ l.0)) runs (subst Distinct l.1 (H.hosts (S.owner r)).distinct) in
            last-not-earlier r j l.0 d (subst (λ z. Earlier r j (z ∷ l.0)) runs (subst (Earlier r j) l.1 (subst (λ z. Earlier r j (S.history.began z)) (sym e) (earlier r m e)))),
      )

      apart : S.owner r ≡ n → ⊥
      apart q = not-both (h == n) (subst (λ z. (h == z) ≡ true) (sym came.0.owned ∙ sym e ∙ q) (eqb-same h)) came.0.other

  abbrev x : Admitted
  x = record { start = j; by = s; at = W }

  abbrev A : List Admitted
  A = x ∷ S.history.admitted

  -- the state after it
  abbrev T : State
  T = spoken S n X (S.agents n).said out A

  later : WordsLater S T
  later = later-after S n (record (S.agents n) { own = Some X; said = (S.agents n).said }) out
      (record S.history { said = said_more S.history.said s X; admitted = A })
      (inl refl) refl refl
      (λ r u i. said-both (λ k us. (u : Membership) → In u (S.history.said k) → In u us) S.history.said s X (λ y i. inr i) (λ k d y i. i) r u i)
      (λ r u e. e) (λ u i. i) (λ y i. inr i)

  good : GoodWord T X
  good = subst (λ z. GoodWord T (with_admitted j z W)) came.0.owned (good-admitted S T later x W own-ok.good came.0.begun (inl refl) refl)

  said-last : In X (said_more S.history.said s X s)
  said-last = said-both (λ r us. r ≡ s → In X us) S.history.said s X (λ e. inl refl) (λ r d e. absurd (d e)) s refl

  new-ok : AdmittedOk T x
  new-ok = record {
    decided = own-decided;
    by_initiator = own-initiator ∙ ap (λ z. Some (z, s)) (sym owned);
    fresh = fresh;
    said = subst (λ z. In (with_admitted j z W) (said_more S.history.said s X s)) (sym came.0.owned) said-last;
    word = came.0.word;
    took = came.0.took;
    term_is = ap term_of word-is;
    begun = later.begun j came.0.begun;
    one_host = one-host;
    above = over;
  }

  -- The initiator admits a start, and says so.
  pub admits-holds : WordsHold T
  admits-holds =
      says-holds S H n W X (S.agents n).said out A up own (within-with_admitted j h W)
      (names-within W X s refl (within-with_admitted j h W) own-names)
      (H.agents n).heard sends (λ y i. inr i)
      (λ y i. elim i [
        | inl e ↦ inr (subst (NewHere S n X) e (record {
          by = refl;
          within = within-with_admitted j h W;
          holds = with_admitted-admits j h W;
          word = came.0.word;
          took = came.0.took;
        }))
        | inr k ↦ inl k
      ])
      good
      (λ y i. elim i [ inl e ↦ subst (AdmittedOk T) e new-ok | inr k ↦ admitted_ok-later S T later y (H.history.admitted_ok y k) ])
      (λ y z i k e. elim i [
        | inl p ↦ elim k [
          | inl q ↦ sym p ∙ q
          | inr k ↦ absurd (not-admitted z k (sym e ∙ ap (λ u. u.start) (sym p)))
        ]
        | inr i ↦ elim k [
          | inl q ↦ absurd (not-admitted y i (e ∙ ap (λ u. u.start) (sym q)))
          | inr k ↦ H.history.once y z i k e
        ]
      ])
      (λ y z i k e. elim i [
        | inl p ↦ elim k [
          | inl q ↦ sym p ∙ q
          | inr k ↦ absurd (none-at z k (sym (alike-same S H.history W z.at own-ok.good (at-good S H.history z k) (subst (λ u. Alike u.at z.at) (sym p) e))))
        ]
        | inr i ↦ elim k [
          | inl q ↦ absurd (none-at y i (alike-same S H.history y.at W (at-good S H.history y i) own-ok.good (subst (λ u. Alike y.at u.at) (sym q) e)))
          | inr k ↦ H.history.one_each y z i k e
        ]
      ])
      (λ u d y i p q. elim i [
        | inl e ↦ absurd (subst (λ z. (Within u z.at → ⊥)) (sym e) q (above u d (subst (λ z. Within z.at u) (sym e) p)))
        | inr k ↦ H.history.nothing_between u d y k p q
      ])
      (λ y i l. elim i [
        | inl e ↦ absurd (not-both (is_in s W.lost) (subst (λ z. is_in z.by W.lost ≡ true) (sym e) l) (runs-not-lost S H.history W s own-ok.good runs))
        | inr k ↦ (within-with_admitted j h W).admitted y.start (H.history.knows s W own-said y k l)
      ])
    where
      -- a decided word above it is one that the initiator said
      above : (u : Membership) → In u S.history.decided → Within W u → Within u W
      above u d p = said-within u (H.history.members_said u d (S.owner s) s
          (running-member S H.history u s (H.history.decided_good u d)
          (names-within W u s (own-ok.good.first ∙ sym (H.history.decided_good u d).first) p own-names) runs))
