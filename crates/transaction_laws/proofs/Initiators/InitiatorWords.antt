-- Initiators of words: one that runs is the initiator of each later word, and so no two agents that run are initiators.
use Rattle.word_laws.specs.Histories as word
use Rattle.transaction_laws.proofs.Names.{Database, Firm, GoodWord, HeardOk, In, Initiates, LogState, Membership, None, Option, Some, State, Transactions, Within, admits-firsts, ap, arith, cases_eq, decides-above, epoch_base, false, firsts, initiator, initiator-lasts, inl, inr, is_in, is_member-start, length-map, may_decide, may_decide-cases, member-is, names, refl, runs-not-lost, same-some, sent_term, some-here, subset-length, subst, sym, term-same, term_in, term_of, true, within-refl, ℕ, ◌<◌, ◌∙◌, ◌≡◌, ◌≤◌}

-- of two words, one within the other: the other is of no lower term
within-term : (S : State) (v w : Membership) → GoodWord S v → GoodWord S w → Within v w → term_of v ≤ term_of w
within-term S v w g k h =
    let lost = (subset-length 0 v.lost w.lost g.lost_rises k.lost_rises h.lost).0 in
    let admitted = (subset-length 0 (firsts v.admitted) (firsts w.admitted) g.admitted_rises k.admitted_rises
    (λ s i. sym (admits-firsts w s) ∙ h.admitted s (admits-firsts v s ∙ i))).0 in
    let n = length-map v.admitted (λ a. a.0) in
    let m = length-map w.admitted (λ a. a.0) in
    omega (arith, lost, admitted, n, m, g.base, k.base)

-- ---- agents that run

-- a start whose agent runs is lost in no decided word
running-unlost : (S : State) → word.WordsHold S → (n : ℕ) → 0 < word.agent_start S n → (w : Membership) → In w S.history.decided → is_in (word.agent_start S n) w.lost ≡ false
running-unlost S H n up w d = runs-not-lost S H.history w (word.agent_start S n) (H.history.decided_good w d) (ap (word.agent_start S) ((H.hosts n).running up).0)

-- what an agent has decided was decided
pub has-decided : (S : State) → word.WordsHold S → (n : ℕ) (w : Membership) → (S.agents n).decided ≡ Some w → In w S.history.decided
has-decided S H n w e = (some-here (λ x. In x S.history.decided × (names x (S.agents n).start ≡ true)) (S.agents n).decided w e (H.agents n).decided).0

-- No two agents that run are initiators of the words that they have decided.
pub one-initiator : (S : LogState) → word.WordsHold S.words → (h g : ℕ) (w v : Membership) → Initiates S h w → Initiates S g v → h ≡ g
one-initiator S H h g w v i k = elim (H.history.chain w v dw dv) [
  | inl p ↦ ap (λ z. z.0) (same-some (sym (initiator-lasts S.words H.history w h (word.agent_start S.words h) dw i.initiates v dv p (running-unlost S.words H h i.runs v dv)) ∙ k.initiates))
  | inr p ↦ ap (λ z. z.0) (same-some (sym i.initiates ∙ initiator-lasts S.words H.history v g (word.agent_start S.words g) dv k.initiates w dw p (running-unlost S.words H g k.runs w dw)))
]
  where
    dw : In w S.words.history.decided
    dw = has-decided S.words H h w i.has_decided

    dv : In v S.words.history.decided
    dv = has-decided S.words H g v k.has_decided

-- ---- an agent decides a word

-- T comes after S, in which the agent of host n may decide v; there that is decided
module _ (S : LogState) (T : State) (H : word.WordsHold S.words) (J : word.WordsHold T) (n : ℕ) (v : Membership) (up : 0 < word.agent_start S.words n)
    (own : (S.words.agents n).own ≡ Some v) (may : may_decide n (S.words.agents n) (Some v) ≡ true) (is : In v T.history.decided)
    (decided : (w : Membership) → In w S.words.history.decided → In w T.history.decided)
    (took_word : (s : ℕ) (w : Membership) → S.words.history.took s ≡ Some w → T.history.took s ≡ Some w) where
  abbrev a : ℕ
  a = word.agent_start S.words n

  -- it is above the word that the agent decided before
  pub before-below : (w : Membership) → (S.words.agents n).decided ≡ Some w → term_of w < term_of v
  before-below w e = subst (λ x. x < term_of v) (rw (e, sent_term) refl) (decides-above S.words T H J n v up own may is decided took_word)

  -- an initiator initiates it too
  pub stays-initiator : (w : Membership) → Initiates S n w → initiator v ≡ Some (n, a)
  stays-initiator w i = initiator-lasts T J.history w n a dw i.initiates v is after unlost
    where
      dw : In w T.history.decided
      dw = decided w (has-decided S.words H n w i.has_decided)

      after : Within w v
      after = elim (J.history.chain w v dw is) [
        | inl p ↦ p
        | inr p ↦ absurd (omega (arith, before-below w i.has_decided, within-term T v w (J.history.decided_good v is) (J.history.decided_good w dw) p))
      ]

      unlost : is_in a v.lost ≡ false
      unlost = (member-is T J.history v n a (J.history.decided_good v is) (is_member-start v n a (may_decide-cases n (S.words.agents n) v may).0)).1

  -- The initiator of the word is above the term that was heard.
  pub decides-heard : (E : Database) (F : Firm) (K : Transactions) (now : ℕ) → 0 < epoch_base S → HeardOk E S F K now → initiator v ≡ Some (n, a) → K.heard < term_of v
  decides-heard E F K now some k init = elim (J.history.chain u v du is) [
    | inr p ↦ again p
    | inl p ↦ elim (cases_eq (term_of u) (term_of v)) [
      | inl e ↦ again (subst (λ x. Within v x) (sym (term-same T J.history u v (J.history.decided_good u du) (J.history.decided_good v is) (inl p) e)) (within-refl v))
      | inr d ↦ omega (arith, d, k.is_word.term_is, within-term T u v (J.history.decided_good u du) (J.history.decided_good v is) p)
    ]
  ]
    where
      u : Membership
      u = k.word

      du : In u T.history.decided
      du = decided u k.is_word.decided

      -- else it is the heard word's initiator, with no later word so far
      again : Within v u → K.heard < term_of v
      again p = go (S.words.agents n).decided refl (k.by n a
          (initiator-lasts T J.history v n a is init u du p (running-unlost S.words H n up u k.is_word.decided)) refl)
        where
          go : (o : Option Membership) → (S.words.agents n).decided ≡ o → K.heard ≤ term_in o → K.heard < term_of v
          go None e l = absurd (omega (arith, some, l, k.is_word.term_is, (H.history.decided_good u k.is_word.decided).base))
          go (Some w) e l = omega (arith, l, before-below w e)
