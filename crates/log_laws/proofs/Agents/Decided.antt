-- A word that an agent decides is of a higher term than all that it sent before.
use Rattle.log_laws.proofs.Names.{◌≡◌, ◌<◌, true, false, refl, sym, subst, ap, ◌∙◌, inl, inr, ◌==◌, arith, and_parts, cases_eq, not-true, length-map, ℕ, ◌&&◌, ◌||◌, not, Option, Some, None, list_all, Membership, term_of, members, is_member, is_word, may_decide, In, State, Within, Falls, GoodWord, OwnOk, HistoryOk, WordsHold, agent_start, names, some-here, all-at, not-both, none-and-some, firsts, subset-length, within-refl, within-of-term, same_word-refl, names-within, admits-firsts, is_member-start, alike-same, one-first, member-is, running-member, not-earlier-self, sent_term}

-- of two words, one within the other, that are two: the other is of a higher term
below-term : (S : State) → HistoryOk S → (v w : Membership) → GoodWord S v → GoodWord S w → Within v w → (v ≡ w → ⊥) → term_of v < term_of w
below-term S H v w g k h d =
    let l = (subset-length 0 v.lost w.lost g.lost_rises k.lost_rises h.lost).0 in
    let a = (subset-length 0 (firsts v.admitted) (firsts w.admitted) g.admitted_rises k.admitted_rises
    (λ s i. sym (admits-firsts w s) ∙ h.admitted s (admits-firsts v s ∙ i))).0 in
    let n = length-map v.admitted (λ x. x.0) in
    let m = length-map w.admitted (λ x. x.0) in
    elim (cases_eq (term_of v) (term_of w)) [
      | inl e ↦ absurd (d (alike-same S H v w g k (h, within-of-term v w (g.base ∙ sym k.base) g.lost_rises k.lost_rises g.admitted_rises k.admitted_rises h e)))
      | inr e ↦ omega (arith, l, a, n, m, g.base, k.base, e)
    ]

-- T comes after S, in which the agent of host n may decide v; there that is decided
module _ (S T : State) (H : WordsHold S) (K : WordsHold T) (n : ℕ) (v : Membership) (up : 0 < agent_start S n) (own : (S.agents n).own ≡ Some v)
    (may : may_decide n (S.agents n) (Some v) ≡ true) (is : In v T.history.decided) (decided : (w : Membership) → In w S.history.decided → In w T.history.decided)
    (took_word : (s : ℕ) (w : Membership) → S.history.took s ≡ Some w → T.history.took s ≡ Some w) where
  abbrev s : ℕ
  s = agent_start S n

  good : (w : Membership) → In w T.history.decided → GoodWord T w
  good w i = K.history.decided_good w i

  own-ok : OwnOk S s v
  own-ok = some-here (OwnOk S s) (S.agents n).own v own (H.agents n).own

  tests : (is_member v n s ≡ true) × (is_word v (S.agents n).decided ≡ false)
  tests =
      let prefix = (and_parts (is_member v n s && not (is_word v (S.agents n).decided)) (list_all (λ m. m.0 == n || is_word v ((S.agents n).said m.0)) (members v)) may).0 in
      let both = and_parts (is_member v n s) (not (is_word v (S.agents n).decided)) prefix in
      (both.0, not-true (is_word v (S.agents n).decided) both.1)

  named : names v s ≡ true
  named = (member-is S H.history v n s own-ok.good (is_member-start v n s tests.0)).0

  owned : S.owner s ≡ n
  owned = ((H.hosts n).running up).0

  -- the word that it decided before, which it has said
  before : (d : Membership) → (S.agents n).decided ≡ Some d → term_of d < term_of v
  before d e = below-term T K.history d v (good d (decided d ok.0)) (good v is) within other
    where
      ok : In d S.history.decided × (names d s ≡ true)
      ok = some-here (λ w. In w S.history.decided × (names w s ≡ true)) (S.agents n).decided d e (H.agents n).decided

      said : In d (S.history.said s)
      said = H.history.members_said d ok.0 (S.owner s) s (running-member S H.history d s (H.history.decided_good d ok.0) ok.1 (ap (agent_start S) owned))

      within : Within d v
      within =
          let m = own-ok.member named in
          elim (subst (In d) m.1 said) [
            | inl q ↦ subst (λ x. Within x v) q (within-refl v)
            | inr i ↦ all-at (λ x. Within x v) m.0 (subst Falls m.1 (H.history.said_falls s)).0 d i
          ]

      other : d ≡ v → ⊥
      other q = not-both (is_word v (S.agents n).decided) (ap (is_word v) e ∙ subst (λ x. is_word v (Some x) ≡ true) (sym q) (same_word-refl v)) tests.1

  -- the word that it took, which doesn't name it
  joined : (w : Membership) → (S.agents n).taken ≡ Some w → term_of w < term_of v
  joined w e = elim (K.history.chain w v (decided w ok.1) is) [
    | inl h ↦ below-term T K.history w v (good w (decided w ok.1)) (good v is) h (λ q. unnamed (subst (λ x. names x s ≡ true) (sym q) named))
    | inr h ↦ absurd (unnamed (names-within v w s (one-first T K.history v w (good v is) (good w (decided w ok.1))) h named))
  ]
    where
      ok : (S.history.took s ≡ Some w) × In w S.history.decided
      ok = some-here (λ x. (S.history.took s ≡ Some x) × In x S.history.decided) (S.agents n).taken w e (H.agents n).taken

      unnamed : names w s ≡ true → ⊥
      unnamed m = not-earlier-self s (T.history.began (T.owner s)) (K.hosts (T.owner s)).distinct ((K.history.took_ok s w (took_word s w ok.0)).2 s m refl)

  pub decides-above : sent_term (S.agents n) < term_of v
  decides-above = go (S.agents n).decided (S.agents n).taken refl refl
    where
      go : (d t : Option Membership) → (S.agents n).decided ≡ d → (S.agents n).taken ≡ t → sent_term (S.agents n) < term_of v
      go (Some d) t e f = rw e (before d e)
      go None (Some w) e f = rw (e, f) (joined w f)
      go None None e f = absurd (none-and-some ((H.agents n).joins e f) own)
