-- Terms of an epoch: which words there are, who was in a term, and which term had a leader last.
use Rattle.log_laws.proofs.Names.{◌≡◌, ◌+◌, ◌-◌, ◌<◌, ◌≤◌, zero, suc, true, false, length, refl, sym, subst, ap, ◌∙◌, ◌⊎◌, inl, inr, ◌==◌, arith, cases_Bool, cases_lt, length-map, ℕ, nat_lt, Option, Some, None, list_any, Membership, slots, host_of_slot, is_in, term_of, start_of, start_of_slot, admits, In, Prefix, Within, Comparable, Recorded, GoodWord, names, same-some, none-and-some, not-both, firsts, subset-length, within-refl, within-cases, names-first, names-admits, names-within, admits-fresh, admits-firsts, one-first, term-same, member-of, member-is, not-earlier-self, LogState, LogsHold, Entered, Leadership, WordOf, Last, WasIn, HasBeen, Came, LeadershipOk, IsSlot, epoch_base, part, site_start, log_at, term_at}

module _ (S : LogState) (H : LogsHold S) where
  -- ---- sites

  -- a site that runs is a slot's
  pub running-slot : (c : ℕ) → 0 < site_start S c → IsSlot S c
  running-slot c up = elim (cases_Bool (nat_lt c (slots S.words.deployment))) [ inl is ↦ is | inr out ↦ absurd (omega (arith, up, (H.sites c).environment out)) ]

  -- ---- words

  good : (w : Membership) → In w S.words.history.decided → GoodWord S.words w
  good w d = H.words.history.decided_good w d

  -- a word that is within another one isn't of a higher term
  pub within-term : (v w : Membership) → In v S.words.history.decided → In w S.words.history.decided → Within v w → term_of v ≤ term_of w
  within-term v w d e h =
      let g = good v d in
      let k = good w e in
      let lost = (subset-length 0 v.lost w.lost g.lost_rises k.lost_rises h.lost).0 in
      let admitted = (subset-length 0 (firsts v.admitted) (firsts w.admitted) g.admitted_rises k.admitted_rises
      (λ s i. sym (admits-firsts w s) ∙ h.admitted s (admits-firsts v s ∙ i))).0 in
      let n = length-map v.admitted (λ a. a.0) in
      let m = length-map w.admitted (λ a. a.0) in
      omega (arith, lost, admitted, n, m, g.base, k.base)

  -- words rise with their terms, and of a term there is one
  pub word-within : (v w : Membership) → In v S.words.history.decided → In w S.words.history.decided → term_of v ≤ term_of w → Within v w
  word-within v w d e l = elim (H.words.history.chain v w d e) [
    | inl h ↦ h
    | inr h ↦
        let same : v ≡ w = term-same S.words H.words.history v w (good v d) (good w e) (inr h) (omega (arith, l, within-term w v e d h)) in
        subst (λ x. Within v x) same (within-refl v)
  ]

  pub same-word : (t : ℕ) (v w : Membership) → WordOf S t v → WordOf S t w → v ≡ w
  same-word t v w k l =
      term-same S.words H.words.history v w (good v k.decided) (good w l.decided) (H.words.history.chain v w k.decided l.decided) (k.term_is ∙ sym l.term_is)

  -- the epoch's first term, which is above 0, is the least
  pub base-least : (w : Membership) → In w S.words.history.decided → epoch_base S ≤ term_of w
  base-least w d = omega (arith, (good w d).base)

  pub some-term : (w : Membership) → In w S.words.history.decided → 0 < term_of w
  some-term w d = omega (arith, H.some, base-least w d)

  -- a member has started, and it is named and not lost
  member : (w : Membership) (c a : ℕ) → In w S.words.history.decided → start_of_slot S.words.deployment w c ≡ Some a
      → (names w a ≡ true) × (is_in a w.lost ≡ false) × (S.words.owner a ≡ host_of_slot S.words.deployment c)
  member w c a d e = member-is S.words H.words.history w (host_of_slot S.words.deployment c) a (good w d) e

  pub some-start : (w : Membership) (c a : ℕ) → In w S.words.history.decided → start_of_slot S.words.deployment w c ≡ Some a → 0 < a
  some-start w c a d e = ((good w d).named_begun a (member w c a d e).0).some

  -- a start that an earlier word names, and a later one has not lost, is a member of the earlier one
  pub named-member : (v w : Membership) (c a : ℕ) → In v S.words.history.decided → In w S.words.history.decided → term_of v ≤ term_of w
      → start_of_slot S.words.deployment w c ≡ Some a → names v a ≡ true → start_of_slot S.words.deployment v c ≡ Some a
  named-member v w c a d e l m n =
      let k = member w c a e m in
      ap (start_of v) (sym k.2) ∙ member-of S.words H.words.history v a (good v d) n (kept (cases_Bool (is_in a v.lost)) k.1)
    where
      kept : (is_in a v.lost ≡ true) ⊎ (is_in a v.lost ≡ false) → is_in a w.lost ≡ false → is_in a v.lost ≡ false
      kept (inl y) stays = absurd (not-both (is_in a w.lost) ((word-within v w d e l).lost a y) stays)
      kept (inr n) stays = n

  -- ---- joiners' words

  -- a joiner's word was decided, and names its start in no term up to it
  pub took-decided : (j : ℕ) (w : Membership) → S.words.history.took j ≡ Some w → In w S.words.history.decided
  took-decided j w e = (H.words.history.took_ok j w e).0

  pub took-not-named : (j : ℕ) (w : Membership) → S.words.history.took j ≡ Some w → names w j ≡ true → ⊥
  took-not-named j w e n =
      not-earlier-self j (S.words.history.began (S.words.owner j)) (H.words.hosts (S.words.owner j)).distinct ((H.words.history.took_ok j w e).2 j n refl)

  pub took-unnamed : (j : ℕ) (w : Membership) (c : ℕ) → S.words.history.took j ≡ Some w → start_of_slot S.words.deployment w c ≡ Some j → ⊥
  took-unnamed j w c e m = took-not-named j w e (member w c j (took-decided j w e) m).0

  pub took-below : (j : ℕ) (u w : Membership) (c : ℕ) → S.words.history.took j ≡ Some u → In w S.words.history.decided
      → start_of_slot S.words.deployment w c ≡ Some j → term_of u < term_of w
  took-below j u w c e d m = elim (cases_lt (term_of u) (term_of w)) [
    | inl l ↦ l
    | inr l ↦
        let k = took-decided j u e in
        absurd (took-not-named j u e (names-within w u j (one-first S.words H.words.history w u (good w d) (good u k)) (word-within w u d k l) (member w c j d m).0))
  ]

  -- ---- who is a member in a later term

  -- of one that was admitted since: the word that it took
  admitted-since : (v w : Membership) (a : ℕ) → In v S.words.history.decided → In w S.words.history.decided → names v a ≡ false → names w a ≡ true
      → (u : Membership) × (S.words.history.took a ≡ Some u) × (term_of v ≤ term_of u)
  admitted-since v w a d e n m =
      from ((good w e).recorded a (admits-fresh v w a (one-first S.words H.words.history v w (good v d) (good w e)) n m))
    where
      up-to : (r : Recorded S.words w a) → Comparable v r.entry.at → In r.entry.at S.words.history.decided → term_of v ≤ term_of r.entry.at
      up-to r (inl h) k = within-term v r.entry.at d k h
      up-to r (inr h) k = elim (within-cases v r.entry.at) [
        | inl h ↦ within-term v r.entry.at d k h
        | inr o ↦ absurd (not-both (names v a) (names-admits v a (subst (λ x. admits v x ≡ true) r.same (H.words.history.nothing_between v d r.entry r.is_one h o))) n)
      ]

      from : Recorded S.words w a → (u : Membership) × (S.words.history.took a ≡ Some u) × (term_of v ≤ term_of u)
      from r =
          let k = H.words.history.admitted_ok r.entry r.is_one in
          (k.word, ap S.words.history.took (sym r.same) ∙ k.took, subst (λ x. term_of v ≤ x) (sym k.term_is) (up-to r (H.words.history.chain v r.entry.at d k.decided) k.decided))

  -- A member of a later word was one of the earlier word, or took a word in between.
  pub member-or-joined : (v w : Membership) (c a : ℕ) → In v S.words.history.decided → In w S.words.history.decided → term_of v ≤ term_of w
      → start_of_slot S.words.deployment w c ≡ Some a
      → (start_of_slot S.words.deployment v c ≡ Some a)
      ⊎ ((u : Membership) × (S.words.history.took a ≡ Some u) × (term_of v ≤ term_of u) × (term_of u < term_of w))
  member-or-joined v w c a d e l m = elim (cases_Bool (names v a)) [
    | inl n ↦ inl (named-member v w c a d e l m n)
    | inr n ↦ let r = admitted-since v w a d e n (member w c a e m).0 in inr (r.0, r.1, r.2, took-below a r.0 w c r.1 e m)
  ]

  -- One of the first word is a member of all words up to each of which it is one.
  pub named-first : (v w : Membership) (c a : ℕ) → In v S.words.history.decided → In w S.words.history.decided → term_of v ≤ term_of w
      → list_any (λ m. m.1 == a) S.words.history.first.first ≡ true → start_of_slot S.words.deployment w c ≡ Some a
      → start_of_slot S.words.deployment v c ≡ Some a
  named-first v w c a d e l f m = named-member v w c a d e l m (names-first v a (subst (λ x. list_any (λ m. m.1 == a) x ≡ true) (sym (good v d).first) f))

  -- ---- the words of what was entered, streamed and led

  pub entered-start : (c t : ℕ) (e : Entered) → S.logs.entered c t ≡ Some e → (w : Membership) → WordOf S t w → start_of_slot S.words.deployment w c ≡ Some e.start
  entered-start c t e k w d = subst (λ x. start_of_slot S.words.deployment x c ≡ Some e.start) (same-word t (H.entered c t e k).word w (H.entered c t e k).is_word d) (H.entered c t e k).start_is

  -- each copy had entered a term that was led
  pub leadership-entered : (p t : ℕ) (g : Leadership) → S.logs.leadership p t ≡ Some g → (w : Membership) → WordOf S t w → (c a : ℕ) → IsSlot S c → part S c ≡ p
      → start_of_slot S.words.deployment w c ≡ Some a → (e : Entered) × (S.logs.entered c t ≡ Some e) × (e.start ≡ a) × Prefix e.log g.begun
  leadership-entered p t g k w d c a s q m =
      (H.leaderships p t g k).entered c a s q (subst (λ x. start_of_slot S.words.deployment x c ≡ Some a) (sym (same-word t (H.leaderships p t g k).word w (H.leaderships p t g k).is_word d)) m)

  -- ---- who was in a term

  -- one start of a slot
  pub one-in : (c t a b : ℕ) → WasIn S c t a → WasIn S c t b → a ≡ b
  one-in c t a b (inl x) (inl y) = sym x.2 ∙ ap (λ e. e.start) (same-some (sym x.1 ∙ y.1)) ∙ y.2
  one-in c t a b (inr x) (inr y) = sym x.2 ∙ ap (λ e. e.start) (same-some (sym x.1 ∙ y.1)) ∙ y.2
  one-in c t a b (inl x) (inr y) = absurd (none-and-some (H.streamed c t y.0 y.1).apart x.1)
  one-in c t a b (inr x) (inl y) = absurd (none-and-some (H.streamed c t x.0 x.1).apart y.1)

  pub was-been : (c t a : ℕ) → WasIn S c t a → HasBeen S c t a
  was-been c t a (inl x) = subst (HasBeen S c t) x.2 (H.entered c t x.0 x.1).been
  was-been c t a (inr x) = subst (HasBeen S c t) x.2 (H.streamed c t x.0 x.1).been

  -- one that runs has what the term knew to be everywhere, and goes on in that term or a later one
  pub running-in : (c v a : ℕ) → WasIn S c v a → site_start S c ≡ a → (S.logs.reach (part S c) v ≤ length (log_at S c)) × (v ≤ term_at S c)
  running-in c v a (inl x) r = let k = (H.entered c v x.0 x.1).running (r ∙ sym x.2) in (k.2, k.1)
  running-in c v a (inr x) r = let k = (H.streamed c v x.0 x.1).running (r ∙ sym x.2) in (k.2, k.1)

  -- A member was in the last term before that was led.
  pub was-in : (c t a : ℕ) (w : Membership) → IsSlot S c → WordOf S t w → start_of_slot S.words.deployment w c ≡ Some a → Came S c t a
      → (v : ℕ) → Last S.logs (part S c) v t → WasIn S c v a
  was-in c t a w s d m came v l = from came
    where
      k : LeadershipOk S (part S c) v l.leadership
      k = H.leaderships (part S c) v l.leadership l.led

      entered : start_of_slot S.words.deployment k.word c ≡ Some a → WasIn S c v a
      entered n = let r = k.entered c a s refl n in inl (r.0, r.1, r.2)

      below : term_of k.word ≤ term_of w
      below = omega (arith, k.is_word.term_is, d.term_is, l.below)

      from : Came S c t a → WasIn S c v a
      from (inl f) = entered (named-first k.word w c a k.is_word.decided d.decided below f m)
      from (inr (u, x, e, q, b)) = elim (member-or-joined k.word w c a k.is_word.decided d.decided below m) [
        | inl n ↦ entered n
        | inr (y, took, after, before) ↦
            let h = H.streamed c u x e in
            let same : h.word ≡ y = same-some (sym h.took ∙ ap S.words.history.took q ∙ took) in
            let at : u ≡ v = omega (arith, l.greatest u h.leadership h.led b, after, k.is_word.term_is, h.term_is, ap term_of same) in
            inr (x, subst (λ z. S.logs.streamed c z ≡ Some x) at e, q)
      ]

  -- ---- the last term that was led

  -- one term more
  last-more : (p t : ℕ) (o : Option Leadership) → S.logs.leadership p t ≡ o → (v : ℕ) × Last S.logs p v t → (v : ℕ) × Last S.logs p v (t + 1)
  last-more p t (Some g) e (v, l) = (t, record { leadership = g; led = e; below = omega arith; greatest = λ x h k b. omega (arith, b) })
  last-more p t None e (v, l) = (
    v,
    record {
      leadership = l.leadership;
      led = l.led;
      below = omega (arith, l.below);
      greatest = λ x h k b. elim (cases_lt x t) [
        | inl s ↦ l.greatest x h k s
        | inr s ↦ let q : x ≡ t = omega (arith, b, s) in absurd (none-and-some e (ap (S.logs.leadership p) (sym q) ∙ k))
      ];
    },
  )

  last-above : (p n : ℕ) → (v : ℕ) × Last S.logs p v (epoch_base S + 1 + n)
  last-above p zero = let f = H.first p in (epoch_base S, record { leadership = f.0; led = f.1; below = omega arith; greatest = λ x g k b. omega (arith, b) })
  last-above p (suc n) =
      let q : epoch_base S + 1 + n + 1 ≡ epoch_base S + 1 + suc n = omega arith in
      subst (λ t. (v : ℕ) × Last S.logs p v t) q (last-more p (epoch_base S + 1 + n) (S.logs.leadership p (epoch_base S + 1 + n)) refl (last-above p n))

  pub last-below : (p t : ℕ) → epoch_base S < t → (v : ℕ) × Last S.logs p v t
  last-below p t b =
      let q : epoch_base S + 1 + (t - (epoch_base S + 1)) ≡ t = omega (arith, b) in
      subst (λ t. (v : ℕ) × Last S.logs p v t) q (last-above p (t - (epoch_base S + 1)))
