-- Initiators of words: one that isn't lost is the initiator of each later word.
use Rattle.std.proofs.Common.{◌≡◌, ◌+◌, ◌<◌, Bool, true, false, List, [], ◌∷◌, ◌++◌, refl, sym, subst, ap, ◌∙◌, ◌⊎◌, inl, inr, ◌==◌, arith}
use Rattle.std.proofs.lemmas.Bool.{cases_Bool, cond_both, or_cases, or_left, or_right, not-false, not_from_true, not_from_false, eqb-true, le-leb}
use Rattle.std.proofs.lemmas.List.Elements.{filter-append}
use Rattle.std.proofs.lemmas.Option.{none-some}
use Rattle.std.specs.Prelude.{ℕ, ◌||◌, not, nat_le, map, filter, Some}
use Rattle.std.specs.List.{list_all}
use Rattle.volt_wire.specs.Word.{Membership}
use Rattle.cluster_model.specs.Words.{is_in, not_lost, members, first_of, initiator, admits}
use Rattle.cluster_model.specs.Laws.{RiseFrom}
use Rattle.cluster_steps.specs.Lists.{In}
use Rattle.word_laws.specs.Histories.{State, Within, names, GoodWord, HistoryOk}
use Rattle.cluster_steps.proofs.Lists.{eqb-same, same-some, all-at, all-from, list_all-from, list_any-in, list_any-from, in-filter, in-map-from, filter-all}
use Rattle.word_laws.proofs.Algebra.{firsts, any-firsts, admits-firsts, rise-below}
use Rattle.word_laws.proofs.Members.{stays, in-not_lost, first-in, initiator-member}
use Rattle.word_laws.proofs.Agreement.{hosts-of, one-first, one-start, member-is, above-before}

-- ---- the first of those that stay

abbrev swapped : List (ℕ × ℕ) → List (ℕ × ℕ)
swapped ps = map (λ a. (a.1, a.0)) ps

-- where fewer stay it is still the first one, if it does
first-fewer : (p q : ℕ × ℕ → Bool) (m : ℕ × ℕ) (xs : List (ℕ × ℕ)) → ((x : ℕ × ℕ) → p x ≡ false → q x ≡ false) → first_of (filter p xs) ≡ Some m → q m ≡ true
    → first_of (filter q xs) ≡ Some m
first-fewer p q m [] less e k = e
first-fewer p q m (x ∷ xs) less e k = cond_both (p x) (x ∷ filter p xs) (filter p xs) (λ l. first_of l ≡ Some m → first_of (filter q (x ∷ xs)) ≡ Some m)
    (λ y f. let here : q x ≡ true = ap q (same-some f) ∙ k in rw here f)
    (λ n f. rw (less x n) (first-fewer p q m xs less f k)) e

-- where none stays, none of fewer does
none-fewer : (p q : ℕ × ℕ → Bool) (xs : List (ℕ × ℕ)) → ((x : ℕ × ℕ) → p x ≡ false → q x ≡ false) → filter p xs ≡ [] → filter q xs ≡ []
none-fewer p q [] less e = refl
none-fewer p q (x ∷ xs) less e = cond_both (p x) (x ∷ filter p xs) (filter p xs) (λ l. l ≡ [] → filter q (x ∷ xs) ≡ [])
    (λ y f. absurd (cc))
    (λ n f. rw (less x n) (none-fewer p q xs less f)) e

-- the first of two lists
first-left : (xs ys : List (ℕ × ℕ)) (m : ℕ × ℕ) → first_of xs ≡ Some m → first_of (xs ++ ys) ≡ Some m
first-left [] ys m e = absurd (none-some m e)
first-left (x ∷ xs) ys m e = e

first-cases : (xs ys : List (ℕ × ℕ)) (m : ℕ × ℕ) → first_of (xs ++ ys) ≡ Some m → (first_of xs ≡ Some m) ⊎ ((xs ≡ []) × (first_of ys ≡ Some m))
first-cases [] ys m e = inr (refl, e)
first-cases (x ∷ xs) ys m e = inl e

-- ---- the first of rising starts

-- Of pairs of starts and hosts that rise by start, all below the first that stays are lost.
lost-below : (lost : List ℕ) (low h a : ℕ) (ps : List (ℕ × ℕ)) → RiseFrom low (firsts ps) → first_of (filter (stays lost) (swapped ps)) ≡ Some (h, a)
    → (r : ℕ) → is_in r (firsts ps) ≡ true → r < a → is_in r lost ≡ true
lost-below lost low h a [] rise e r i l = absurd (none-some (h, a) e)
lost-below lost low h a (p ∷ ps) rise e r i l =
    cond_both (stays lost (p.1, p.0)) ((p.1, p.0) ∷ filter (stays lost) (swapped ps)) (filter (stays lost) (swapped ps)) (λ z. first_of z ≡ Some (h, a) → is_in r lost ≡ true)
    (λ y f. let q : p.0 ≡ a = ap (λ x. x.1) (same-some f) in elim (or_cases (p.0 == r) (is_in r (firsts ps)) i) [
      | inl k ↦ let d = eqb-true p.0 r k in absurd (omega (arith, q, d, l))
      | inr k ↦ let d = rise-below (p.0 + 1) r (firsts ps) rise.1 k in absurd (omega (arith, q, d, l))
    ])
    (λ n f. elim (or_cases (p.0 == r) (is_in r (firsts ps)) i) [
      | inl k ↦ subst (λ x. is_in x lost ≡ true) (eqb-true p.0 r k) (not-false (is_in p.0 lost) n)
      | inr k ↦ lost-below lost (p.0 + 1) h a ps rise.1 f r k l
    ]) e

-- Conversely one that stays is the first, if all below it are lost.
first-above : (lost : List ℕ) (low h a : ℕ) (ps : List (ℕ × ℕ)) → RiseFrom low (firsts ps) → In (a, h) ps → is_in a lost ≡ false
    → ((r : ℕ) → is_in r (firsts ps) ≡ true → r < a → is_in r lost ≡ true) → first_of (filter (stays lost) (swapped ps)) ≡ Some (h, a)
first-above lost low h a [] rise i n below = absurd i
first-above lost low h a (p ∷ ps) rise (inl e) n below =
    let here : stays lost (p.1, p.0) ≡ true = not_from_false (is_in p.0 lost) (ap (λ x. is_in x.0 lost) e ∙ n) in
    rw here (ap (λ x. Some (x.1, x.0)) e)
first-above lost low h a (p ∷ ps) rise (inr i) n below =
    let in-rest : is_in a (firsts ps) ≡ true = sym (any-firsts a ps) ∙ list_any-in (λ x. x.0 == a) ps (a, h) i (eqb-same a) in
    let less = rise-below (p.0 + 1) a (firsts ps) rise.1 in-rest in
    let gone : stays lost (p.1, p.0) ≡ false = not_from_true (is_in p.0 lost) (below p.0 (or_left (p.0 == p.0) (is_in p.0 (firsts ps)) (eqb-same p.0)) (omega (arith, less))) in
    rw gone (first-above lost (p.0 + 1) h a ps rise.1 i n (λ r k l. below r (or_right (p.0 == r) (is_in r (firsts ps)) k) l))

-- ---- words of an epoch

module _ (S : State) (H : HistoryOk S) where
  -- Of each host one start isn't lost at most, so all that aren't lost are members.
  members-stay : (w : Membership) → GoodWord S w → members w ≡ not_lost w
  members-stay w g = filter-all (λ m. list_all (λ n. not (n.0 == m.0) || nat_le n.1 m.1) (not_lost w)) (not_lost w)
      (all-from (λ m. list_all (λ n. not (n.0 == m.0) || nat_le n.1 m.1) (not_lost w) ≡ true) (not_lost w)
      (λ m i. list_all-from (λ n. not (n.0 == m.0) || nat_le n.1 m.1) (not_lost w) (λ n j. one m n i j)))
    where
      there : (m : ℕ × ℕ) → In m (not_lost w) → (names w m.1 ≡ true) × (is_in m.1 w.lost ≡ false) × (S.owner m.1 ≡ m.0)
      there m i = in-not_lost S.owner w (hosts-of S H w g) g.owned m.0 m.1 i

      one : (m n : ℕ × ℕ) → In m (not_lost w) → In n (not_lost w) → (not (n.0 == m.0) || nat_le n.1 m.1) ≡ true
      one m n i j = let p = there m i in let q = there n j in elim (cases_Bool (n.0 == m.0)) [
        | inl e ↦
            let same : n.1 ≡ m.1 = one-start S H w n.1 m.1 g q.0 p.0 (q.2 ∙ eqb-true n.0 m.0 e ∙ sym p.2) q.1 p.1 in
            or_right (not (n.0 == m.0)) (nat_le n.1 m.1) (le-leb n.1 m.1 (omega (arith, same)))
        | inr e ↦ or_left (not (n.0 == m.0)) (nat_le n.1 m.1) (not_from_false (n.0 == m.0) e)
      ]

  initiator-is : (w : Membership) → GoodWord S w → initiator w ≡ first_of (filter (stays w.lost) w.first ++ filter (stays w.lost) (swapped w.admitted))
  initiator-is w g = ap first_of (members-stay w g ∙ filter-append (stays w.lost) w.first (swapped w.admitted))

  -- it is of the first hosts, or they are all lost and it is the first of those that were admitted
  initiator-cases : (w : Membership) (h a : ℕ) → GoodWord S w → initiator w ≡ Some (h, a)
      → (first_of (filter (stays w.lost) w.first) ≡ Some (h, a)) ⊎ ((filter (stays w.lost) w.first ≡ []) × (first_of (filter (stays w.lost) (swapped w.admitted)) ≡ Some (h, a)))
  initiator-cases w h a g e = first-cases (filter (stays w.lost) w.first) (filter (stays w.lost) (swapped w.admitted)) (h, a) (sym (initiator-is w g) ∙ e)

  module _ (v : Membership) (h a : ℕ) (dv : In v S.history.decided) (init : initiator v ≡ Some (h, a)) where
    gv : GoodWord S v
    gv = H.decided_good v dv

    member : (names v a ≡ true) × (is_in a v.lost ≡ false) × (S.owner a ≡ h)
    member = member-is S H v h a gv (initiator-member v h a init)

    -- an initiator that was admitted, is so in a later word
    admitted-in : (w : Membership) → In w S.history.decided → Within v w → first_of (filter (stays v.lost) (swapped v.admitted)) ≡ Some (h, a) → In (a, h) w.admitted
    admitted-in w dw p e =
        let i = (in-filter (stays v.lost) (h, a) (swapped v.admitted) (first-in (h, a) (filter (stays v.lost) (swapped v.admitted)) e)).0 in
        let x = in-map-from (λ b. (b.1, b.0)) (h, a) v.admitted i in
        let here : x.0.0 ≡ a = ap (λ z. z.1) x.2 in
        let y = list_any-from (λ b. b.0 == a) w.admitted (p.admitted a (list_any-in (λ b. b.0 == a) v.admitted x.0 x.1 (subst (λ z. (z == a) ≡ true) (sym here) (eqb-same a)))) in
        let q = eqb-true y.0.0 a y.2 in
        let o = sym (all-at (λ b. S.owner b.0 ≡ b.1) w.admitted (H.decided_good w dw).owned y.0 y.1) ∙ ap S.owner q ∙ member.2 in
        subst (λ z. In z w.admitted) (λ i. (q i, o i)) y.1

    -- One that isn't lost is the initiator of each later word.
    pub initiator-lasts : (w : Membership) → In w S.history.decided → Within v w → is_in a w.lost ≡ false → initiator w ≡ Some (h, a)
    initiator-lasts w dw p n = initiator-is w gw ∙ elim (initiator-cases v h a gv init) [
      | inl f ↦ first-left (filter (stays w.lost) w.first) (filter (stays w.lost) (swapped w.admitted)) (h, a)
          (subst (λ z. first_of (filter (stays w.lost) z) ≡ Some (h, a)) firsts-same
          (first-fewer (stays v.lost) (stays w.lost) (h, a) v.first less f (not_from_false (is_in a w.lost) n)))
      | inr (none, f) ↦
          rw (subst (λ z. filter (stays w.lost) z ≡ []) firsts-same (none-fewer (stays v.lost) (stays w.lost) v.first less none))
          (first-above w.lost 0 h a w.admitted gw.admitted_rises (admitted-in w dw p f) n (λ r i l. below f r i l (cases_Bool (admits v r))))
    ]
      where
        gw : GoodWord S w
        gw = H.decided_good w dw

        firsts-same : v.first ≡ w.first
        firsts-same = one-first S H v w gv gw

        less : (x : ℕ × ℕ) → stays v.lost x ≡ false → stays w.lost x ≡ false
        less x e = not_from_true (is_in x.1 w.lost) (p.lost x.1 (not-false (is_in x.1 v.lost) e))

        below : first_of (filter (stays v.lost) (swapped v.admitted)) ≡ Some (h, a) → (r : ℕ) → is_in r (firsts w.admitted) ≡ true → r < a
            → (admits v r ≡ true) ⊎ (admits v r ≡ false) → is_in r w.lost ≡ true
        below f r i l (inl e) = p.lost r (lost-below v.lost 0 h a v.admitted gv.admitted_rises f r (sym (admits-firsts v r) ∙ e) l)
        below f r i l (inr e) = let u = above-before S H v w dv dw a r member.0 n (admits-firsts w r ∙ i) e in absurd (omega (arith, u, l))
