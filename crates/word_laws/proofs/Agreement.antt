-- What follows from the history alone: members, and that decided words form a chain.
use Rattle.std.proofs.Common.{◌≡◌, ◌<◌, ◌≤◌, true, false, List, [], ◌∷◌, sym, subst, ap, ◌∙◌, ◌⊎◌, inl, inr, ◌==◌, arith}
use Rattle.std.proofs.lemmas.Bool.{cases_Bool}
use Rattle.std.specs.Prelude.{ℕ, Some}
use Rattle.std.specs.List.{list_any}
use Rattle.volt_wire.specs.Word.{Membership}
use Rattle.cluster_model.specs.Words.{is_in, term_of, start_of, admits, with_admitted}
use Rattle.cluster_steps.specs.Lists.{In}
use Rattle.word_laws.specs.Histories.{State, Within, Alike, Comparable, Admitted, IsRunning, names, Recorded, GoodWord, Falls, AdmittedOk, HistoryOk}
use Rattle.cluster_steps.proofs.Lists.{not-both, all-at}
use Rattle.word_laws.proofs.Algebra.{HostsOwned, within-cases, within-refl, within-trans, names-first, names-admits, names-cases, names-within, admits-fresh, within-with_admitted-back, with_admitted-admits, alike-is, within-of-term}
use Rattle.word_laws.proofs.Members.{start_of-named, start_of-greatest, initiator-member, best-within, least-elsewhere}

-- ---- words that fall

-- of words that fall, one is within the other
pub falls-comparable : (v w : Membership) (ws : List Membership) → Falls ws → In v ws → In w ws → Comparable v w
falls-comparable v w [] f i k = absurd i
falls-comparable v w (x ∷ xs) f (inl e) (inl d) = inl (subst (λ z. Within v z) (sym e ∙ d) (within-refl v))
falls-comparable v w (x ∷ xs) f (inl e) (inr k) = inr (subst (λ z. Within w z) e (all-at (λ z. Within z x) xs f.0 w k))
falls-comparable v w (x ∷ xs) f (inr i) (inl d) = inl (subst (λ z. Within v z) d (all-at (λ z. Within z x) xs f.0 v i))
falls-comparable v w (x ∷ xs) f (inr i) (inr k) = falls-comparable v w xs f.1 i k

-- ---- words of the epoch

module _ (S : State) (H : HistoryOk S) where
  -- the first hosts of a word have the starts that are theirs
  pub hosts-of : (w : Membership) → GoodWord S w → HostsOwned S.owner w.first
  hosts-of w g = subst (λ x. HostsOwned S.owner x) (sym g.first) H.first_owned

  -- all words of the epoch have one list of first hosts
  pub one-first : (v w : Membership) → GoodWord S v → GoodWord S w → v.first ≡ w.first
  one-first v w g k = g.first ∙ sym k.first

  -- words at which starts were admitted, and words that were said, are good
  pub at-good : (x : Admitted) → In x S.history.admitted → GoodWord S x.at
  at-good x i = H.decided_good x.at (H.admitted_ok x i).decided

  pub said-good : (s : ℕ) (w : Membership) → In w (S.history.said s) → GoodWord S w
  said-good s w i = all-at (GoodWord S) (S.history.said s) (H.said_good s) w i

  -- two good words that are each within the other are one
  pub alike-same : (v w : Membership) → GoodWord S v → GoodWord S w → Alike v w → v ≡ w
  alike-same v w g k a = alike-is S.owner v w (g.base ∙ sym k.base) (one-first v w g k) g.lost_rises k.lost_rises g.admitted_rises k.admitted_rises g.owned k.owned a

  -- two of one term are one
  pub term-same : (v w : Membership) → GoodWord S v → GoodWord S w → Comparable v w → term_of v ≡ term_of w → v ≡ w
  term-same v w g k (inl p) e =
      alike-same v w g k (p, within-of-term v w (g.base ∙ sym k.base) g.lost_rises k.lost_rises g.admitted_rises k.admitted_rises p e)
  term-same v w g k (inr p) e =
      alike-same v w g k (within-of-term w v (k.base ∙ sym g.base) k.lost_rises g.lost_rises k.admitted_rises g.admitted_rises p (sym e), p)

  -- words at which starts were admitted form a chain
  pub chain-at : (x y : Admitted) → In x S.history.admitted → In y S.history.admitted → Comparable x.at y.at
  chain-at x y i k = H.chain x.at y.at (H.admitted_ok x i).decided (H.admitted_ok y k).decided

  -- Of two admissions at words of which one is within the other: they are one, or the later word admitted the earlier start.
  pub same-or-later : (x y : Admitted) → In x S.history.admitted → In y S.history.admitted → Within x.at y.at → (x ≡ y) ⊎ (admits y.at x.start ≡ true)
  same-or-later x y i k p = elim (within-cases y.at x.at) [
    | inl q ↦ inl (H.one_each x y i k (p, q))
    | inr n ↦ inr (H.nothing_between y.at (H.admitted_ok y k).decided x i p n)
  ]

  -- a start that the word names is one of a host that is named there once, among those that aren't lost
  apart : (w : Membership) (r s : ℕ) → GoodWord S w → S.owner r ≡ S.owner s → (x : Admitted) → In x S.history.admitted → x.start ≡ r → Within x.at w
      → names x.at s ≡ true → is_in s w.lost ≡ true
  apart w r s g e x i same p n = p.lost s ((H.admitted_ok x i).one_host s n (sym e ∙ ap S.owner (sym same)))

  -- of two starts of one host that a word names and has not lost, there is only one
  pub one-start : (w : Membership) (r s : ℕ) → GoodWord S w → names w r ≡ true → names w s ≡ true → S.owner r ≡ S.owner s
      → is_in r w.lost ≡ false → is_in s w.lost ≡ false → r ≡ s
  one-start w r s g nr ns e lr ls = elim (names-cases w r nr) [
    | inl fr ↦ elim (names-cases w s ns) [
      | inl fs ↦ H.first_one r s (subst (λ z. list_any (λ m. m.1 == r) z ≡ true) g.first fr) (subst (λ z. list_any (λ m. m.1 == s) z ≡ true) g.first fs) e
      | inr as_ ↦ let y = g.recorded s as_ in
          absurd (not-both (is_in r w.lost) (apart w s r g (sym e) y.entry y.is_one y.same y.within
          (names-first y.entry.at r (subst (λ z. list_any (λ m. m.1 == r) z ≡ true) (one-first w y.entry.at g (at-good y.entry y.is_one)) fr))) lr)
    ]
    | inr ar ↦ let x = g.recorded r ar in elim (names-cases w s ns) [
      | inl fs ↦ absurd (not-both (is_in s w.lost) (apart w r s g e x.entry x.is_one x.same x.within
          (names-first x.entry.at s (subst (λ z. list_any (λ m. m.1 == s) z ≡ true) (one-first w x.entry.at g (at-good x.entry x.is_one)) fs))) ls)
      | inr as_ ↦ let y = g.recorded s as_ in both x y (chain-at x.entry y.entry x.is_one y.is_one)
    ]
  ]
    where
      both : (x : Recorded S w r) (y : Recorded S w s) → Comparable x.entry.at y.entry.at → r ≡ s
      both x y (inl p) = elim (same-or-later x.entry y.entry x.is_one y.is_one p) [
        | inl q ↦ sym x.same ∙ ap (λ z. z.start) q ∙ y.same
        | inr a ↦ absurd (not-both (is_in r w.lost) (apart w s r g (sym e) y.entry y.is_one y.same y.within
            (names-admits y.entry.at r (subst (λ z. admits y.entry.at z ≡ true) x.same a))) lr)
      ]
      both x y (inr p) = elim (same-or-later y.entry x.entry y.is_one x.is_one p) [
        | inl q ↦ sym x.same ∙ ap (λ z. z.start) (sym q) ∙ y.same
        | inr a ↦ absurd (not-both (is_in s w.lost) (apart w r s g e x.entry x.is_one x.same x.within
            (names-admits x.entry.at s (subst (λ z. admits x.entry.at z ≡ true) y.same a))) ls)
      ]

  -- who is named and isn't lost is a member
  pub member-of : (w : Membership) (s : ℕ) → GoodWord S w → names w s ≡ true → is_in s w.lost ≡ false → start_of w (S.owner s) ≡ Some s
  member-of w s g n l = start_of-greatest S.owner w s (hosts-of w g) g.owned n l (λ r nr e lr. le (one-start w r s g nr n e lr l))
    where
      le : {r : ℕ} → r ≡ s → r ≤ s
      le e = omega (arith, e)

  -- a member is named and not lost, and is its host's
  pub member-is : (w : Membership) (h s : ℕ) → GoodWord S w → start_of w h ≡ Some s → (names w s ≡ true) × (is_in s w.lost ≡ false) × (S.owner s ≡ h)
  member-is w h s g p = start_of-named S.owner w h s (hosts-of w g) g.owned p

  -- a start that runs is lost in no good word, so it is a member where it is named
  pub runs-not-lost : (w : Membership) (s : ℕ) → GoodWord S w → IsRunning S s → is_in s w.lost ≡ false
  runs-not-lost w s g r = elim (cases_Bool (is_in s w.lost)) [
    | inl p ↦ absurd ((g.lost_gone s p).1 r)
    | inr p ↦ p
  ]

  pub running-member : (w : Membership) (s : ℕ) → GoodWord S w → names w s ≡ true → IsRunning S s → start_of w (S.owner s) ≡ Some s
  running-member w s g n r = member-of w s g n (runs-not-lost w s g r)

  -- a start that isn't recorded and isn't of the first hosts is named in no word
  pub initiator-named : (x : Admitted) (i : In x S.history.admitted) → names x.at x.by ≡ true
  initiator-named x i =
      (member-is x.at (S.owner x.by) x.by (at-good x i) (initiator-member x.at (S.owner x.by) x.by (H.admitted_ok x i).by_initiator)).0

  -- the words that one start said are a chain
  pub said-comparable : (s : ℕ) (v w : Membership) → In v (S.history.said s) → In w (S.history.said s) → Comparable v w
  said-comparable s v w i k = falls-comparable v w (S.history.said s) (H.said_falls s) i k

  -- the word with which the epoch began is within every word
  pub first-within : (w : Membership) → Within S.history.first w
  first-within w = record {
    lost = λ s p. absurd (none-lost s p);
    admitted = λ s p. absurd (none-admitted s p);
  }
    where
      none-lost : (s : ℕ) → is_in s S.history.first.lost ≡ true → ⊥
      none-lost s p = let q : is_in s [] ≡ true = subst (λ z. is_in s z ≡ true) H.first_plain.0 p in absurd (cc)

      none-admitted : (s : ℕ) → admits S.history.first s ≡ true → ⊥
      none-admitted s p = let q : admits (record S.history.first { admitted = [] }) s ≡ true = subst (λ z. admits (record S.history.first { admitted = z }) s ≡ true) H.first_plain.1 p in absurd (cc)

  -- ---- a word that all its members said

  -- of an admission by an initiator that is named in it: it has the start, or it is within the word of the admission
  pub holds-or-within : (V : Membership) → GoodWord S V → ((h s : ℕ) → start_of V h ≡ Some s → In V (S.history.said s))
      → (h v : ℕ) → start_of V h ≡ Some v → (x : Admitted) → In x S.history.admitted → names V x.by ≡ true
      → (admits V x.start ≡ true) ⊎ Within V x.at
  holds-or-within V g all h v mv x i n = elim (cases_Bool (admits V x.start)) [
    | inl p ↦ inl p
    | inr p ↦ elim (cases_Bool (is_in x.by V.lost)) [
      | inl l ↦ inl (H.knows v V (all h v mv) x i l)
      | inr l ↦ elim (said-comparable x.by V (with_admitted x.start (S.owner x.start) x.at) (all (S.owner x.by) x.by (member-of V x.by g n l)) (H.admitted_ok x i).said) [
        | inl q ↦ inr (within-with_admitted-back x.start (S.owner x.start) V x.at q p)
        | inr q ↦ inl (q.admitted x.start (with_admitted-admits x.start (S.owner x.start) x.at))
      ]
    ]
  ]

  -- Nothing is between an admission and it.
  pub between-said : (V : Membership) → GoodWord S V → ((h s : ℕ) → start_of V h ≡ Some s → In V (S.history.said s))
      → (h v : ℕ) → start_of V h ≡ Some v → (x : Admitted) → In x S.history.admitted → Within x.at V → (Within V x.at → ⊥) → admits V x.start ≡ true
  between-said V g all h v mv x i p n = elim (holds-or-within V g all h v mv x i (names-within x.at V x.by (one-first x.at V (at-good x i) g) p (initiator-named x i))) [
    | inl a ↦ a
    | inr q ↦ absurd (n q)
  ]

  -- where a start that a word names stands in the greatest decided word below
  place : (C w : Membership) (m : ℕ) → In C S.history.decided → GoodWord S w → names w m ≡ true
      → ((x : Admitted) → In x S.history.admitted → x.start ≡ m → Within x.at w → Within x.at C)
      → (names C m ≡ true) ⊎ ((x : Admitted) × In x S.history.admitted × (x.start ≡ m) × Alike x.at C)
  place C w m c g n low = elim (names-cases w m n) [
    | inl f ↦ inl (names-first C m (subst (λ z. list_any (λ a. a.1 == m) z ≡ true) (one-first w C g (H.decided_good C c)) f))
    | inr a ↦ let x = g.recorded m a in let p = low x.entry x.is_one x.same x.within in elim (within-cases C x.entry.at) [
      | inl q ↦ inr (x.entry, x.is_one, x.same, (p, q))
      | inr q ↦ inl (names-admits C m (subst (λ z. admits C z ≡ true) x.same (H.nothing_between C c x.entry x.is_one p q)))
    ]
  ]

  -- ---- who was admitted since

  -- A start that a later word admitted, and this one didn't, was so at this word or a later one.
  admitted-since : (v w : Membership) (s : ℕ) → In v S.history.decided → (x : Recorded S w s) → admits v s ≡ false → Within v x.entry.at
  admitted-since v w s d x n = elim (H.chain v x.entry.at d (H.admitted_ok x.entry x.is_one).decided) [
    | inl p ↦ p
    | inr p ↦ elim (within-cases v x.entry.at) [
      | inl q ↦ q
      | inr q ↦ absurd (not-both (admits v s) (subst (λ z. admits v z ≡ true) x.same (H.nothing_between v d x.entry x.is_one p q)) n)
    ]
  ]

  -- So it is above each start of this word that isn't lost in the later one.
  pub above-before : (v w : Membership) → In v S.history.decided → In w S.history.decided → (s t : ℕ) → names v s ≡ true → is_in s w.lost ≡ false
      → admits w t ≡ true → admits v t ≡ false → s < t
  above-before v w dv dw s t n l y o = under x.same (ok.above (S.owner s) s (member-of x.entry.at s (at-good x.entry x.is_one) named unlost))
    where
      x : Recorded S w t
      x = (H.decided_good w dw).recorded t y

      ok : AdmittedOk S x.entry
      ok = H.admitted_ok x.entry x.is_one

      named : names x.entry.at s ≡ true
      named = names-within v x.entry.at s (one-first v x.entry.at (H.decided_good v dv) (at-good x.entry x.is_one)) (admitted-since v w t dv x o) n

      unlost : is_in s x.entry.at.lost ≡ false
      unlost = elim (cases_Bool (is_in s x.entry.at.lost)) [
        | inl e ↦ absurd (not-both (is_in s w.lost) (x.within.lost s e) l)
        | inr e ↦ e
      ]

      under : x.entry.start ≡ t → s < x.entry.start → s < t
      under e k = omega (arith, e, k)

  -- So of two decided words, a member that only the later one names is above those of the earlier one that stay.
  pub members-rise : (v w : Membership) → In v S.history.decided → In w S.history.decided
      → (h s g t : ℕ) → start_of v h ≡ Some s → start_of w h ≡ Some s → start_of w g ≡ Some t → names v t ≡ false → s < t
  members-rise v w dv dw h s g t vs ws wt n =
      above-before v w dv dw s t (member-is v h s gv vs).0 (member-is w h s gw ws).1
      (admits-fresh v w t (one-first v w gv gw) n (member-is w g t gw wt).0) (unnamed (cases_Bool (admits v t)))
    where
      gv : GoodWord S v
      gv = H.decided_good v dv

      gw : GoodWord S w
      gw = H.decided_good w dw

      unnamed : (admits v t ≡ true) ⊎ (admits v t ≡ false) → admits v t ≡ false
      unnamed (inl e) = absurd (not-both (names v t) (names-admits v t e) n)
      unnamed (inr e) = e

  -- ---- the least word elsewhere

  -- The least decided word that isn't within V has V within it.
  module _ (V : Membership) (g : GoodWord S V) (all : (h s : ℕ) → start_of V h ≡ Some s → In V (S.history.said s)) (hv v : ℕ) (mv : start_of V hv ≡ Some v)
      (C : Membership) (c : In C S.history.decided) (cv : Within C V) (best : (d : Membership) → In d S.history.decided → Within d V → Within d C)
      (U : Membership) (ud : In U S.history.decided) (out : Within U V → ⊥) (least : (d : Membership) → In d S.history.decided → (Within d V → ⊥) → Within U d) where
    gU : GoodWord S U
    gU = H.decided_good U ud

    gC : GoodWord S C
    gC = H.decided_good C c

    cu : Within C U
    cu = elim (H.chain C U c ud) [ inl p ↦ p | inr p ↦ absurd (out (within-trans U C V p cv)) ]

    common : (m : ℕ) → In U (S.history.said m) → In V (S.history.said m) → Within V U
    common m i k = elim (said-comparable m U V i k) [ inl p ↦ absurd (out p) | inr p ↦ p ]

    -- members of each that the other names
    crossed : (u : ℕ) → In U (S.history.said u) → names V u ≡ true → names U v ≡ true → Within V U
    crossed u su nu nv = elim (cases_Bool (is_in u V.lost)) [
      | inl lu ↦ elim (cases_Bool (is_in v U.lost)) [
        | inl lv ↦ absurd (H.one_way u v U V su (all hv v mv) lv lu)
        | inr lv ↦ common v (H.members_said U ud (S.owner v) v (member-of U v gU nv lv)) (all hv v mv)
      ]
      | inr lu ↦ common u su (all (S.owner u) u (member-of V u g nu lu))
    ]

    in-V : (m : ℕ) → names C m ≡ true → names V m ≡ true
    in-V m n = names-within C V m (one-first C V gC g) cv n

    in-U : (m : ℕ) → names C m ≡ true → names U m ≡ true
    in-U m n = names-within C U m (one-first C U gC gU) cu n

    met : (u : ℕ) → In U (S.history.said u)
        → (names C u ≡ true) ⊎ ((x : Admitted) × In x S.history.admitted × (x.start ≡ u) × Alike x.at C)
        → (names C v ≡ true) ⊎ ((y : Admitted) × In y S.history.admitted × (y.start ≡ v) × Alike y.at C) → Within V U
    met u su (inl nu) (inl nv) = crossed u su (in-V u nu) (in-U v nv)
    met u su (inl nu) (inr y) = elim (within-cases U y.0.at) [
      | inl p ↦ absurd (out (within-trans U C V (within-trans U y.0.at C p y.3.0) cv))
      | inr p ↦ crossed u su (in-V u nu) (names-admits U v (subst (λ z. admits U z ≡ true) y.2 (H.nothing_between U ud y.0 y.1 (within-trans y.0.at C U y.3.0 cu) p)))
    ]
    met u su (inr x) (inl nv) =
        let i = names-within x.0.at V x.0.by (one-first x.0.at V (at-good x.0 x.1) g) (within-trans x.0.at C V x.3.0 cv) (initiator-named x.0 x.1) in
        elim (holds-or-within V g all hv v mv x.0 x.1 i) [
          | inl a ↦ crossed u su (names-admits V u (subst (λ z. admits V z ≡ true) x.2 a)) (in-U v nv)
          | inr p ↦ within-trans V x.0.at U p (within-trans x.0.at C U x.3.0 cu)
        ]
    met u su (inr x) (inr y) =
        let same = H.one_each x.0 y.0 x.1 y.1 (within-trans x.0.at C y.0.at x.3.0 y.3.1, within-trans y.0.at C x.0.at y.3.0 x.3.1) in
        let e : u ≡ v = sym x.2 ∙ ap (λ z. z.start) same ∙ y.2 in
        common v (subst (λ z. In U (S.history.said z)) e su) (all hv v mv)

    below-V : (x : Admitted) → In x S.history.admitted → x.start ≡ v → Within x.at V → Within x.at C
    below-V x i same p = best x.at (H.admitted_ok x i).decided p

    below-U : (u : ℕ) → names U u ≡ true → (x : Admitted) → In x S.history.admitted → x.start ≡ u → Within x.at U → Within x.at C
    below-U u n x i same p = elim (within-cases x.at V) [
      | inl q ↦ best x.at (H.admitted_ok x i).decided q
      | inr q ↦ absurd (not-both (names x.at x.start) (subst (λ z. names x.at z ≡ true) (sym same) (names-within U x.at u (one-first U x.at gU (at-good x i)) (least x.at (H.admitted_ok x i).decided q) n)) (H.admitted_ok x i).fresh)
    ]

    -- so the word that all its members said is within it
    pub least-above : Within V U
    least-above = elim (H.has_member U ud) [
      | inl p ↦ absurd (out (within-trans U S.history.first V p (first-within V)))
      | inr m ↦
          let nu = (member-is U m.0 m.1 gU m.2).0 in
          met m.1 (H.members_said U ud m.0 m.1 m.2) (place C U m.1 c gU nu (below-U m.1 nu)) (place C V v c g (member-is V hv v g mv).0 below-V)
    ]

  -- A word that all its members said is comparable with each decided word.
  pub agrees-with : (V : Membership) → GoodWord S V → ((h s : ℕ) → start_of V h ≡ Some s → In V (S.history.said s))
      → (h v : ℕ) → start_of V h ≡ Some v → (U : Membership) → In U S.history.decided → Comparable U V
  agrees-with V g all h v mv U ud = elim (within-cases U V) [
    | inl p ↦ inl p
    | inr out ↦
        let b = best-within V S.history.decided S.history.first H.chain H.first_decided (first-within V) in
        elim (least-elsewhere V S.history.decided H.chain) [
          | inl q ↦ absurd (out (q U ud))
          | inr l ↦ inr (within-trans V l.0 U
              (least-above V g all h v mv b.0 b.1 b.2 b.3 l.0 l.1 l.2 l.3)
              (l.3 U ud out))
        ]
  ]

  -- ---- what a member knows

  -- A member that has heard all that the initiator of an admission said to it knows of that admission.
  pub knows-told : (x : Admitted) → In x S.history.admitted → (a : ℕ) (w v : Membership) → GoodWord S v → names v a ≡ true → Within w v
      → (names x.at a ≡ true → admits w x.start ≡ true) → admits v x.start ≡ true
  knows-told x i a w v g n p told = elim (cases_Bool (names x.at a)) [
    | inl t ↦ p.admitted x.start (told t)
    | inr f ↦
        let y = g.recorded a (admits-fresh x.at v a (one-first x.at v (at-good x i) g) f n) in
        elim (chain-at x y.entry i y.is_one) [
          | inl q ↦ elim (same-or-later x y.entry i y.is_one q) [
            | inl e ↦ self y e
            | inr b ↦ y.within.admitted x.start b
          ]
          | inr q ↦ elim (same-or-later y.entry x y.is_one i q) [
            | inl e ↦ self y (sym e)
            | inr b ↦ absurd (not-both (names x.at a) (names-admits x.at a (subst (λ z. admits x.at z ≡ true) y.same b)) f)
          ]
        ]
  ]
    where
      self : (y : Recorded S v a) → x ≡ y.entry → admits v x.start ≡ true
      self y e = subst (λ z. admits v z ≡ true) (sym (ap (λ z. z.start) e ∙ y.same)) (admitted-in y)
        where
          admitted-in : (y : Recorded S v a) → admits v a ≡ true
          admitted-in y = admits-fresh y.entry.at v a (one-first y.entry.at v (at-good y.entry y.is_one) g)
              (subst (λ z. names y.entry.at z ≡ false) y.same (H.admitted_ok y.entry y.is_one).fresh) n
