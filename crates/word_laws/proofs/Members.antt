-- Who is a member of a word, and words that are compared one by one.
use Rattle.std.proofs.Common.{◌≡◌, ◌<◌, ◌≤◌, max, Bool, true, false, List, [], ◌∷◌, ◌++◌, refl, sym, ap, subst, ◌∙◌, ◌⊎◌, inl, inr, ◌==◌, arith, true≢false}
use Rattle.std.proofs.lemmas.Bool.{cond_both, cases_Bool, cases_lt, or_cases, and_parts, or_left, or_right, not_from_true, not_from_false, eqb-true, eqb-false, leb-true, le-leb, ltb-true, not-true}
use Rattle.std.proofs.lemmas.Option.{none-some}
use Rattle.std.specs.Prelude.{ℕ, ◌||◌, not, fold, map, nat_le, nat_lt, Option, Some, None}
use Rattle.std.specs.List.{list_all}
use Rattle.volt_wire.specs.Word.{Membership}
use Rattle.partition_ring.specs.Placement.{greater_start}
use Rattle.cluster_model.specs.Words.{is_in, not_lost, members, start_of, is_some_of, is_member, first_of, initiator}
use Rattle.cluster_model.specs.AgentState.{AgentState, is_initiator_in, initiates}
use Rattle.cluster_steps.specs.Lists.{In}
use Rattle.word_laws.specs.Histories.{Within, Comparable, names}
use Rattle.cluster_steps.proofs.Lists.{eqb-same, list_all-from, list_all-at, list_any-in, list_any-from, same-some, in-left, in-right, in-cases, in-map, in-map-from, in-filter, filter-in, all-at}
use Rattle.word_laws.proofs.Algebra.{StartsOwned, HostsOwned, within-cases, within-refl, within-trans, names-first, names-admits, names-cases}

-- ---- the start that stands with a host

abbrev StartIs : ℕ → Option ℕ → List (ℕ × ℕ) → ℕ → Type 0
StartIs h o ms s = fold (greater_start h) o ms ≡ Some s

from-some : (h t s : ℕ) (ms : List (ℕ × ℕ)) → StartIs h (Some t) ms s → (s ≡ t) ⊎ In (h, s) ms
from-some h t s [] e = inl (sym (same-some e))
from-some h t s (m ∷ ms) k = cond_both (m.0 == h) (max t m.1) t (λ x. StartIs h (Some x) ms s → (s ≡ t) ⊎ In (h, s) (m ∷ ms))
    (λ e j. elim (from-some h (max t m.1) s ms j) [
      | inl q ↦ either (eqb-true m.0 h e) (larger t m.1 s q)
      | inr i ↦ inr (inr i)
    ])
    (λ _ j. elim (from-some h t s ms j) [
      | inl q ↦ inl q
      | inr i ↦ inr (inr i)
    ]) k
  where
    larger : (a b s : ℕ) → s ≡ max a b → (s ≡ a) ⊎ (s ≡ b)
    larger a b s q = elim (cases_lt a b) [
      | inl l ↦ inr (omega (arith, q, l))
      | inr l ↦ inl (omega (arith, q, l))
    ]

    either : m.0 ≡ h → (s ≡ t) ⊎ (s ≡ m.1) → (s ≡ t) ⊎ In (h, s) (m ∷ ms)
    either e (inl q) = inl q
    either e (inr q) = let r = sym q in inr (inl (λ i. (e i, r i)))

from-none : (h s : ℕ) (ms : List (ℕ × ℕ)) → StartIs h None ms s → In (h, s) ms
from-none h s [] k = absurd (none-some s k)
from-none h s (m ∷ ms) k = cond_both (m.0 == h) (Some m.1) None (λ o. StartIs h o ms s → In (h, s) (m ∷ ms))
    (λ e j. elim (from-some h m.1 s ms j) [
      | inl q ↦ let r = sym q in let p = eqb-true m.0 h e in inl (λ i. (p i, r i))
      | inr i ↦ inr i
    ])
    (λ _ j. inr (from-none h s ms j)) k

-- the start that is found isn't less than the one before, nor than any that stands with the host
at-least : (h t : ℕ) (ms : List (ℕ × ℕ)) → (s : ℕ) × StartIs h (Some t) ms s × (t ≤ s) × ((r : ℕ) → In (h, r) ms → r ≤ s)
at-least h t [] = (t, refl, omega arith, λ r i. absurd i)
at-least h t (m ∷ ms) = cond_both (m.0 == h) (max t m.1) t (λ x. (s : ℕ) × StartIs h (Some x) ms s × (t ≤ s) × ((r : ℕ) → In (h, r) (m ∷ ms) → r ≤ s))
    (λ e. let f = at-least h (max t m.1) ms in (
      f.0,
      f.1,
      omega (arith, f.2),
      λ r i. elim i [
        | inl k ↦ under t m.1 r f.0 (ap (λ x. x.1) k) f.2
        | inr k ↦ f.3 r k
      ],
    ))
    (λ n. let f = at-least h t ms in (
      f.0,
      f.1,
      f.2,
      λ r i. elim i [
        | inl k ↦ absurd (eqb-false m.0 h n (ap (λ x. x.0) k))
        | inr k ↦ f.3 r k
      ],
    ))
  where
    under : (t x r s : ℕ) → x ≡ r → max t x ≤ s → r ≤ s
    under t x r s e l = omega arith

found : (h r : ℕ) (ms : List (ℕ × ℕ)) → In (h, r) ms → (s : ℕ) × StartIs h None ms s × (r ≤ s)
found h r [] i = absurd i
found h r (m ∷ ms) i = cond_both (m.0 == h) (Some m.1) None (λ o. (s : ℕ) × StartIs h o ms s × (r ≤ s))
    (λ e. let f = at-least h m.1 ms in (
      f.0,
      f.1,
      elim i [
        | inl k ↦ subst (λ x. x ≤ f.0) (ap (λ x. x.1) k) f.2
        | inr k ↦ f.3 r k
      ],
    ))
    (λ n. elim i [
      | inl k ↦ absurd (eqb-false m.0 h n (ap (λ x. x.0) k))
      | inr k ↦ found h r ms k
    ])

-- ---- members

-- of its host, no other of these has a greater start
abbrev greatest : List (ℕ × ℕ) → ℕ × ℕ → Bool
greatest ms m = list_all (λ n. not (n.0 == m.0) || nat_le n.1 m.1) ms

-- whether a member's start isn't among the lost ones
abbrev pub stays : List ℕ → ℕ × ℕ → Bool
stays lost m = not (is_in m.1 lost)

-- the hosts with which the word began, and those that it admitted
abbrev all_named : Membership → List (ℕ × ℕ)
all_named w = w.first ++ map (λ a. (a.1, a.0)) w.admitted

-- the start that a word has for a host is one of its members, and conversely
pub start-in-members : (w : Membership) (h s : ℕ) → start_of w h ≡ Some s → In (h, s) (members w)
start-in-members w h s e = from-none h s (members w) e

pub members-not_lost : (w : Membership) (h s : ℕ) → In (h, s) (members w) → In (h, s) (not_lost w)
members-not_lost w h s i = (in-filter (greatest (not_lost w)) (h, s) (not_lost w) i).0

-- no start of its host that isn't lost is greater than a member
pub members-greatest : (w : Membership) (h r s : ℕ) → In (h, s) (members w) → In (h, r) (not_lost w) → r ≤ s
members-greatest w h r s i j =
    let g = (in-filter (greatest (not_lost w)) (h, s) (not_lost w) i).1 in
    let a = list_all-at (λ n. not (n.0 == h) || nat_le n.1 s) (not_lost w) (h, r) g j in
    elim (or_cases (not (h == h)) (nat_le r s) a) [
      | inl k ↦ absurd (true≢false (sym k ∙ not_from_true (h == h) (eqb-same h)))
      | inr k ↦ leb-true r s k
    ]

pub member-start : (w : Membership) (h s : ℕ) → In (h, s) (members w) → start_of w h ≡ Some s
member-start w h s i =
    let f = found h s (members w) i in
    let j = members-not_lost w h f.0 (from-none h f.0 (members w) f.1) in
    let e : f.0 ≡ s = omega (arith, f.2, members-greatest w h f.0 s i j) in
    f.1 ∙ ap Some e

module _ (owner : ℕ → ℕ) (w : Membership) (fo : HostsOwned owner w.first) (ao : StartsOwned owner w.admitted) where
  named-in : (s : ℕ) → names w s ≡ true → In (owner s, s) (all_named w)
  named-in s e = elim (names-cases w s e) [
    | inl k ↦
        let r = list_any-from (λ m. m.1 == s) w.first k in
        let q = eqb-true r.0.1 s r.2 in
        let o = sym (all-at (λ m. owner m.1 ≡ m.0) w.first fo r.0 r.1) ∙ ap owner q in
        in-left (owner s, s) w.first (map (λ a. (a.1, a.0)) w.admitted) (subst (λ x. In x w.first) (λ i. (o i, q i)) r.1)
    | inr k ↦
        let r = list_any-from (λ a. a.0 == s) w.admitted k in
        let q = eqb-true r.0.0 s r.2 in
        let o = sym (all-at (λ a. owner a.0 ≡ a.1) w.admitted ao r.0 r.1) ∙ ap owner q in
        in-right (owner s, s) w.first (map (λ a. (a.1, a.0)) w.admitted)
        (subst (λ x. In x (map (λ a. (a.1, a.0)) w.admitted)) (λ i. (o i, q i)) (in-map (λ a. (a.1, a.0)) r.0 w.admitted r.1))
  ]

  in-named : (h s : ℕ) → In (h, s) (all_named w) → (names w s ≡ true) × (owner s ≡ h)
  in-named h s i = elim (in-cases (h, s) w.first (map (λ a. (a.1, a.0)) w.admitted) i) [
    | inl k ↦ (names-first w s (list_any-in (λ m. m.1 == s) w.first (h, s) k (eqb-same s)), all-at (λ m. owner m.1 ≡ m.0) w.first fo (h, s) k)
    | inr k ↦
        let r = in-map-from (λ a. (a.1, a.0)) (h, s) w.admitted k in
        let q : r.0.0 ≡ s = ap (λ x. x.1) r.2 in
        let p : r.0.1 ≡ h = ap (λ x. x.0) r.2 in
        let j = subst (λ x. In x w.admitted) (λ i. (q i, p i)) r.1 in
        (names-admits w s (list_any-in (λ a. a.0 == s) w.admitted (s, h) j (eqb-same s)), all-at (λ a. owner a.0 ≡ a.1) w.admitted ao (s, h) j)
  ]

  -- who is there and not lost is named, not lost, and its host's
  pub in-not_lost : (h s : ℕ) → In (h, s) (not_lost w) → (names w s ≡ true) × (is_in s w.lost ≡ false) × (owner s ≡ h)
  in-not_lost h s i =
      let f = in-filter (stays w.lost) (h, s) (all_named w) i in
      let n = in-named h s f.0 in
      (n.0, not-true (is_in s w.lost) f.1, n.1)

  not_lost-in : (s : ℕ) → names w s ≡ true → is_in s w.lost ≡ false → In (owner s, s) (not_lost w)
  not_lost-in s e n = filter-in (stays w.lost) (owner s, s) (all_named w) (named-in s e) (not_from_false (is_in s w.lost) n)

  member-of-greatest : (s : ℕ) → names w s ≡ true → is_in s w.lost ≡ false
      → ((r : ℕ) → names w r ≡ true → owner r ≡ owner s → is_in r w.lost ≡ false → r ≤ s) → In (owner s, s) (members w)
  member-of-greatest s e n most = filter-in (greatest (not_lost w)) (owner s, s) (not_lost w) (not_lost-in s e n)
      (list_all-from (λ m. not (m.0 == owner s) || nat_le m.1 s) (not_lost w) (λ m i. let k = in-not_lost m.0 m.1 i in elim (cases_Bool (m.0 == owner s)) [
        | inl q ↦ or_right (not (m.0 == owner s)) (nat_le m.1 s) (le-leb m.1 s (most m.1 k.0 (k.2 ∙ eqb-true m.0 (owner s) q) k.1))
        | inr q ↦ or_left (not (m.0 == owner s)) (nat_le m.1 s) (not_from_false (m.0 == owner s) q)
      ]))

-- a member is named, not lost, and its host's
pub start_of-named : (owner : ℕ → ℕ) (w : Membership) (h s : ℕ) → HostsOwned owner w.first → StartsOwned owner w.admitted
    → start_of w h ≡ Some s → (names w s ≡ true) × (is_in s w.lost ≡ false) × (owner s ≡ h)
start_of-named owner w h s fo ao e = in-not_lost owner w fo ao h s (members-not_lost w h s (start-in-members w h s e))

-- who is named and not lost, and is the greatest such of its host, is a member
pub start_of-greatest : (owner : ℕ → ℕ) (w : Membership) (s : ℕ) → HostsOwned owner w.first → StartsOwned owner w.admitted
    → names w s ≡ true → is_in s w.lost ≡ false
    → ((r : ℕ) → names w r ≡ true → owner r ≡ owner s → is_in r w.lost ≡ false → r ≤ s) → start_of w (owner s) ≡ Some s
start_of-greatest owner w s fo ao e n most = member-start w (owner s) s (member-of-greatest owner w fo ao s e n most)

-- a test that all members pass is passed by each
pub members-all : (w : Membership) (p : ℕ × ℕ → Bool) (h s : ℕ) → list_all p (members w) ≡ true → start_of w h ≡ Some s → p (h, s) ≡ true
members-all w p h s a e = list_all-at p (members w) (h, s) a (start-in-members w h s e)

-- a start that is above all members is above each
pub members-below : (w : Membership) (start : ℕ) → list_all (λ m. nat_lt m.1 start) (members w) ≡ true → (h s : ℕ) → start_of w h ≡ Some s → s < start
members-below w start a h s e = ltb-true s start (members-all w (λ m. nat_lt m.1 start) h s a e)

pub first-in : {A : Type 0} (x : A) (xs : List A) → first_of xs ≡ Some x → In x xs
first-in x [] e = absurd (none-some x e)
first-in x (y ∷ ys) e = inl (same-some e)

pub initiator-member : (w : Membership) (h s : ℕ) → initiator w ≡ Some (h, s) → start_of w h ≡ Some s
initiator-member w h s e = member-start w h s (first-in (h, s) (members w) e)

pub is_some_of-is : (o : Option ℕ) (s : ℕ) → is_some_of o s ≡ true → o ≡ Some s
is_some_of-is None s e = absurd (true≢false (sym e))
is_some_of-is (Some x) s e = ap Some (eqb-true x s e)

pub is_member-start : (w : Membership) (h s : ℕ) → is_member w h s ≡ true → start_of w h ≡ Some s
is_member-start w h s e = is_some_of-is (start_of w h) s e

pub start-is_member : (w : Membership) (h s : ℕ) → start_of w h ≡ Some s → is_member w h s ≡ true
start-is_member w h s e = ap (λ o. is_some_of o s) e ∙ eqb-same s

initiator_in-is : (h s : ℕ) (o : Option (ℕ × ℕ)) → is_initiator_in h s o ≡ true → o ≡ Some (h, s)
initiator_in-is h s None e = absurd (true≢false (sym e))
initiator_in-is h s (Some m) e =
    let p = and_parts (m.0 == h) (m.1 == s) e in
    λ i. Some (eqb-true m.0 h p.0 i, eqb-true m.1 s p.1 i)

pub initiates-is : (h : ℕ) (a : AgentState) (w : Membership) → initiates h a (Some w) ≡ true → initiator w ≡ Some (h, a.start)
initiates-is h a w e = initiator_in-is h a.start (initiator w) e

-- ---- words of which any two can be compared

abbrev pub Comparing : List Membership → Type 0
Comparing ds = (v w : Membership) → In v ds → In w ds → Comparable v w

fewer : (d : Membership) (ds : List Membership) → Comparing (d ∷ ds) → Comparing ds
fewer d ds c v w i j = c v w (inr i) (inr j)

-- the greatest of these that is within V
abbrev Best : Membership → List Membership → Type 0
Best V ds = (best : Membership) × In best ds × Within best V × ((d : Membership) → In d ds → Within d V → Within d best)

-- none of these is within V, or there is a greatest
best-or-none : (V : Membership) (ds : List Membership) → Comparing ds → ((d : Membership) → In d ds → Within d V → ⊥) ⊎ Best V ds
best-or-none V [] c = inl (λ d i h. i)
best-or-none V (w ∷ ds) c = elim (within-cases w V) [
  | inr n ↦ elim (best-or-none V ds (fewer w ds c)) [
    | inl none ↦ inl (λ d i h. elim i [
      | inl e ↦ n (subst (λ x. Within x V) (sym e) h)
      | inr k ↦ none d k h
    ])
    | inr b ↦ inr (
      b.0,
      inr b.1,
      b.2,
      λ d i h. elim i [
        | inl e ↦ absurd (n (subst (λ x. Within x V) (sym e) h))
        | inr k ↦ b.3 d k h
      ],
    )
  ]
  | inl y ↦ elim (best-or-none V ds (fewer w ds c)) [
    | inl none ↦ inr (
      w,
      inl refl,
      y,
      λ d i h. elim i [
        | inl e ↦ subst (λ x. Within x w) e (within-refl w)
        | inr k ↦ absurd (none d k h)
      ],
    )
    | inr b ↦ elim (c w b.0 (inl refl) (inr b.1)) [
      | inl le ↦ inr (
        b.0,
        inr b.1,
        b.2,
        λ d i h. elim i [
          | inl e ↦ subst (λ x. Within x b.0) e le
          | inr k ↦ b.3 d k h
        ],
      )
      | inr ge ↦ inr (
        w,
        inl refl,
        y,
        λ d i h. elim i [
          | inl e ↦ subst (λ x. Within x w) e (within-refl w)
          | inr k ↦ within-trans d b.0 w (b.3 d k h) ge
        ],
      )
    ]
  ]
]

-- of words of which one is within V there is a greatest
pub best-within : (V : Membership) (ds : List Membership) (c : Membership) → Comparing ds → In c ds → Within c V
    → (best : Membership) × In best ds × Within best V × ((d : Membership) → In d ds → Within d V → Within d best)
best-within V ds c k i h = elim (best-or-none V ds k) [
  | inl none ↦ absurd (none c i h)
  | inr b ↦ b
]

-- all of these are within V, or there is a least one that isn't
pub least-elsewhere : (V : Membership) (ds : List Membership) → Comparing ds
    → ((d : Membership) → In d ds → Within d V) ⊎ ((u : Membership) × In u ds × (Within u V → ⊥) × ((d : Membership) → In d ds → (Within d V → ⊥) → Within u d))
least-elsewhere V [] c = inl (λ d i. absurd i)
least-elsewhere V (w ∷ ds) c = elim (within-cases w V) [
  | inl y ↦ elim (least-elsewhere V ds (fewer w ds c)) [
    | inl all ↦ inl (λ d i. elim i [
      | inl e ↦ subst (λ x. Within x V) e y
      | inr k ↦ all d k
    ])
    | inr b ↦ inr (
      b.0,
      inr b.1,
      b.2,
      λ d i n. elim i [
        | inl e ↦ absurd (n (subst (λ x. Within x V) e y))
        | inr k ↦ b.3 d k n
      ],
    )
  ]
  | inr out ↦ elim (least-elsewhere V ds (fewer w ds c)) [
    | inl all ↦ inr (
      w,
      inl refl,
      out,
      λ d i n. elim i [
        | inl e ↦ subst (λ x. Within w x) e (within-refl w)
        | inr k ↦ absurd (n (all d k))
      ],
    )
    | inr b ↦ elim (c w b.0 (inl refl) (inr b.1)) [
      | inl le ↦ inr (
        w,
        inl refl,
        out,
        λ d i n. elim i [
          | inl e ↦ subst (λ x. Within w x) e (within-refl w)
          | inr k ↦ within-trans w b.0 d le (b.3 d k n)
        ],
      )
      | inr ge ↦ inr (
        b.0,
        inr b.1,
        b.2,
        λ d i n. elim i [
          | inl e ↦ subst (λ x. Within b.0 x) e ge
          | inr k ↦ b.3 d k n
        ],
      )
    ]
  ]
]
