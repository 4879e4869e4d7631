-- Copies of a partition by a word, and who leads them.
use Rattle.log_laws.proofs.Names.{◌≡◌, ◌+◌, ◌<◌, ◌≤◌, zero, suc, true, false, List, [], ◌∷◌, refl, sym, subst, ap, ◌∙◌, ◌⊎◌, inl, inr, ◌==◌, true≢false, arith, cases_eq, and_parts, and_from, not-true, not_from_true, not_from_false, eqb-true, eq-eqb, false_from_ne_true, ℕ, ◌||◌, not, map, unwrap_or, is_some, Some, None, list_any, range_with_len, Membership, slot_of, part_of, slots_of_part, ordered_copies, same_copies, Deployment, part_of_slot, is_in, members, start_of_slot, copies, leader, first_of, is_some_of, SiteState, is_joiner, leader_in, start_in_view, copies_in, is_leader, other_copies, In, eqb-same, same-some, in-filter, filter-in, list_any-in, list_any-from, is_some_of-is, first-in, standing-in, in-standing, not-joiner, follows}
use Rattle.partition_ring.specs.Placement.{standing}

-- ---- numbers in lists

pub is_in-in : (x : ℕ) (xs : List ℕ) → is_in x xs ≡ true → In x xs
is_in-in x xs e = let r = list_any-from (λ y. y == x) xs e in subst (λ y. In y xs) (eqb-true r.0 x r.2) r.1

pub in-is_in : (x : ℕ) (xs : List ℕ) → In x xs → is_in x xs ≡ true
in-is_in x xs i = list_any-in (λ y. y == x) xs x i (eqb-same x)

pub range-in : (c a n : ℕ) → a ≤ c → c < a + n → In c (range_with_len a n)
range-in c a zero low high = absurd (omega arith)
range-in c a (suc n) low high = elim (cases_eq a c) [ inl e ↦ inl e | inr d ↦ inr (range-in c (a + 1) n (omega (arith, d)) (omega arith)) ]

pub in-range : (c a n : ℕ) → In c (range_with_len a n) → (a ≤ c) × (c < a + n)
in-range c a zero i = absurd i
in-range c a (suc n) (inl e) = (omega (arith, e), omega (arith, e))
in-range c a (suc n) (inr i) = let p = in-range c (a + 1) n i in (omega (arith, p.0), omega (arith, p.1))

-- a slot is one of its own partition's alone
pub part-slots : (k c : ℕ) → In c (slots_of_part k (part_of k c))
part-slots k c = range-in c (slot_of k (part_of k c) 0) (k + 1) (omega arith) (omega arith)

pub slots-part : (k p c : ℕ) → In c (slots_of_part k p) → part_of k c ≡ p
slots-part k p c i = let r = in-range c (slot_of k p 0) (k + 1) i in between r.0 r.1
  where
    between : slot_of k p 0 ≤ c → c < slot_of k p 0 + (k + 1) → part_of k c ≡ p
    between l h = grind arith

-- ---- copies that stand

module _ (D : Deployment) (w : Membership) where
  -- the copies that stand, and those of them that are copies in order
  in-copies : (c p : ℕ) → is_in c (copies D w p) ≡ list_any (λ m. m.1 == c) (standing D.layout.hosts (members w) (slots_of_part D.layout.k p))
  in-copies c p =
      any-slots (ordered_copies D.layout.hosts D.layout.k (members w) p)
      ∙ same_copies (λ m. m.1 == c) (standing D.layout.hosts (members w) (slots_of_part D.layout.k p))
    where
      any-slots : (ms : List (ℕ × ℕ)) → is_in c (map (λ m. m.1) ms) ≡ list_any (λ m. m.1 == c) ms
      any-slots [] = refl
      any-slots (m ∷ ms) = ap (λ b. m.1 == c || b) (any-slots ms)

  -- Where a slot's host is a member it is a copy of its partition, and no others are.
  pub member-copy : (c a : ℕ) → start_of_slot D w c ≡ Some a → is_in c (copies D w (part_of_slot D c)) ≡ true
  member-copy c a e =
      in-copies c (part_of_slot D c)
      ∙ list_any-in (λ m. m.1 == c) (standing D.layout.hosts (members w) (slots_of_part D.layout.k (part_of_slot D c))) (a, c)
      (standing-in D.layout.hosts (members w) c a (slots_of_part D.layout.k (part_of_slot D c)) (part-slots D.layout.k c) e) (eqb-same c)

  pub copy-member : (c p : ℕ) → is_in c (copies D w p) ≡ true → (part_of_slot D c ≡ p) × ((a : ℕ) × (start_of_slot D w c ≡ Some a))
  copy-member c p e =
      let r = list_any-from (λ m. m.1 == c) (standing D.layout.hosts (members w) (slots_of_part D.layout.k p)) (sym (in-copies c p) ∙ e) in
      let k = in-standing D.layout.hosts (members w) r.0.1 r.0.0 (slots_of_part D.layout.k p) r.1 in
      let q = eqb-true r.0.1 c r.2 in
      (slots-part D.layout.k p c (subst (λ x. In x (slots_of_part D.layout.k p)) q k.0), (r.0.0, ap (start_of_slot D w) (sym q) ∙ k.1))

  -- ---- who leads

  -- the leader of a partition is one of its copies, and there is one where there is a copy
  pub leader-copy : (p l : ℕ) → leader D w p ≡ Some l → (part_of_slot D l ≡ p) × ((a : ℕ) × (start_of_slot D w l ≡ Some a))
  leader-copy p l e = copy-member l p (in-is_in l (copies D w p) (first-in l (copies D w p) e))

  pub some-leader : (c a : ℕ) → start_of_slot D w c ≡ Some a → (l : ℕ) × (leader D w (part_of_slot D c) ≡ Some l)
  some-leader c a e = first (copies D w (part_of_slot D c)) (is_in-in c (copies D w (part_of_slot D c)) (member-copy c a e))
    where
      first : (xs : List ℕ) → In c xs → (l : ℕ) × (first_of xs ≡ Some l)
      first [] i = absurd i
      first (x ∷ xs) i = (x, refl)

  -- whom a slot follows
  pub follows-leader : (c l : ℕ) → follows D w c l ≡ true → (leader D w (part_of_slot D c) ≡ Some l) × (l ≡ c → ⊥)
  follows-leader c l e =
      let p = and_parts (is_some_of (leader D w (part_of_slot D c)) l) (not (l == c)) e in
      (is_some_of-is (leader D w (part_of_slot D c)) l p.0, λ q. true≢false (sym p.1 ∙ not_from_true (l == c) (eq-eqb l c q)))

  pub leader-follows : (c l : ℕ) → leader D w (part_of_slot D c) ≡ Some l → (l ≡ c → ⊥) → follows D w c l ≡ true
  leader-follows c l e n = and_from (is_some_of (leader D w (part_of_slot D c)) l) (not (l == c))
      (ap (λ o. is_some_of o l) e ∙ eqb-same l) (not_from_false (l == c) (false_from_ne_true (l == c) (λ q. n (eqb-true l c q))))

  pub follows-one : (c l m : ℕ) → follows D w c l ≡ true → follows D w c m ≡ true → l ≡ m
  follows-one c l m e f = same-some (sym (follows-leader c l e).0 ∙ (follows-leader c m f).0)

  pub not-follows : (c l : ℕ) → (leader D w (part_of_slot D c) ≡ Some l → l ≡ c) → follows D w c l ≡ false
  not-follows c l f = false_from_ne_true (follows D w c l) (λ e. let p = follows-leader c l e in p.1 (f p.0))

  pub leader-follows-none : (c l : ℕ) → leader D w (part_of_slot D c) ≡ Some c → follows D w c l ≡ false
  leader-follows-none c l e = not-follows c l (λ k. same-some (sym k ∙ e))

  -- a slot whose host is a member leads, or follows the leader
  pub leads-or-follows : (c a : ℕ) → start_of_slot D w c ≡ Some a → (leader D w (part_of_slot D c) ≡ Some c) ⊎ ((l : ℕ) × (follows D w c l ≡ true))
  leads-or-follows c a e = let r = some-leader c a e in elim (cases_eq r.0 c) [ inl q ↦ inl (r.1 ∙ ap Some q) | inr n ↦ inr (r.0, leader-follows c r.0 r.1 n) ]

  -- other slots of its partition follow a leader
  pub leader-followed : (i c : ℕ) → leader D w (part_of_slot D i) ≡ Some i → part_of_slot D c ≡ part_of_slot D i → (c ≡ i → ⊥) → follows D w c i ≡ true
  leader-followed i c e p n = leader-follows c i (ap (leader D w) p ∙ e) (λ q. n (sym q))

  -- and whom a slot follows is of its partition, and a member
  pub follows-part : (c l : ℕ) → follows D w c l ≡ true → part_of_slot D l ≡ part_of_slot D c
  follows-part c l e = (leader-copy (part_of_slot D c) l (follows-leader c l e).0).0

-- ---- at a site

module _ (D : Deployment) (i : ℕ) (s : SiteState) (w : Membership) (v : s.view ≡ Some w) where
  -- whether it leads
  pub is-leader : is_leader D i s ≡ true → (s.joining ≡ None) × (leader D w (part_of_slot D i) ≡ Some i)
  is-leader e =
      let p = and_parts (not (is_joiner s)) (is_some_of (leader_in D s.view (part_of_slot D i)) i) e in
      (not-joiner s (not-true (is_joiner s) p.0), ap (λ o. leader_in D o (part_of_slot D i)) (sym v) ∙ is_some_of-is (leader_in D s.view (part_of_slot D i)) i p.1)

  pub leader-is : s.joining ≡ None → leader D w (part_of_slot D i) ≡ Some i → is_leader D i s ≡ true
  leader-is j e = and_from (not (is_joiner s)) (is_some_of (leader_in D s.view (part_of_slot D i)) i)
      (ap (λ o. not (is_some o)) j) (ap (λ o. is_some_of (leader_in D o (part_of_slot D i)) i) v ∙ ap (λ o. is_some_of o i) e ∙ eqb-same i)

  pub start-in-view : (c a : ℕ) → start_of_slot D w c ≡ Some a → start_in_view D s.view c ≡ a
  start-in-view c a e = ap (λ o. start_in_view D o c) v ∙ ap (λ o. unwrap_or o 0) e

  -- the other copies of its partition
  pub other-copy : (c : ℕ) → is_in c (other_copies D i s) ≡ true → (c ≡ i → ⊥) × (part_of_slot D c ≡ part_of_slot D i) × ((a : ℕ) × (start_of_slot D w c ≡ Some a))
  other-copy c e =
      let r = in-filter (λ x. not (x == i)) c (copies_in D s.view (part_of_slot D i)) (is_in-in c (other_copies D i s) e) in
      let k = in-is_in c (copies D w (part_of_slot D i)) (subst (λ o. In c (copies_in D o (part_of_slot D i))) v r.0) in
      let m = copy-member D w c (part_of_slot D i) k in
      (λ q. true≢false (sym r.1 ∙ not_from_true (c == i) (eq-eqb c i q)), m.0, m.1)

  pub copy-other : (c a : ℕ) → (c ≡ i → ⊥) → part_of_slot D c ≡ part_of_slot D i → start_of_slot D w c ≡ Some a → is_in c (other_copies D i s) ≡ true
  copy-other c a n p e =
      let k = is_in-in c (copies D w (part_of_slot D i)) (ap (λ x. is_in c (copies D w x)) (sym p) ∙ member-copy D w c a e) in
      in-is_in c (other_copies D i s) (filter-in (λ x. not (x == i)) c (copies_in D s.view (part_of_slot D i))
      (subst (λ o. In c (copies_in D o (part_of_slot D i))) (sym v) k) (not_from_false (c == i) (false_from_ne_true (c == i) (λ q. n (eqb-true c i q)))))
