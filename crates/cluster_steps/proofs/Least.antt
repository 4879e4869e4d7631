-- What a leader counts: the least of the positions that copies and joiners acknowledged.
use Rattle.cluster_steps.proofs.Names.{◌≡◌, ◌≤◌, List, [], ◌∷◌, ◌++◌, refl, sym, ◌∙◌, inl, inr, ◌==◌, arith, eqb-true, ℕ, map, max, min, Option, Some, None, Deployment, SiteState, Joiner, other_copies, acked_in, own_ack, copy_acks, lesser, least, least_of, at_least, firm_now, floor_now, In, cond_both}
use Rattle.cluster_steps.proofs.Lists.{in-left, in-right, in-map}

-- ---- the least of these positions

pub lesser-parts : (a b : Option ℕ) (m : ℕ) → lesser a b ≡ Some m → (x y : ℕ) × (a ≡ Some x) × (b ≡ Some y) × (m ≤ x) × (m ≤ y)
lesser-parts (Some x) (Some y) m e = let p : min x y ≡ m = cc in (x, y, refl, refl, omega (arith, p), omega (arith, p))
lesser-parts (Some x) None m e = absurd (cc)
lesser-parts None b m e = absurd (cc)

least-below : (a : Option ℕ) (xs : List (Option ℕ)) (m : ℕ) → least a xs ≡ Some m → (x : Option ℕ) → In x (a ∷ xs) → (v : ℕ) × (x ≡ Some v) × (m ≤ v)
least-below a [] m e x (inl k) = (m, sym k ∙ e, omega arith)
least-below a [] m e x (inr k) = absurd k
least-below a (b ∷ bs) m e x i = let p = lesser-parts a (least b bs) m e in elim i [
  | inl k ↦ (p.0, sym k ∙ p.2, p.4)
  | inr k ↦ let q = least-below b bs p.1 p.3 x k in (q.0, q.1, omega (arith, q.2, p.5))
]

-- where it is known, so is each of them, and none is below it
pub least_of-below : (xs : List (Option ℕ)) (m : ℕ) → least_of xs ≡ Some m → (x : Option ℕ) → In x xs → (v : ℕ) × (x ≡ Some v) × (m ≤ v)
least_of-below [] m e x i = absurd i
least_of-below (a ∷ xs) m e x i = least-below a xs m e x i

-- a number that rises to it stays below what one of them and the number itself are below
pub at_least-below : (before n : ℕ) (xs : List (Option ℕ)) → before ≤ n → (x : Option ℕ) → In x xs → ((v : ℕ) → x ≡ Some v → v ≤ n) → at_least before (least_of xs) ≤ n
at_least-below before n xs h x i f = choice (least_of xs) refl
  where
    choice : (o : Option ℕ) → least_of xs ≡ o → at_least before o ≤ n
    choice None e = h
    choice (Some m) e = let q = least_of-below xs m e x i in let b : q.0 ≤ n = f q.0 q.1 in omega (arith, h, b, q.2)

-- it never falls
pub at_least-above : (before : ℕ) (o : Option ℕ) → before ≤ at_least before o
at_least-above before None = omega arith
at_least-above before (Some x) = omega arith

-- ---- what a copy acknowledged

pub acked_in-from : (acks : List (ℕ × ℕ)) (slot v : ℕ) → acked_in acks slot ≡ Some v → In (slot, v) acks
acked_in-from [] slot v e = absurd (cc)
acked_in-from (a ∷ acks) slot v e = cond_both (a.0 == slot) _ _ (λ z. (acked_in acks slot ≡ Some v → In (slot, v) acks) → z ≡ Some v → In (slot, v) (a ∷ acks))
    (λ q later k. let p : a.1 ≡ v = cc in inl (rw (← eqb-true a.0 slot q, ← p))) (λ q later k. inr (later k)) (acked_in-from acks slot v) e

-- ---- what is firm, and the floor

-- the greater of the two
abbrev pub reach_now : Deployment → ℕ → SiteState → ℕ
reach_now D i s = max (firm_now D i s) (floor_now D i s)

module _ (D : Deployment) (i : ℕ) (s : SiteState) (n : ℕ) (firm : s.firm ≤ n) (floor : s.floor ≤ n) where
  -- They stay below what the site's own position is below, if that is known.
  pub reach_now-own : ((v : ℕ) → own_ack s ≡ Some v → v ≤ n) → reach_now D i s ≤ n
  reach_now-own f =
      let p = at_least-below s.firm n (copy_acks D i s ++ map (λ j. Some (max j.stream_start j.position)) s.joiners) firm (own_ack s) (inl refl) f in
      let q = at_least-below s.floor n (copy_acks D i s ++ map (λ j. Some j.position) s.joiners) floor (own_ack s) (inl refl) f in
      omega (arith, p, q)

  -- So they do of what a copy acknowledged,
  pub reach_now-copy : (c : ℕ) → In c (other_copies D i s) → ((v : ℕ) → acked_in s.acks c ≡ Some v → v ≤ n) → reach_now D i s ≤ n
  reach_now-copy c k f =
      let here : In (acked_in s.acks c) (copy_acks D i s) = inr (in-map (acked_in s.acks) c (other_copies D i s) k) in
      let p = at_least-below s.firm n (copy_acks D i s ++ map (λ j. Some (max j.stream_start j.position)) s.joiners) firm (acked_in s.acks c)
      (in-left (acked_in s.acks c) (copy_acks D i s) (map (λ j. Some (max j.stream_start j.position)) s.joiners) here) f in
      let q = at_least-below s.floor n (copy_acks D i s ++ map (λ j. Some j.position) s.joiners) floor (acked_in s.acks c)
      (in-left (acked_in s.acks c) (copy_acks D i s) (map (λ j. Some j.position) s.joiners) here) f in
      omega (arith, p, q)

  -- and of that of a joiner, or of where its stream began.
  pub reach_now-joiner : (j : Joiner) → In j s.joiners → max j.stream_start j.position ≤ n → reach_now D i s ≤ n
  reach_now-joiner j k b =
      let p = at_least-below s.firm n (copy_acks D i s ++ map (λ j. Some (max j.stream_start j.position)) s.joiners) firm (Some (max j.stream_start j.position))
      (in-right (Some (max j.stream_start j.position)) (copy_acks D i s) (map (λ j. Some (max j.stream_start j.position)) s.joiners) (in-map (λ j. Some (max j.stream_start j.position)) j s.joiners k))
      (λ v e. let q : max j.stream_start j.position ≡ v = cc in omega (arith, q, b)) in
      let q = at_least-below s.floor n (copy_acks D i s ++ map (λ j. Some j.position) s.joiners) floor (Some j.position)
      (in-right (Some j.position) (copy_acks D i s) (map (λ j. Some j.position) s.joiners) (in-map (λ j. Some j.position) j s.joiners k))
      (λ v e. let q : j.position ≡ v = cc in omega (arith, q, b)) in
      omega (arith, p, q)

-- they never fall
pub firm_now-above : (D : Deployment) (i : ℕ) (s : SiteState) → s.firm ≤ firm_now D i s
firm_now-above D i s = at_least-above s.firm (least_of (copy_acks D i s ++ map (λ j. Some (max j.stream_start j.position)) s.joiners))
