-- Folds over the parts of a list, one part after another.
use Rattle.std.proofs.Common.{◌≡◌, ℕ, zero, suc, ◌+◌, ◌<◌, ◌≤◌, Bool, true, false, ◌||◌, ◌==◌, List, [], ◌∷◌, ◌++◌, filter, fold, sym, refl, ap, ◌∙◌, inl, inr, arith}
use Rattle.std.specs.List.{flat_map, list_any, range_with_len, AllByRecursion}
use Rattle.std.proofs.lemmas.Bool.{cases_Bool, or_parts, or_cases, eqb-false, ne_eqb, or_from, or_left, or_right}

-- no number is there twice
abbrev pub Distinct : List ℕ → Type 0
Distinct [] = Unit {0}
Distinct (p ∷ ps) = (list_any (λ q. q == p) ps ≡ false) × Distinct ps

pub filter_none : {X : Type 0} (test : X → Bool) → ((x : X) → test x ≡ false) → (xs : List X) → filter test xs ≡ []
filter_none test none [] = refl
filter_none test none (x ∷ xs) = rw (none x) (filter_none test none xs)

pub filter_all : {X : Type 0} (test : X → Bool) → ((x : X) → test x ≡ true) → (xs : List X) → filter test xs ≡ xs
filter_all test each [] = refl
filter_all test each (x ∷ xs) = rw (each x) (ap (λ (ys : List _). x ∷ ys) (filter_all test each xs))

pub fold-append : {S X : Type 0} (step : S → X → S) (s : S) (xs ys : List X) → fold step s (xs ++ ys) ≡ fold step (fold step s xs) ys
fold-append step s [] ys = refl
fold-append step s (x ∷ xs) ys = fold-append step (step s x) xs ys

-- one that passes among some of which one is looked for
pub found : {X : Type 0} (test : ℕ → X → Bool) (p : ℕ) (x : X) (ps : List ℕ) → list_any (λ q. test q x) ps ≡ true → list_any (λ q. q == p) ps ≡ false
    → (q : ℕ) × (q ≡ p → ⊥) × (test q x ≡ true)
found test p x [] e none = absurd (cc)
found test p x (q ∷ ps) e none =
    let parts = or_parts (q == p) (list_any (λ r. r == p) ps) none in
    elim (or_cases (test q x) (list_any (λ r. test r x) ps) e) [
      | inl here ↦ (q, eqb-false q p parts.0, here)
      | inr later ↦ found test p x ps later parts.1
    ]

module _ {S X : Type 0} (step : S → X → S) where
  -- two items may change places
  abbrev pub Apart : X → X → Type 0
  Apart a x = (s : S) → step (step s a) x ≡ step (step s x) a

  move_first : (test : X → Bool) (x : X) → ((a : X) → test a ≡ true → Apart a x) → (xs ys : List X) (s : S)
      → fold step s (filter test xs ++ (x ∷ ys)) ≡ fold step (step s x) (filter test xs ++ ys)
  move_first test x apart [] ys s = refl
  move_first test x apart (a ∷ xs) ys s =
      elim (cases_Bool (test a)) [
        | inl passes ↦ rw passes (move_first test x apart xs ys (step s a) ∙ ap (λ t. fold step t (filter test xs ++ ys)) (apart a passes s))
        | inr fails ↦ rw fails (move_first test x apart xs ys s)
      ]

  pub two_parts : (P Q : X → Bool) → ((a x : X) → P a ≡ true → Q x ≡ true → Apart a x) → ((x : X) → P x ≡ true → Q x ≡ true → ⊥)
      → (xs : List X) (s : S) → fold step s (filter P xs ++ filter Q xs) ≡ fold step s (filter (λ x. P x || Q x) xs)
  two_parts P Q apart disjoint [] s = refl
  two_parts P Q apart disjoint (x ∷ xs) s =
      elim (cases_Bool (P x)) [
        | inl p ↦ elim (cases_Bool (Q x)) [
          | inl q ↦ absurd (disjoint x p q)
          | inr q ↦ rw (p, q) (two_parts P Q apart disjoint xs (step s x))
        ]
        | inr p ↦ elim (cases_Bool (Q x)) [
          | inl q ↦ rw (p, q) (move_first P x (λ a pa. apart a x pa q) xs (filter Q xs) s ∙ two_parts P Q apart disjoint xs (step s x))
          | inr q ↦ rw (p, q) (two_parts P Q apart disjoint xs s)
        ]
      ]

  -- a fold over the parts one after another, where items of unlike parts may change places
  pub fold_parts : (test : ℕ → X → Bool) → ((p q : ℕ) (a x : X) → (q ≡ p → ⊥) → test p a ≡ true → test q x ≡ true → Apart a x)
      → ((p q : ℕ) (x : X) → test p x ≡ true → test q x ≡ true → q ≡ p)
      → (ps : List ℕ) → Distinct ps → (xs : List X) (s : S)
      → fold step s (flat_map (λ p. filter (test p) xs) ps) ≡ fold step s (filter (λ x. list_any (λ p. test p x) ps) xs)
  fold_parts test apart disjoint [] distinct xs s = ap (fold step s) (sym (filter_none (λ x. false) (λ x. refl) xs))
  fold_parts test apart disjoint (p ∷ ps) distinct xs s =
      let others : X → Bool = λ x. list_any (λ q. test q x) ps in
      fold-append step s (filter (test p) xs) (flat_map (λ q. filter (test q) xs) ps)
      ∙ fold_parts test apart disjoint ps distinct.1 xs (fold step s (filter (test p) xs))
      ∙ sym (fold-append step s (filter (test p) xs) (filter others xs))
      ∙ two_parts (test p) others
      (λ a x pa any. let f = found test p x ps any distinct.0 in apart p f.0 a x f.1 pa f.2)
      (λ x px any. let f = found test p x ps any distinct.0 in f.1 (disjoint p f.0 x px f.2))
      xs s

  -- an item that leaves everything as it is may be left out
  abbrev pub Inert : X → Type 0
  Inert x = (s : S) → step s x ≡ s

  pub fold_filter : (test : X → Bool) (xs : List X) → AllByRecursion (λ x. test x ≡ false → Inert x) xs → (s : S)
      → fold step s (filter test xs) ≡ fold step s xs
  fold_filter test [] inert s = refl
  fold_filter test (x ∷ xs) inert s =
      elim (cases_Bool (test x)) [
        | inl passes ↦ rw passes (fold_filter test xs inert.1 (step s x))
        | inr fails ↦ rw fails (fold_filter test xs inert.1 s ∙ ap (λ t. fold step t xs) (sym (inert.0 fails s)))
      ]

-- ---- the numbers of all parts

above : (a n p : ℕ) → p < a → list_any (λ q. q == p) (range_with_len a n) ≡ false
above a zero p below = refl
above a (suc n) p below = or_from (a == p) (list_any (λ q. q == p) (range_with_len (a + 1) n)) (ne_eqb a p (omega arith)) (above (a + 1) n p (omega arith))

pub range-distinct : (a n : ℕ) → Distinct (range_with_len a n)
range-distinct a zero = tt
range-distinct a (suc n) = (above (a + 1) n a (omega arith), range-distinct (a + 1) n)

pub range-has : (a n p : ℕ) → a ≤ p → p < a + n → list_any (λ q. p == q) (range_with_len a n) ≡ true
range-has a zero p low high = absurd (omega arith)
range-has a (suc n) p low high =
    elim (cases_Bool (p == a)) [
      | inl same ↦ or_left (p == a) (list_any (λ q. p == q) (range_with_len (a + 1) n)) same
      | inr other ↦ or_right (p == a) (list_any (λ q. p == q) (range_with_len (a + 1) n))
          (range-has (a + 1) n p (let apart = eqb-false p a other in omega arith) (omega arith))
    ]

-- the first part, and all others
pub range-cons : (n : ℕ) → 0 < n → (ps : List ℕ) × (range_with_len 0 n ≡ 0 ∷ ps)
range-cons zero h = absurd (omega arith)
range-cons (suc n) h = (range_with_len 1 n, refl)
