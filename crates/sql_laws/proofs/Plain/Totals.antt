-- What the items of a list come to, in a monoid where order doesn't count: the same over its parts.
use Rattle.std.proofs.Common.{◌≡◌, ℕ, Bool, true, false, List, [], ◌∷◌, ◌++◌, map, fold, filter, sym, refl, ap, ◌∙◌, inl, inr}
use Rattle.std.specs.List.{flat_map, list_any, AllByRecursion}
use Rattle.std.proofs.lemmas.Bool.{cases_Bool}
use Rattle.sql_laws.proofs.Plain.Folds.{Distinct, fold_parts}

module _ {M : Type 0} (op : M → M → M) (unit : M) where
  -- what all come to
  abbrev pub total : {X : Type 0} → (X → M) → List X → M
  total h [] = unit
  total h (x ∷ xs) = op (h x) (total h xs)

  pub total-map : {X Y : Type 0} (h : Y → M) (f : X → Y) (xs : List X) → total h (map f xs) ≡ total (λ x. h (f x)) xs
  total-map h f [] = refl
  total-map h f (x ∷ xs) = ap (op (h (f x))) (total-map h f xs)

  pub total-same : {X : Type 0} (h k : X → M) → ((x : X) → h x ≡ k x) → (xs : List X) → total h xs ≡ total k xs
  total-same h k same [] = refl
  total-same h k same (x ∷ xs) = λ i. op (same x i) (total-same h k same xs i)

  module _ (assoc : (a b c : M) → op (op a b) c ≡ op a (op b c)) (comm : (a b : M) → op a b ≡ op b a) (right : (a : M) → op a unit ≡ a) where
    swap : (s a b : M) → op (op s a) b ≡ op (op s b) a
    swap s a b = assoc s a b ∙ ap (op s) (comm a b) ∙ sym (assoc s b a)

    left : (a : M) → op unit a ≡ a
    left a = comm unit a ∙ right a

    module _ {X : Type 0} (h : X → M) where
      abbrev step : M → X → M
      step s x = op s (h x)

      pub fold_is : (s : M) (xs : List X) → fold step s xs ≡ op s (total h xs)
      fold_is s [] = sym (right s)
      fold_is s (x ∷ xs) = fold_is (op s (h x)) xs ∙ assoc s (h x) (total h xs)

      pub total-append : (xs ys : List X) → total h (xs ++ ys) ≡ op (total h xs) (total h ys)
      total-append [] ys = sym (left (total h ys))
      total-append (x ∷ xs) ys = ap (op (h x)) (total-append xs ys) ∙ sym (assoc (h x) (total h xs) (total h ys))

      total_flat : {P : Type 0} (part : P → List X) (ps : List P) → total h (flat_map part ps) ≡ total (λ p. total h (part p)) ps
      total_flat part [] = refl
      total_flat part (p ∷ ps) = total-append (part p) (flat_map part ps) ∙ ap (op (total h (part p))) (total_flat part ps)

      -- all parts come to what the items that lie in one come to
      pub total_parts : (test : ℕ → X → Bool) → ((p q : ℕ) (x : X) → test p x ≡ true → test q x ≡ true → q ≡ p)
          → (ps : List ℕ) → Distinct ps → (xs : List X)
          → total (λ p. total h (filter (test p) xs)) ps ≡ total h (filter (λ x. list_any (λ p. test p x) ps) xs)
      total_parts test disjoint ps distinct xs =
          sym (total_flat (λ p. filter (test p) xs) ps)
          ∙ sym (left _) ∙ sym (fold_is unit (flat_map (λ p. filter (test p) xs) ps))
          ∙ fold_parts step test (λ p q a x other pa qx s. swap s (h a) (h x)) disjoint ps distinct xs unit
          ∙ fold_is unit (filter (λ x. list_any (λ p. test p x) ps) xs) ∙ left _

      -- and the others may be left out where they come to nothing
      pub total_filter : (test : X → Bool) (xs : List X) → AllByRecursion (λ x. test x ≡ false → h x ≡ unit) xs → total h (filter test xs) ≡ total h xs
      total_filter test [] none = refl
      total_filter test (x ∷ xs) none =
          elim (cases_Bool (test x)) [
            | inl passes ↦ rw passes (ap (op (h x)) (total_filter test xs none.1))
            | inr fails ↦ rw fails (total_filter test xs none.1 ∙ sym (left (total h xs)) ∙ ap (λ m. op m (total h xs)) (sym (none.0 fails)))
          ]
