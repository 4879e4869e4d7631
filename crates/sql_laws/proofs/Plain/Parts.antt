-- What is put into a map from the parts of a list, one part after another, is what is put in from all of it.
use Rattle.std.proofs.Common.{◌≡◌, ℕ, Bool, true, false, List, [], ◌∷◌, ◌++◌, filter, fold, Option, Some, None, sym, refl, ap, ◌∙◌}
use Rattle.std.specs.List.{flat_map, list_any, AllByRecursion, filter_map, cons_option}
use Rattle.std.specs.declared.cmp.Ordering.{Ordering}
use Rattle.sql_meaning.specs.Maps.{put, put_all}
use Rattle.sql_laws.proofs.Plain.Folds.{Distinct, fold_parts, fold_filter}

pub filter_map-append : {X Y : Type 0} (f : X → Option Y) (xs ys : List X) → filter_map f (xs ++ ys) ≡ filter_map f xs ++ filter_map f ys
filter_map-append f [] ys = refl
filter_map-append f (x ∷ xs) ys = ap (cons_option (f x)) (filter_map-append f xs ys) ∙ by (f x) (filter_map f xs) (filter_map f ys)
  where
    by : {Y : Type 0} (o : Option Y) (a b : List Y) → cons_option o (a ++ b) ≡ cons_option o a ++ b
    by None a b = refl
    by (Some y) a b = refl

pub filter_map-flat : {X Y P : Type 0} (f : X → Option Y) (part : P → List X) (ps : List P) → filter_map f (flat_map part ps) ≡ flat_map (λ p. filter_map f (part p)) ps
filter_map-flat f part [] = refl
filter_map-flat f part (p ∷ ps) = filter_map-append f (part p) (flat_map part ps) ∙ ap (λ (ys : List _). filter_map f (part p) ++ ys) (filter_map-flat f part ps)

module _ {X K V : Type 0} (R : K → K → Ordering) (join : V → V → V) (entry : X → Option (K × V)) where
  abbrev pub put_some : List (K × V) → Option (K × V) → List (K × V)
  put_some es None = es
  put_some es (Some e) = put R join es e

  abbrev step : List (K × V) → X → List (K × V)
  step es x = put_some es (entry x)

  one_more : (o : Option (K × V)) (es xs : List (K × V)) → put_all R join es (cons_option o xs) ≡ put_all R join (put_some es o) xs
  one_more None es xs = refl
  one_more (Some e) es xs = refl

  puts_fold : (xs : List X) (es : List (K × V)) → put_all R join es (filter_map entry xs) ≡ fold step es xs
  puts_fold [] es = refl
  puts_fold (x ∷ xs) es = one_more (entry x) es (filter_map entry xs) ∙ puts_fold xs (step es x)

  none_put : (o : Option (K × V)) (es : List (K × V)) → o ≡ None → put_some es o ≡ es
  none_put None es e = refl
  none_put (Some x) es e = absurd (cc)

  pub puts_parts : (test : ℕ → X → Bool)
      → ((p q : ℕ) (a x : X) → (q ≡ p → ⊥) → test p a ≡ true → test q x ≡ true → (es : List (K × V)) → put_some (put_some es (entry a)) (entry x) ≡ put_some (put_some es (entry x)) (entry a))
      → ((p q : ℕ) (x : X) → test p x ≡ true → test q x ≡ true → q ≡ p)
      → (ps : List ℕ) → Distinct ps → (xs : List X) → AllByRecursion (λ x. list_any (λ p. test p x) ps ≡ false → entry x ≡ None) xs
      → put_all R join [] (flat_map (λ p. filter_map entry (filter (test p) xs)) ps) ≡ put_all R join [] (filter_map entry xs)
  puts_parts test apart disjoint ps distinct xs inert =
      ap (put_all R join []) (sym (filter_map-flat entry (λ p. filter (test p) xs) ps))
      ∙ puts_fold (flat_map (λ p. filter (test p) xs) ps) []
      ∙ fold_parts step test (λ p q a x other pa qx es. apart p q a x other pa qx es) disjoint ps distinct xs []
      ∙ fold_filter step (λ x. list_any (λ p. test p x) ps) xs (inert_rows xs inert) []
      ∙ sym (puts_fold xs [])
    where
      inert_rows : (ys : List X) → AllByRecursion (λ x. list_any (λ p. test p x) ps ≡ false → entry x ≡ None) ys → AllByRecursion (λ x. list_any (λ p. test p x) ps ≡ false → (es : List (K × V)) → step es x ≡ es) ys
      inert_rows [] h = tt
      inert_rows (y ∷ ys) h = ((λ none es. none_put (entry y) es (h.0 none)), inert_rows ys h.1)

  -- where all puts may change places
  pub swap_some : ((a x : K × V) (es : List (K × V)) → put R join (put R join es a) x ≡ put R join (put R join es x) a)
      → (a x : Option (K × V)) (es : List (K × V)) → put_some (put_some es a) x ≡ put_some (put_some es x) a
  swap_some swap None None es = refl
  swap_some swap None (Some x) es = refl
  swap_some swap (Some a) None es = refl
  swap_some swap (Some a) (Some x) es = swap a x es
