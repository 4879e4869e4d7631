-- Rows and keys that compare as equal are equal.
use Rattle.std.proofs.Common.{◌≡◌, ℕ, true, ◌==◌, List, [], ◌∷◌, ◌++◌, map, sym, refl, ap, subst, inl, inr}
use Rattle.std.specs.List.{list_any}
use Rattle.std.specs.Ordering.{ordering_then}
use Rattle.std.specs.Cmp.Lexicographic.{slice_cmp}
use Rattle.std.specs.declared.cmp.Ordering.{Ordering}
use Rattle.std.specs.declared.cmp.Ordering.TheVariants.{Less, Equal, Greater}
use Rattle.std.proofs.lemmas.Bool.{or_cases, eqb-true}
use Rattle.volt_value.specs.Order.{value_cmp}
use Rattle.volt_value.proofs.OrderLemmas.{value_cmp-equal}
use Rattle.sql_plan.specs.declared.row_key.Directed.{Directed}
use Rattle.sql_plan.specs.declared.row_key.Directed.TheVariants.{Ascending, Descending}
use Rattle.sql_plan.specs.Keys.{directed_cmp, key_cmp}
use Rattle.sql_plan.specs.Rows.{Cells, row_cmp}

then_first : (r s : Ordering) → ordering_then r s ≡ Equal → r ≡ Equal
then_first Less s e = e
then_first Equal s e = refl
then_first Greater s e = e

then_second : (r s : Ordering) → ordering_then r s ≡ Equal → s ≡ Equal
then_second Less s e = absurd (cc)
then_second Equal s e = e
then_second Greater s e = absurd (cc)

pub slice_cmp-equal : {A : Type 0} (R : A → A → Ordering) → ((a b : A) → R a b ≡ Equal → a ≡ b) → (xs ys : List A) → slice_cmp R xs ys ≡ Equal → xs ≡ ys
slice_cmp-equal R exact [] [] e = refl
slice_cmp-equal R exact [] (y ∷ ys) e = absurd (cc)
slice_cmp-equal R exact (x ∷ xs) [] e = absurd (cc)
slice_cmp-equal R exact (x ∷ xs) (y ∷ ys) e =
    λ i. exact x y (then_first (R x y) (slice_cmp R xs ys) e) i ∷ slice_cmp-equal R exact xs ys (then_second (R x y) (slice_cmp R xs ys) e) i

pub row_cmp-equal : (a b : Cells) → row_cmp a b ≡ Equal → a ≡ b
row_cmp-equal = slice_cmp-equal value_cmp value_cmp-equal

directed_cmp-equal : (a b : Directed) → directed_cmp a b ≡ Equal → a ≡ b
directed_cmp-equal (Ascending a) (Ascending b) e = ap Ascending (value_cmp-equal a b e)
directed_cmp-equal (Ascending a) (Descending b) e = absurd (cc)
directed_cmp-equal (Descending a) (Ascending b) e = absurd (cc)
directed_cmp-equal (Descending a) (Descending b) e = ap Descending (sym (value_cmp-equal b a e))

pub key_cmp-equal : (a b : List Directed) → key_cmp a b ≡ Equal → a ≡ b
key_cmp-equal = slice_cmp-equal directed_cmp directed_cmp-equal

-- ---- what two functions give of each number of a list, where they give the same of all

head_of : {A : Type 0} → A → List A → A
head_of d [] = d
head_of d (x ∷ xs) = x

tail_of : {A : Type 0} → List A → List A
tail_of [] = []
tail_of (x ∷ xs) = xs

pub map-first : {A B : Type 0} (f g : A → B) (x : A) (xs : List A) → map f (x ∷ xs) ≡ map g (x ∷ xs) → f x ≡ g x
unfolding head_of
map-first f g x xs e = ap (head_of (f x)) e

pub map-rest : {A B : Type 0} (f g : A → B) (x : A) (xs : List A) → map f (x ∷ xs) ≡ map g (x ∷ xs) → map f xs ≡ map g xs
unfolding tail_of
map-rest f g x xs e = ap tail_of e

pub map-behind : {A B : Type 0} (f g : A → B) (xs ys : List A) → map f (xs ++ ys) ≡ map g (xs ++ ys) → map f ys ≡ map g ys
map-behind f g [] ys e = e
map-behind f g (x ∷ xs) ys e = map-behind f g xs ys (map-rest f g x (xs ++ ys) e)

pub map-among : {B : Type 0} (f g : ℕ → B) (n : ℕ) (ns : List ℕ) → map f ns ≡ map g ns → list_any (λ m. m == n) ns ≡ true → f n ≡ g n
map-among f g n [] e here = absurd (cc)
map-among f g n (m ∷ ns) e here =
    elim (or_cases (m == n) (list_any (λ k. k == n) ns) here) [
      | inl same ↦ subst (λ k. f k ≡ g k) (eqb-true m n same) (map-first f g m ns e)
      | inr later ↦ map-among f g n ns (map-rest f g m ns e) later
    ]

pub map-map : {A B C : Type 0} (f : B → C) (g : A → B) (xs : List A) → map f (map g xs) ≡ map (λ x. f (g x)) xs
map-map f g [] = refl
map-map f g (x ∷ xs) = ap (λ (ys : List _). f (g x) ∷ ys) (map-map f g xs)
