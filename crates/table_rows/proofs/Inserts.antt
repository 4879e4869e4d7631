-- Elements that are put into a list at their places in an order.
use Rattle.std.proofs.Common.{◌≡◌, ℕ, Bool, true, false, cond, ◌||◌, List, [], ◌∷◌, map, refl, sym, ap, ap₂, ◌∙◌, subst, arith}
use Rattle.std.specs.List.{list_any, AllByRecursion}
use Rattle.std.specs.BTreeSet.{insert_key}
use Rattle.std.specs.Set.{remove_key}
use Rattle.std.specs.Cmp.{IsTotalOrder}
use Rattle.std.specs.List.Sorted.{IsPermutation}
use Rattle.std.proofs.lemmas.List.Sorted.{IsPermutation-refl, IsPermutation-trans, IsPermutation-cons, IsPermutation-middle}
use Rattle.std.specs.Ordering.{match_ordering, ordering_reverse}
use Rattle.std.specs.declared.cmp.Ordering.{Ordering}
use Rattle.std.specs.declared.cmp.Ordering.TheVariants.{Less, Equal, Greater}

-- two that differ may change places
pub insert_swap : {K : Type 0} {R : K → K → Ordering} (o : IsTotalOrder R) (a x : K) (es : List K) → (R a x ≡ Equal → ⊥) → insert_key R (insert_key R es a) x ≡ insert_key R (insert_key R es x) a
insert_swap {R = R} o a x [] apart = grind (arith, o.antisymm a x, o.antisymm x a, apart)
insert_swap {R = R} o a x (e ∷ es) apart = grind (
  arith,
  apart,
  o.antisymm a x,
  o.antisymm x a,
  o.antisymm a e,
  o.antisymm x e,
  o.antisymm e x,
  o.antisymm e a,
  o.trans x e a,
  o.trans a e x,
  o.congr a e x,
  o.congr x e a,
  insert_swap o a x es apart,
)

-- a function that keeps the order of what is put in to each that is there
map_ordering : {A B : Type 0} (f : A → B) (r : Ordering) (x e : A) (es more : List A) (rest : List B) → map f more ≡ rest
    → map f (match_ordering r (x ∷ e ∷ es) (e ∷ es) (e ∷ more)) ≡ match_ordering r (f x ∷ f e ∷ map f es) (f e ∷ map f es) (f e ∷ rest)
map_ordering f Less x e es more rest h = refl
map_ordering f Equal x e es more rest h = refl
map_ordering f Greater x e es more rest h = ap (λ r. f e ∷ r) h

pub map-insert_key : {A B : Type 0} (R : A → A → Ordering) (S : B → B → Ordering) (f : A → B) (x : A) (es : List A) → AllByRecursion (λ e. S (f x) (f e) ≡ R x e) es → map f (insert_key R es x) ≡ insert_key S (map f es) (f x)
map-insert_key R S f x [] same = refl
map-insert_key R S f x (e ∷ es) same =
    map_ordering f (R x e) x e es (insert_key R es x) (insert_key S (map f es) (f x)) (map-insert_key R S f x es same.1)
    ∙ ap (λ r. match_ordering r (f x ∷ f e ∷ map f es) (f e ∷ map f es) (f e ∷ insert_key S (map f es) (f x))) (sym same.0)

-- what was put in can be taken out, where none that is there is like it
taken : {K : Type 0} (r : Ordering) (test : K → Bool) (x e : K) (es more : List K) → test x ≡ true → test e ≡ false → (r ≡ Equal → ⊥) → remove_key test more ≡ es
    → remove_key test (match_ordering r (x ∷ e ∷ es) (e ∷ es) (e ∷ more)) ≡ e ∷ es
taken Less test x e es more hit other apart ih = ap (λ b. cond b (e ∷ es) (x ∷ remove_key test (e ∷ es))) hit
taken Equal test x e es more hit other apart ih = absurd (apart refl)
taken Greater test x e es more hit other apart ih = ap (λ b. cond b more (e ∷ remove_key test more)) other ∙ ap (λ r. e ∷ r) ih

pub remove_inserted : {K : Type 0} (R : K → K → Ordering) (test : K → Bool) (x : K) (es : List K) → test x ≡ true → AllByRecursion (λ e. (test e ≡ false) × (R x e ≡ Equal → ⊥)) es → remove_key test (insert_key R es x) ≡ es
remove_inserted R test x [] hit others = ap (λ b. cond b [] (x ∷ [])) hit
remove_inserted R test x (e ∷ es) hit others = taken (R x e) test x e es (insert_key R es x) hit others.0.0 others.0.1 (remove_inserted R test x es hit others.1)

-- what is put in is tested too
or_swap : (a b c : Bool) → (a || (b || c)) ≡ (b || (a || c))
or_swap true true c = refl
or_swap true false c = refl
or_swap false true c = refl
or_swap false false c = refl

tested : {K : Type 0} (r : Ordering) (test : K → Bool) (x e : K) (es more : List K) → (r ≡ Equal → ⊥) → list_any test more ≡ (test x || list_any test es)
    → list_any test (match_ordering r (x ∷ e ∷ es) (e ∷ es) (e ∷ more)) ≡ (test x || (test e || list_any test es))
tested Less test x e es more apart ih = refl
tested Equal test x e es more apart ih = absurd (apart refl)
tested Greater test x e es more apart ih = ap (λ b. test e || b) ih ∙ or_swap (test e) (test x) (list_any test es)

pub list_any-insert_key : {K : Type 0} (R : K → K → Ordering) (test : K → Bool) (x : K) (es : List K) → AllByRecursion (λ e. R x e ≡ Equal → ⊥) es → list_any test (insert_key R es x) ≡ (test x || list_any test es)
list_any-insert_key R test x [] apart = refl
list_any-insert_key R test x (e ∷ es) apart = tested (R x e) test x e es (insert_key R es x) apart.0 (list_any-insert_key R test x es apart.1)

-- what holds of each stays so
put_in : {K : Type 0} (r : Ordering) (P : K → Type 0) (x e : K) (es more : List K) → P x → AllByRecursion P (e ∷ es) → AllByRecursion P more → AllByRecursion P (match_ordering r (x ∷ e ∷ es) (e ∷ es) (e ∷ more))
put_in Less P x e es more is are ih = (is, are)
put_in Equal P x e es more is are ih = are
put_in Greater P x e es more is are ih = (are.0, ih)

pub All-insert_key : {K : Type 0} (R : K → K → Ordering) (P : K → Type 0) (x : K) (es : List K) → P x → AllByRecursion P es → AllByRecursion P (insert_key R es x)
All-insert_key R P x [] is are = (is, tt)
All-insert_key R P x (e ∷ es) is are = put_in (R x e) P x e es (insert_key R es x) is are (All-insert_key R P x es is are.1)

-- what is put in where none is like it is one element more
added : {K : Type 0} (r : Ordering) (x e : K) (es more : List K) → (r ≡ Equal → ⊥) → IsPermutation (x ∷ es) more → IsPermutation (x ∷ e ∷ es) (match_ordering r (x ∷ e ∷ es) (e ∷ es) (e ∷ more))
added Less x e es more apart ih = IsPermutation-refl (x ∷ e ∷ es)
added Equal x e es more apart ih = absurd (apart refl)
added Greater x e es more apart ih =
    IsPermutation-trans (x ∷ e ∷ es) (e ∷ x ∷ es) (e ∷ more) (IsPermutation-middle (x ∷ []) e es) (IsPermutation-cons e (x ∷ es) more ih)

pub IsPermutation-insert_key : {K : Type 0} (R : K → K → Ordering) (x : K) (es : List K) → AllByRecursion (λ e. R x e ≡ Equal → ⊥) es → IsPermutation (x ∷ es) (insert_key R es x)
IsPermutation-insert_key R x [] apart = IsPermutation-refl (x ∷ [])
IsPermutation-insert_key R x (e ∷ es) apart = added (R x e) x e es (insert_key R es x) apart.0 (IsPermutation-insert_key R x es apart.1)
