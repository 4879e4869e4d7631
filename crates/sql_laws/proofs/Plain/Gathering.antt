-- What aggregates gather of two lists of values is what they gather of each, joined; and joining goes in any order.
use Rattle.std.proofs.Common.{◌≡◌, ℕ, ◌+◌, Bool, true, false, not, cond, if◌then◌else◌, List, [], ◌∷◌, ◌++◌, map, Option, Some, None, ℤ, sym, refl, ap, ◌∙◌, subst, inl, inr, ◌⊎◌, add_comm, add_assoc, length-append}
use lib.IntN.{+ℤ_assoc, +ℤ_comm}
use Rattle.std.specs.List.{enumerate_from}
use Rattle.std.specs.declared.cmp.Ordering.{Ordering}
use Rattle.std.specs.declared.cmp.Ordering.TheVariants.{Less, Equal, Greater}
use Rattle.std.specs.Cmp.{IsTotalOrder, back_total}
use Rattle.std.specs.Ordering.{is_lt, ordering_reverse, flip_args}
use Rattle.std.proofs.lemmas.Bool.{cases_Bool, both_ways}
use Rattle.std.proofs.lemmas.List.Sums.{sum_by-append}
use Rattle.volt_value.specs.declared.value.Value.{Value}
use Rattle.volt_value.specs.declared.value.Value.TheVariants.{Null, Int, Text}
use Rattle.volt_value.specs.Order.{value_cmp}
use Rattle.volt_value.specs.OrderLaws.{value_total}
use Rattle.volt_value.proofs.OrderLemmas.{value_cmp-equal}
use Rattle.sql_plan.specs.declared.select.Aggregated.{Aggregated}
use Rattle.sql_plan.specs.declared.select.Aggregated.TheVariants as agg
use Rattle.sql_plan.specs.declared.partial.Gathered.{Gathered}
use Rattle.sql_plan.specs.declared.partial.Gathered.TheVariants as gathered
use Rattle.sql_plan.specs.Rows.{Cells}
use Rattle.sql_meaning.specs.Values.{at, is_null}
use Rattle.sql_meaning.specs.Groups.{number_in, sum_of_two, min_of_two, max_of_two, sum_of, min_of, max_of, gathered_of, all_gathered_of}
use Rattle.sql_meaning.specs.Parts.{number_of, sum_in, value_in, joined, all_joined}

-- ---- the lesser of two by an order

module _ {K : Type 0} (R : K → K → Ordering) (o : IsTotalOrder R) (exact : (a b : K) → R a b ≡ Equal → a ≡ b) where
  abbrev pick : Ordering → K → K → K
  pick r a b = if is_lt r then b else a

  pick_comm : (r : Ordering) (a b : K) → R b a ≡ r → pick r a b ≡ pick (ordering_reverse r) b a
  pick_comm Less a b e = refl
  pick_comm Equal a b e = sym (exact b a e)
  pick_comm Greater a b e = refl

  pub lesser-comm : (a b : K) → pick (R b a) a b ≡ pick (R a b) b a
  lesser-comm a b = pick_comm (R b a) a b refl ∙ ap (λ r. pick r b a) (sym (o.antisymm a b))

  -- three orders that can't stand together: c below a, a not above b, b not above c
  chain_by : (a b c : K) (r : Ordering) → R b a ≡ r → is_lt r ≡ false → R c a ≡ Less → R c b ≡ Less
  chain_by a b c Less e f g = absurd (cc)
  chain_by a b c Equal e f g = subst (λ k. R c k ≡ Less) (sym (exact b a e)) g
  chain_by a b c Greater e f g = o.trans c a b g (o.antisymm a b ∙ ap ordering_reverse e)

  less : (r : Ordering) → is_lt r ≡ true → r ≡ Less
  less Less e = refl
  less Equal e = absurd (cc)
  less Greater e = absurd (cc)

  pub lesser-assoc : (a b c : K) → pick (R c (pick (R b a) a b)) (pick (R b a) a b) c ≡ pick (R (pick (R c b) b c) a) a (pick (R c b) b c)
  lesser-assoc a b c =
      elim (cases_Bool (is_lt (R b a))) [
        | inl ba ↦ elim (cases_Bool (is_lt (R c b))) [
          | inl cb ↦ rw (ba, cb, ap is_lt (o.trans c b a (less (R c b) cb) (less (R b a) ba)))
          | inr cb ↦ rw (ba, cb, ba)
        ]
        | inr ba ↦ elim (cases_Bool (is_lt (R c b))) [
          | inl cb ↦ rw (ba, cb)
          | inr cb ↦ rw (ba, cb, not_below a b c ba cb, ba)
        ]
      ]
    where
      not_below : (a b c : K) → is_lt (R b a) ≡ false → is_lt (R c b) ≡ false → is_lt (R c a) ≡ false
      not_below a b c ba cb =
          elim (cases_Bool (is_lt (R c a))) [
            | inl ca ↦ absurd (both_ways (is_lt (R c b)) cb (ap is_lt (chain_by a b c (R b a) refl ba (less (R c a) ca))))
            | inr ca ↦ ca
          ]

-- ---- numbers, sums, least and greatest values

pub sum_of_two-comm : (a b : Option ℤ) → sum_of_two a b ≡ sum_of_two b a
sum_of_two-comm None None = refl
sum_of_two-comm None (Some b) = refl
sum_of_two-comm (Some a) None = refl
sum_of_two-comm (Some a) (Some b) = ap (λ z. Some z) (+ℤ_comm a b)

pub sum_of_two-assoc : (a b c : Option ℤ) → sum_of_two (sum_of_two a b) c ≡ sum_of_two a (sum_of_two b c)
sum_of_two-assoc None b c = refl
sum_of_two-assoc (Some a) None c = refl
sum_of_two-assoc (Some a) (Some b) None = refl
sum_of_two-assoc (Some a) (Some b) (Some c) = ap (λ z. Some z) (+ℤ_assoc a b c)

abbrev valued : Value → Bool
valued Null = false
valued (Int a) = true
valued (Text t) = true

min_null : (a : Value) → min_of_two a Null ≡ a
min_null Null = refl
min_null (Int a) = refl
min_null (Text t) = refl

-- of two values that are there
min_there : (a b : Value) → valued a ≡ true → valued b ≡ true → min_of_two a b ≡ (if is_lt (value_cmp b a) then b else a)
min_there Null b e f = absurd (cc)
min_there (Int a) Null e f = absurd (cc)
min_there (Text t) Null e f = absurd (cc)
min_there (Int a) (Int b) e f = refl
min_there (Int a) (Text u) e f = refl
min_there (Text t) (Int b) e f = refl
min_there (Text t) (Text u) e f = refl

picked_valued : (c : Bool) (a b : Value) → valued a ≡ true → valued b ≡ true → valued (if c then b else a) ≡ true
picked_valued true a b e f = f
picked_valued false a b e f = e

min_valued : (a b : Value) → valued a ≡ true → valued b ≡ true → valued (min_of_two a b) ≡ true
min_valued a b e f = ap valued (min_there a b e f) ∙ picked_valued (is_lt (value_cmp b a)) a b e f

min_comm_there : (a b : Value) → valued a ≡ true → valued b ≡ true → min_of_two a b ≡ min_of_two b a
min_comm_there a b e f = min_there a b e f ∙ lesser-comm value_cmp value_total value_cmp-equal a b ∙ sym (min_there b a f e)

pub min_of_two-comm : (a b : Value) → min_of_two a b ≡ min_of_two b a
min_of_two-comm Null b = sym (min_null b)
min_of_two-comm (Int a) Null = refl
min_of_two-comm (Text t) Null = refl
min_of_two-comm (Int a) (Int b) = min_comm_there (Int a) (Int b) refl refl
min_of_two-comm (Int a) (Text u) = min_comm_there (Int a) (Text u) refl refl
min_of_two-comm (Text t) (Int b) = min_comm_there (Text t) (Int b) refl refl
min_of_two-comm (Text t) (Text u) = min_comm_there (Text t) (Text u) refl refl

abbrev least_there : Value → Value → Value
least_there a b = if is_lt (value_cmp b a) then b else a

min_assoc_there : (a b c : Value) → valued a ≡ true → valued b ≡ true → valued c ≡ true → min_of_two (min_of_two a b) c ≡ min_of_two a (min_of_two b c)
min_assoc_there a b c e f g =
    ap (λ m. min_of_two m c) (min_there a b e f)
    ∙ min_there (least_there a b) c (picked_valued (is_lt (value_cmp b a)) a b e f) g
    ∙ lesser-assoc value_cmp value_total value_cmp-equal a b c
    ∙ sym (min_there a (least_there b c) e (picked_valued (is_lt (value_cmp c b)) b c f g))
    ∙ ap (min_of_two a) (sym (min_there b c f g))

is_there : (a : Value) → (a ≡ Null) ⊎ (valued a ≡ true)
is_there Null = inl refl
is_there (Int a) = inr refl
is_there (Text t) = inr refl

pub min_of_two-assoc : (a b c : Value) → min_of_two (min_of_two a b) c ≡ min_of_two a (min_of_two b c)
min_of_two-assoc a b c =
    elim (is_there a) [
      | inl na ↦ rw na
      | inr ea ↦ elim (is_there b) [
        | inl nb ↦ rw (nb, min_null a)
        | inr eb ↦ elim (is_there c) [
          | inl nc ↦ rw (nc, min_null (min_of_two a b), min_null b)
          | inr ec ↦ min_assoc_there a b c ea eb ec
        ]
      ]
    ]

exact_back : (a b : Value) → flip_args value_cmp a b ≡ Equal → a ≡ b
exact_back a b e = sym (value_cmp-equal b a e)

pub max_of_two-comm : (a b : Value) → max_of_two a b ≡ max_of_two b a
max_of_two-comm a b = lesser-comm (flip_args value_cmp) (back_total value_total) exact_back a b

pub max_of_two-assoc : (a b c : Value) → max_of_two (max_of_two a b) c ≡ max_of_two a (max_of_two b c)
max_of_two-assoc a b c = lesser-assoc (flip_args value_cmp) (back_total value_total) exact_back a b c

max_null : (b : Value) → max_of_two Null b ≡ b
max_null Null = refl
max_null (Int a) = refl
max_null (Text t) = refl

-- ---- joining what was gathered

joined-comm : (g : Aggregated) (a b : Gathered) → joined g a b ≡ joined g b a
joined-comm agg.CountRows a b = ap (λ n. gathered.Count n) (add_comm (number_of a) (number_of b))
joined-comm (agg.Count e) a b = ap (λ n. gathered.Count n) (add_comm (number_of a) (number_of b))
joined-comm (agg.Sum e) a b = ap (λ z. gathered.Sum z) (sum_of_two-comm (sum_in a) (sum_in b))
joined-comm (agg.Min e) a b = ap (λ x. gathered.Min x) (min_of_two-comm (value_in a) (value_in b))
joined-comm (agg.Max e) a b = ap (λ x. gathered.Max x) (max_of_two-comm (value_in a) (value_in b))

joined-assoc : (g : Aggregated) (a b c : Gathered) → joined g (joined g a b) c ≡ joined g a (joined g b c)
joined-assoc agg.CountRows a b c = ap (λ n. gathered.Count n) (add_assoc (number_of a) (number_of b) (number_of c))
joined-assoc (agg.Count e) a b c = ap (λ n. gathered.Count n) (add_assoc (number_of a) (number_of b) (number_of c))
joined-assoc (agg.Sum e) a b c = ap (λ z. gathered.Sum z) (sum_of_two-assoc (sum_in a) (sum_in b) (sum_in c))
joined-assoc (agg.Min e) a b c = ap (λ x. gathered.Min x) (min_of_two-assoc (value_in a) (value_in b) (value_in c))
joined-assoc (agg.Max e) a b c = ap (λ x. gathered.Max x) (max_of_two-assoc (value_in a) (value_in b) (value_in c))

pub all_joined-comm : (gs : List Aggregated) (xs ys : List Gathered) → all_joined gs xs ys ≡ all_joined gs ys xs
all_joined-comm [] xs ys = refl
all_joined-comm (g ∷ gs) [] [] = refl
all_joined-comm (g ∷ gs) [] (y ∷ ys) = refl
all_joined-comm (g ∷ gs) (x ∷ xs) [] = refl
all_joined-comm (g ∷ gs) (x ∷ xs) (y ∷ ys) = λ i. joined-comm g x y i ∷ all_joined-comm gs xs ys i

pub all_joined-assoc : (gs : List Aggregated) (xs ys zs : List Gathered) → all_joined gs (all_joined gs xs ys) zs ≡ all_joined gs xs (all_joined gs ys zs)
all_joined-assoc [] xs ys zs = refl
all_joined-assoc (g ∷ gs) [] [] zs = refl
all_joined-assoc (g ∷ gs) [] (y ∷ ys) [] = refl
all_joined-assoc (g ∷ gs) [] (y ∷ ys) (z ∷ zs) = refl
all_joined-assoc (g ∷ gs) (x ∷ xs) [] [] = refl
all_joined-assoc (g ∷ gs) (x ∷ xs) [] (z ∷ zs) = refl
all_joined-assoc (g ∷ gs) (x ∷ xs) (y ∷ ys) [] = refl
all_joined-assoc (g ∷ gs) (x ∷ xs) (y ∷ ys) (z ∷ zs) = λ i. joined-assoc g x y z i ∷ all_joined-assoc gs xs ys zs i

-- ---- what is gathered of two lists

sum_of-append : (xs ys : Cells) → sum_of (xs ++ ys) ≡ sum_of_two (sum_of xs) (sum_of ys)
sum_of-append [] ys = refl
sum_of-append (x ∷ xs) ys = ap (sum_of_two (number_in x)) (sum_of-append xs ys) ∙ sym (sum_of_two-assoc (number_in x) (sum_of xs) (sum_of ys))

min_of-append : (xs ys : Cells) → min_of (xs ++ ys) ≡ min_of_two (min_of xs) (min_of ys)
min_of-append [] ys = refl
min_of-append (x ∷ xs) ys = ap (min_of_two x) (min_of-append xs ys) ∙ sym (min_of_two-assoc x (min_of xs) (min_of ys))

max_of-append : (xs ys : Cells) → max_of (xs ++ ys) ≡ max_of_two (max_of xs) (max_of ys)
max_of-append [] ys = sym (max_null (max_of ys))
max_of-append (x ∷ xs) ys = ap (max_of_two x) (max_of-append xs ys) ∙ sym (max_of_two-assoc x (max_of xs) (max_of ys))

gathered_of-append : (g : Aggregated) (xs ys : Cells) → gathered_of g (xs ++ ys) ≡ joined g (gathered_of g xs) (gathered_of g ys)
gathered_of-append agg.CountRows xs ys = ap (λ n. gathered.Count n) (length-append xs ys)
gathered_of-append (agg.Count e) xs ys = ap (λ n. gathered.Count n) (sum_by-append (λ x. cond (not (is_null x)) 1 0) xs ys)
gathered_of-append (agg.Sum e) xs ys = ap (λ z. gathered.Sum z) (sum_of-append xs ys)
gathered_of-append (agg.Min e) xs ys = ap (λ x. gathered.Min x) (min_of-append xs ys)
gathered_of-append (agg.Max e) xs ys = ap (λ x. gathered.Max x) (max_of-append xs ys)

pub map-append : {A B : Type 0} (f : A → B) (xs ys : List A) → map f (xs ++ ys) ≡ map f xs ++ map f ys
map-append f [] ys = refl
map-append f (x ∷ xs) ys = ap (λ (zs : List _). f x ∷ zs) (map-append f xs ys)

gathered_from : (k : ℕ) (gs : List Aggregated) (xs ys : List Cells)
    → map (λ a. gathered_of a.1 (map (λ values. at values a.0) (xs ++ ys))) (enumerate_from k gs)
    ≡ all_joined gs (map (λ a. gathered_of a.1 (map (λ values. at values a.0) xs)) (enumerate_from k gs)) (map (λ a. gathered_of a.1 (map (λ values. at values a.0) ys)) (enumerate_from k gs))
gathered_from k [] xs ys = refl
gathered_from k (g ∷ gs) xs ys =
    λ i. (ap (gathered_of g) (map-append (λ values. at values k) xs ys) ∙ gathered_of-append g (map (λ values. at values k) xs) (map (λ values. at values k) ys)) i ∷ gathered_from (k + 1) gs xs ys i

pub all_gathered_of-append : (gs : List Aggregated) (xs ys : List Cells) → all_gathered_of gs (xs ++ ys) ≡ all_joined gs (all_gathered_of gs xs) (all_gathered_of gs ys)
all_gathered_of-append gs xs ys = gathered_from 0 gs xs ys
