-- Rows with their places, in order of some columns in which no two agree.
use Rattle.std.proofs.Common.{◌≡◌, ℕ, ◌<◌, Bool, true, false, cond, ◌||◌, eqb, List, [], ◌∷◌, map, Option, Some, None, inl, inr, refl, sym, ap, ap₂, ◌∙◌, subst, arith}
use Rattle.std.proofs.lemmas.Bool.{cases_lt, cases_eq}
use Rattle.std.specs.List.{list_any, AllByRecursion}
use Rattle.std.specs.BTreeSet.{insert_key}
use Rattle.std.specs.Cmp.{IsTotalOrder}
use Rattle.std.specs.List.Sorted.{IsPermutation}
use Rattle.std.proofs.lemmas.List.Sorted.{IsPermutation-refl, IsPermutation-trans, IsPermutation-cons, IsPermutation-map}
use Rattle.std.specs.Ordering.{is_eq, match_ordering}
use Rattle.std.specs.declared.cmp.Ordering.{Ordering}
use Rattle.std.specs.declared.cmp.Ordering.TheVariants.{Less, Equal, Greater}
use Rattle.volt_value.specs.declared.value.Value.{Value}
use Rattle.table_rows.specs.Held.{row_at, with_row, without_row, AreRising}
use Rattle.table_rows.specs.Order.{row_cmp, agree, in_order_by, in_order}
use Rattle.table_rows.specs.Table.{agrees_with_one}
use Rattle.table_rows.specs.Keyed.{placed_cmp, AreApart}
use Rattle.table_rows.proofs.Inserts.{insert_swap, map-insert_key, list_any-insert_key, All-insert_key, IsPermutation-insert_key}
use Rattle.table_rows.proofs.HeldLemmas.{AreElsewhere, All-with_row, All-without_row, All-row_at, with_first, with_later, without_same, without_other, at_same, at_other}
use Rattle.table_rows.proofs.RowOrder.{placed_total, row_total, turned_apart, not_equal, is_equal}

abbrev pub Held : Type 0
Held = List (ℕ × List Value)

-- none of them agrees with a row
abbrev pub AreOthers : List ℕ → List Value → Held → Type 0
AreOthers columns row held = AllByRecursion (λ e. row_cmp columns row e.1 ≡ Equal → ⊥) held

pub All-both : {K : Type 0} (P Q R : K → Type 0) → ((k : K) → P k → Q k → R k) → (ks : List K) → AllByRecursion P ks → AllByRecursion Q ks → AllByRecursion R ks
All-both P Q R join [] ps qs = tt
All-both P Q R join (k ∷ ks) ps qs = (join k ps.0 qs.0, All-both P Q R join ks ps.1 qs.1)

pub All-each : {K : Type 0} (P Q : K → Type 0) → ((k : K) → P k → Q k) → (ks : List K) → AllByRecursion P ks → AllByRecursion Q ks
All-each P Q from [] ps = tt
All-each P Q from (k ∷ ks) ps = (from k ps.0, All-each P Q from ks ps.1)

-- ---- what holds of each

pub All-in_order : (columns : List ℕ) (P : ℕ × List Value → Type 0) (held : Held) → AllByRecursion P held → AllByRecursion P (in_order_by (placed_cmp columns) held)
All-in_order columns P [] are = tt
All-in_order columns P (e ∷ held) are = All-insert_key (placed_cmp columns) P e (in_order_by (placed_cmp columns) held) are.0 (All-in_order columns P held are.1)

pub any-in_order : (columns : List ℕ) (test : ℕ × List Value → Bool) (held : Held) → AreApart columns held → list_any test (in_order_by (placed_cmp columns) held) ≡ list_any test held
any-in_order columns test [] apart = refl
any-in_order columns test (e ∷ held) apart =
    list_any-insert_key (placed_cmp columns) test e (in_order_by (placed_cmp columns) held) (All-in_order columns (λ f. placed_cmp columns e f ≡ Equal → ⊥) held apart.0)
    ∙ ap (λ b. test e || b) (any-in_order columns test held apart.1)

any-map : {A B : Type 0} (test : B → Bool) (f : A → B) (xs : List A) → list_any test (map f xs) ≡ list_any (λ x. test (f x)) xs
any-map test f [] = refl
any-map test f (x ∷ xs) = ap (λ b. test (f x) || b) (any-map test f xs)

-- a test of rows answers the same whatever their order
pub any-rows : (columns : List ℕ) (test : List Value → Bool) (held : Held) → AreApart columns held
    → list_any test (map (λ e. e.1) (in_order_by (placed_cmp columns) held)) ≡ list_any test (map (λ e. e.1) held)
any-rows columns test held apart =
    any-map test (λ (e : ℕ × List Value). e.1) (in_order_by (placed_cmp columns) held)
    ∙ any-in_order columns (λ e. test e.1) held apart
    ∙ sym (any-map test (λ (e : ℕ × List Value). e.1) held)

-- ---- a row more

pub order_with : (columns : List ℕ) (held : Held) (place : ℕ) (row : List Value) → AreElsewhere place held → AreOthers columns row held
    → in_order_by (placed_cmp columns) (with_row held place row) ≡ insert_key (placed_cmp columns) (in_order_by (placed_cmp columns) held) (place, row)
order_with columns [] place row elsewhere others = refl
order_with columns (e ∷ held) place row elsewhere others = elim (cases_lt place e.0) [
  | inl lt ↦ ap (in_order_by (placed_cmp columns)) (with_first place row e held lt)
  | inr le ↦ elim (cases_eq place e.0) [
    | inl same ↦ absurd (elsewhere.0 same)
    | inr other ↦
        let gt : e.0 < place = omega arith in
        ap (in_order_by (placed_cmp columns)) (with_later place row e held gt)
        ∙ ap (λ es. insert_key (placed_cmp columns) es e) (order_with columns held place row elsewhere.1 others.1)
        ∙ insert_swap (placed_total columns) (place, row) e (in_order_by (placed_cmp columns) held) others.0
  ]
]

pub apart_with : (columns : List ℕ) (held : Held) (place : ℕ) (row : List Value) → AreElsewhere place held → AreOthers columns row held → AreApart columns held → AreApart columns (with_row held place row)
apart_with columns [] place row elsewhere others apart = (tt, tt)
apart_with columns (e ∷ held) place row elsewhere others apart = elim (cases_lt place e.0) [
  | inl lt ↦ subst (AreApart columns) (sym (with_first place row e held lt)) (others, apart)
  | inr le ↦ elim (cases_eq place e.0) [
    | inl same ↦ absurd (elsewhere.0 same)
    | inr other ↦
        let gt : e.0 < place = omega arith in
        subst (AreApart columns) (sym (with_later place row e held gt))
        (All-with_row (λ f. placed_cmp columns e f ≡ Equal → ⊥) held place row (turned_apart columns row e.1 others.0) apart.0, apart_with columns held place row elsewhere.1 others.1 apart.1)
  ]
]

-- ---- a row less

pub apart_without : (columns : List ℕ) (held : Held) (place : ℕ) → AreApart columns held → AreApart columns (without_row held place)
apart_without columns [] place apart = tt
apart_without columns (e ∷ held) place apart =
    left (eqb place e.0) (All-without_row (λ f. placed_cmp columns e f ≡ Equal → ⊥) held place apart.0) (apart_without columns held place apart.1)
  where
    left : (b : Bool) → AllByRecursion (λ f. placed_cmp columns e f ≡ Equal → ⊥) (without_row held place) → AreApart columns (without_row held place) → AreApart columns (cond b held (e ∷ without_row held place))
    left true others ih = apart.1
    left false others ih = (others, ih)

pub others_without : (columns : List ℕ) (held : Held) (place : ℕ) (old : List Value) → AreApart columns held → row_at held place ≡ Some old → AreOthers columns old (without_row held place)
others_without columns [] place old apart is = absurd cc
others_without columns (e ∷ held) place old apart is = elim (cases_eq place e.0) [
  | inl same ↦
      subst (AreOthers columns old) (sym (without_same place e held same))
      (subst (λ r. AreOthers columns r held) (some_is (sym (at_same place e held same) ∙ is)) apart.0)
  | inr other ↦
      let later : row_at held place ≡ Some old = sym (at_other place e held other) ∙ is in
      subst (AreOthers columns old) (sym (without_other place e held other))
      (turned_apart columns e.1 old (All-row_at (λ f. placed_cmp columns e f ≡ Equal → ⊥) held place old apart.0 later), others_without columns held place old apart.1 later)
]
  where
    some_is : {a b : List Value} → Some a ≡ Some b → a ≡ b
    some_is h = cc

-- a row that agrees with one agrees with no other either
pub others_alike : (columns : List ℕ) (held : Held) (a b : List Value) → row_cmp columns a b ≡ Equal → AreOthers columns b held → AreOthers columns a held
others_alike columns held a b alike others = All-each _ _ (λ e apart equal. apart (sym ((row_total columns).congr a b e.1 alike) ∙ equal)) held others

-- ---- the test for a row that agrees

pub none_agrees : (columns : List ℕ) (row : List Value) (held : Held) → AreOthers columns row held → agrees_with_one columns row (map (λ e. e.1) held) ≡ false
none_agrees columns row [] others = refl
none_agrees columns row (e ∷ held) others = ap₂ (λ (a b : Bool). a || b) (not_equal (row_cmp columns row e.1) others.0) (none_agrees columns row held others.1)

pub others_from : (columns : List ℕ) (row : List Value) (held : Held) → agrees_with_one columns row (map (λ e. e.1) held) ≡ false → AreOthers columns row held
others_from columns row [] none = tt
others_from columns row (e ∷ held) none =
    let parts = or_parts (agree columns row e.1) (agrees_with_one columns row (map (λ e. e.1) held)) none in
    (apart_from (row_cmp columns row e.1) parts.0, others_from columns row held parts.1)
  where
    or_parts : (a b : Bool) → (a || b) ≡ false → (a ≡ false) × (b ≡ false)
    or_parts true b h = absurd cc
    or_parts false b h = (refl, h)

    apart_from : (o : Ordering) → is_eq o ≡ false → o ≡ Equal → ⊥
    apart_from Less h e = cc
    apart_from Equal h e = cc
    apart_from Greater h e = cc

-- ---- one order after another

-- rows in order of some columns, put in order of others
order_step : (columns : List ℕ) (r : Ordering) (x e : ℕ × List Value) (es more : Held) → (row_cmp columns x.1 e.1 ≡ Equal → ⊥) → (r ≡ Equal → ⊥)
    → in_order_by (placed_cmp columns) more ≡ insert_key (placed_cmp columns) (in_order_by (placed_cmp columns) es) x
    → in_order_by (placed_cmp columns) (match_ordering r (x ∷ e ∷ es) (e ∷ es) (e ∷ more)) ≡ insert_key (placed_cmp columns) (in_order_by (placed_cmp columns) (e ∷ es)) x
order_step columns Less x e es more other apart ih = refl
order_step columns Equal x e es more other apart ih = absurd (apart refl)
order_step columns Greater x e es more other apart ih =
    ap (λ r. insert_key (placed_cmp columns) r e) ih ∙ insert_swap (placed_total columns) x e (in_order_by (placed_cmp columns) es) other

order_insert : (first columns : List ℕ) (es : Held) (x : ℕ × List Value) → AreOthers columns x.1 es → AreOthers first x.1 es
    → in_order_by (placed_cmp columns) (insert_key (placed_cmp first) es x) ≡ insert_key (placed_cmp columns) (in_order_by (placed_cmp columns) es) x
order_insert first columns [] x others apart = refl
order_insert first columns (e ∷ es) x others apart =
    order_step columns (placed_cmp first x e) x e es (insert_key (placed_cmp first) es x) others.0 apart.0 (order_insert first columns es x others.1 apart.1)

pub order_again : (first columns : List ℕ) (held : Held) → AreApart first held → AreApart columns held
    → in_order_by (placed_cmp columns) (in_order_by (placed_cmp first) held) ≡ in_order_by (placed_cmp columns) held
order_again first columns [] apart others = refl
order_again first columns (e ∷ held) apart others =
    order_insert first columns (in_order_by (placed_cmp first) held) e
    (All-in_order first (λ f. placed_cmp columns e f ≡ Equal → ⊥) held others.0) (All-in_order first (λ f. placed_cmp first e f ≡ Equal → ⊥) held apart.0)
    ∙ ap (λ es. insert_key (placed_cmp columns) es e) (order_again first columns held apart.1 others.1)

-- rows without their places go in the same order
All-tied : (columns : List ℕ) (x : ℕ × List Value) (es : Held) → AllByRecursion (λ e. row_cmp columns x.1 e.1 ≡ placed_cmp columns x e) es
All-tied columns x [] = tt
All-tied columns x (e ∷ es) = (refl, All-tied columns x es)

pub rows_insert : (columns : List ℕ) (es : Held) (x : ℕ × List Value) → map (λ e. e.1) (insert_key (placed_cmp columns) es x) ≡ insert_key (row_cmp columns) (map (λ e. e.1) es) x.1
rows_insert columns es x = map-insert_key (placed_cmp columns) (row_cmp columns) (λ (e : ℕ × List Value). e.1) x es (All-tied columns x es)

pub rows_order : (columns : List ℕ) (held : Held) → map (λ e. e.1) (in_order_by (placed_cmp columns) held) ≡ in_order columns (map (λ e. e.1) held)
rows_order columns [] = refl
rows_order columns (e ∷ held) =
    rows_insert columns (in_order_by (placed_cmp columns) held) e
    ∙ ap (λ rs. insert_key (row_cmp columns) rs e.1) (rows_order columns held)

-- and are the same rows
permuted : (columns : List ℕ) (held : Held) → AreApart columns held → IsPermutation held (in_order_by (placed_cmp columns) held)
permuted columns [] apart = IsPermutation-refl []
permuted columns (e ∷ held) apart =
    let ordered = in_order_by (placed_cmp columns) held in
    IsPermutation-trans (e ∷ held) (e ∷ ordered) (insert_key (placed_cmp columns) ordered e) (IsPermutation-cons e held ordered (permuted columns held apart.1))
    (IsPermutation-insert_key (placed_cmp columns) e ordered (All-in_order columns (λ f. placed_cmp columns e f ≡ Equal → ⊥) held apart.0))

pub same_rows_permuted : (columns : List ℕ) (held : Held) → AreApart columns held → IsPermutation (map (λ e. e.1) held) (map (λ e. e.1) (in_order_by (placed_cmp columns) held))
same_rows_permuted columns held apart = IsPermutation-map (λ (e : ℕ × List Value). e.1) held (in_order_by (placed_cmp columns) held) (permuted columns held apart)
