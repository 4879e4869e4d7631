-- The rows of a table, loaded in any order, give the table.
use Rattle.std.proofs.Common.{◌≡◌, ◌⊎◌, ℕ, zero, suc, ◌+◌, ◌<◌, ◌≤◌, Bool, true, false, not, cond, ◌&&◌, ◌||◌, ◌==◌, eqb, nat_lt, List, [], ◌∷◌, ◌++◌, length, append-nil, slice_index_or, is_some, Option, None, inl, inr, refl, sym, ap, ap₂, ◌∙◌, subst, arith}
use Rattle.std.proofs.lemmas.Bool.{false≢true}
use Rattle.std.proofs.lemmas.Bool.Decides.{nat_tests}
use Rattle.std.proofs.lemmas.Cmp.{tied_itself}
use Rattle.std.proofs.lemmas.List.Sorted.{IsPermutation-refl, IsPermutation-sym, IsPermutation-trans, IsPermutation-middle, IsPermutation-append_left, Contains-permutation}
use Rattle.std.proofs.lemmas.Map.Keys.{sorted_head, sorted_tail}
use Rattle.std.specs.List.{list_any, AllByRecursion, Contains}
use Rattle.std.specs.List.Sorted.{IsPermutation, IsStrictlySortedBy}
use Rattle.std.specs.BTreeSet.{insert_key}
use Rattle.std.specs.Cmp.{IsTotalOrder}
use Rattle.std.specs.Ordering.{match_ordering, ordering_reverse, is_eq}
use Rattle.std.specs.declared.cmp.Ordering.{Ordering}
use Rattle.std.specs.declared.cmp.Ordering.TheVariants.{Less, Equal, Greater}
use Rattle.volt_value.specs.declared.value.Value.{Value}
use Rattle.row_codec.specs.declared.field.Field.{Field}
use Rattle.row_codec.specs.declared.fault.RowFault.{RowFault}
use Rattle.row_codec.specs.Packing.{IsRow}
use Rattle.table_rows.specs.Order.{row_cmp, agree, in_order, in_order_by}
use Rattle.table_rows.specs.Table.{Schema, Table, no_rows, primary_key, first_of, agrees_with_one, has_twins, has_duplicates, clashes, first_fault, duplicate_if, row_fault, inserted, IsTable}
use Rattle.table_rows.proofs.Inserts.{All-insert_key, IsPermutation-insert_key}
use Rattle.table_rows.proofs.RowOrder.{row_total}
use Rattle.table_rows.proofs.TwinLemmas.{or_parts, duplicates_permuted}
use Rattle.table_chunks.specs.Loading.{loaded, can_load}

abbrev Rows : Type 0
Rows = List (List Value)

-- ---- elements

here : {K : Type 0} (x : K) (xs : List K) → Contains (x ∷ xs) x
here x xs = (0, omega arith, refl)

later : {K : Type 0} (y x : K) (xs : List K) → Contains xs x → Contains (y ∷ xs) x
later y x xs there = let within = there.1 in (suc there.0, omega arith, there.2)

first_or_later : {K : Type 0} (y x : K) (xs : List K) → Contains (y ∷ xs) x → (y ≡ x) ⊎ Contains xs x
first_or_later y x xs there = of there.0 there.1 there.2
  where
    of : (k : ℕ) → k < suc (length xs) → slice_index_or (y ∷ xs) k x ≡ x → (y ≡ x) ⊎ Contains xs x
    of zero within is = inl is
    of (suc k) within is = inr (k, omega arith, is)

none_there : {K : Type 0} (x : K) → Contains [] x → ⊥
none_there x there = let within = there.1 in omega arith

each_at : {K : Type 0} (P : K → Type 0) (xs : List K) (x : K) → AllByRecursion P xs → Contains xs x → P x
each_at P [] x all there = absurd (none_there x there)
each_at P (y ∷ xs) x all there = elim (first_or_later y x xs there) [
  | inl same ↦ subst P same all.0
  | inr behind ↦ each_at P xs x all.1 behind
]

by_each : {K : Type 0} (P : K → Type 0) (xs : List K) → ((x : K) → Contains xs x → P x) → AllByRecursion P xs
by_each P [] all = tt
by_each P (y ∷ xs) all = (all y (here y xs), by_each P xs (λ x there. all x (later y x xs there)))

All-permuted : {K : Type 0} (P : K → Type 0) (xs ys : List K) → IsPermutation xs ys → AllByRecursion P xs → AllByRecursion P ys
All-permuted P xs ys same all = by_each P ys (λ x there. each_at P xs x all (Contains-permutation ys xs x (IsPermutation-sym xs ys same) there))

-- ---- one list in order

module _ {K : Type 0} {R : K → K → Ordering} (o : IsTotalOrder R) where
  above_itself : (x y : K) → x ≡ y → R x y ≡ Less → ⊥
  above_itself x y same less = less_equal (sym less ∙ ap (R x) (sym same) ∙ tied_itself o x)
    where
      less_equal : Less ≡ Equal → ⊥
      less_equal h = cc

  above_each_other : (x y : K) → R x y ≡ Less → R y x ≡ Less → ⊥
  above_each_other x y less more = less_greater (sym less ∙ o.antisymm x y ∙ ap ordering_reverse more)
    where
      less_greater : Less ≡ Greater → ⊥
      less_greater h = cc

  -- what is in both behind one first element
  tail_in : (a : K) (xs ys : List K) → AllByRecursion (λ y. R a y ≡ Less) xs → ((x : K) → Contains (a ∷ xs) x → Contains (a ∷ ys) x) → (x : K) → Contains xs x → Contains ys x
  tail_in a xs ys above into x there = elim (first_or_later a x ys (into x (later a x xs there))) [
    | inl same ↦ absurd (above_itself a x same (each_at (λ y. R a y ≡ Less) xs x above there))
    | inr behind ↦ behind
  ]

  pub one_order : (xs ys : List K) → IsStrictlySortedBy R xs → IsStrictlySortedBy R ys → ((x : K) → Contains xs x → Contains ys x) → ((x : K) → Contains ys x → Contains xs x) → xs ≡ ys
  one_order [] [] sx sy into back = refl
  one_order [] (b ∷ ys) sx sy into back = absurd (none_there b (back b (here b ys)))
  one_order (a ∷ xs) [] sx sy into back = absurd (none_there a (into a (here a xs)))
  one_order (a ∷ xs) (b ∷ ys) sx sy into back =
      let above_a = sorted_head R a xs sx in
      let above_b = sorted_head R b ys sy in
      let same : a ≡ b = elim (first_or_later b a ys (into a (here a xs))) [
        | inl is ↦ sym is
        | inr behind ↦ elim (first_or_later a b xs (back b (here b ys))) [
          | inl is ↦ is
          | inr past ↦ absurd (above_each_other a b (each_at (λ y. R a y ≡ Less) xs b above_a past) (each_at (λ y. R b y ≡ Less) ys a above_b behind))
        ]
      ] in
      ap₂ (λ (x : K) (xs : List K). x ∷ xs) same
      (one_order xs ys (sorted_tail R a xs sx) (sorted_tail R b ys sy)
      (tail_in a xs ys above_a (subst (λ y. (x : K) → Contains (a ∷ xs) x → Contains (y ∷ ys) x) (sym same) into))
      (tail_in b ys xs above_b (subst (λ y. (x : K) → Contains (b ∷ ys) x → Contains (y ∷ xs) x) same back)))

  sorted_step : (r : Ordering) (x e : K) (es : List K) → R x e ≡ r → IsStrictlySortedBy R (e ∷ es) → IsStrictlySortedBy R (insert_key R es x) → IsStrictlySortedBy R (match_ordering r (x ∷ e ∷ es) (e ∷ es) (e ∷ insert_key R es x))
  unfolding IsStrictlySortedBy
  sorted_step Less x e es is sorted ih =
      ((is, by_each (λ y. R x y ≡ Less) es (λ y there. o.trans x e y is (each_at (λ y. R e y ≡ Less) es y sorted.0 there))), sorted)
  sorted_step Equal x e es is sorted ih = sorted
  sorted_step Greater x e es is sorted ih = (All-insert_key R (λ y. R e y ≡ Less) x es (o.antisymm e x ∙ ap ordering_reverse is) sorted.0, ih)

  pub sorted_insert : (x : K) (es : List K) → IsStrictlySortedBy R es → IsStrictlySortedBy R (insert_key R es x)
  unfolding IsStrictlySortedBy
  sorted_insert x [] sorted = (tt, tt)
  sorted_insert x (e ∷ es) sorted = sorted_step (R x e) x e es refl sorted (sorted_insert x es sorted.1)

  sorted_nothing : IsStrictlySortedBy R []
  unfolding IsStrictlySortedBy
  sorted_nothing = tt

  pub sorted_order : (xs : List K) → IsStrictlySortedBy R (in_order_by R xs)
  unfolding IsStrictlySortedBy
  sorted_order [] = tt
  sorted_order (x ∷ xs) = sorted_insert x (in_order_by R xs) (sorted_order xs)

-- ---- loading

any_left : {K : Type 0} (p : K → Bool) (xs ys : List K) → list_any p (xs ++ ys) ≡ false → list_any p xs ≡ false
any_left p [] ys none = refl
any_left p (x ∷ xs) ys none = let parts = or_parts (p x) (list_any p (xs ++ ys)) none in ap₂ (λ (a b : Bool). a || b) parts.0 (any_left p xs ys parts.1)

none_clash : (keys : List (List ℕ)) (row : List Value) (ts rows : Rows) → has_duplicates keys (row ∷ (ts ++ rows)) ≡ false → clashes keys row ts ≡ false
none_clash [] row ts rows none = refl
none_clash (columns ∷ keys) row ts rows none =
    let parts = or_parts (has_twins columns (row ∷ (ts ++ rows))) (has_duplicates keys (row ∷ (ts ++ rows))) none in
    let first = or_parts (agrees_with_one columns row (ts ++ rows)) (has_twins columns (ts ++ rows)) parts.0 in
    ap₂ (λ (a b : Bool). a || b) (any_left (agree columns row) ts rows first.0) (none_clash keys row ts rows parts.1)

apart_from_first : (keys : List (List ℕ)) (row : List Value) (ts : Rows) → nat_lt 0 (length keys) ≡ true → clashes keys row ts ≡ false → AllByRecursion (λ e. row_cmp (first_of keys) row e ≡ Equal → ⊥) ts
apart_from_first [] row ts some none = absurd (false≢true some)
apart_from_first (columns ∷ keys) row ts some none = each ts (or_parts (agrees_with_one columns row ts) (clashes keys row ts) none).0
  where
    each : (ts : Rows) → agrees_with_one columns row ts ≡ false → AllByRecursion (λ e. row_cmp columns row e ≡ Equal → ⊥) ts
    each [] none = tt
    each (e ∷ ts) none =
        let parts = or_parts (agree columns row e) (agrees_with_one columns row ts) none in
        ((λ same. false≢true (sym parts.0 ∙ ap is_eq same)), each ts parts.1)

same_number : (m n : ℕ) → m ≡ n → eqb m n ≡ true
same_number m n h = grind (arith, nat_tests)

module _ (schema : Schema) (some : nat_lt 0 (length schema.keys) ≡ true) where
  abbrev table_with : Rows → Table
  table_with ts = record { schema = schema; rows = ts }

  abbrev order : List Value → List Value → Ordering
  order = row_cmp (primary_key schema)

  -- what loading gives of rows that are there and others
  record Loads (ts rows : Rows) : Type 0 where
    can : can_load (table_with ts) rows ≡ true
    same : IsPermutation (ts ++ rows) (loaded (table_with ts) rows).rows
    sorted : IsStrictlySortedBy order ts → IsStrictlySortedBy order (loaded (table_with ts) rows).rows
    of : (loaded (table_with ts) rows).schema ≡ schema

  loads : (ts rows : Rows) → AllByRecursion (IsRow schema.fields) rows → has_duplicates schema.keys (ts ++ rows) ≡ false → Loads ts rows
  loads ts [] are none = record { can = refl; same = subst (λ rs. IsPermutation rs ts) (sym (append-nil ts)) (IsPermutation-refl ts); sorted = λ sorted. sorted; of = refl }
  loads ts (row ∷ rows) are none =
      let front : IsPermutation (ts ++ row ∷ rows) (row ∷ (ts ++ rows)) = IsPermutation-middle ts row rows in
      let free : clashes schema.keys row ts ≡ false = none_clash schema.keys row ts rows (duplicates_permuted schema.keys (ts ++ row ∷ rows) (row ∷ (ts ++ rows)) front none) in
      let fault : row_fault (table_with ts) row ≡ None = ap₂ (λ (o : Option RowFault) (b : Bool). first_fault o (duplicate_if b)) are.0.fits free in
      let put : IsPermutation (row ∷ ts) (insert_key order ts row) = IsPermutation-insert_key order row ts (apart_from_first schema.keys row ts some free) in
      let both : IsPermutation (ts ++ row ∷ rows) (insert_key order ts row ++ rows)
      = IsPermutation-trans (ts ++ row ∷ rows) (row ∷ (ts ++ rows)) (insert_key order ts row ++ rows) front (IsPermutation-append_left rows (row ∷ ts) (insert_key order ts row) put) in
      let rest = loads (insert_key order ts row) rows are.1 (duplicates_permuted schema.keys (ts ++ row ∷ rows) (insert_key order ts row ++ rows) both none) in
      record {
        can = ap₂ (λ (a b : Bool). (a && b) && can_load (table_with (insert_key order ts row)) rows) (same_number (length row) (length schema.fields) are.0.count) (ap (λ (o : Option RowFault). not (is_some o)) fault) ∙ rest.can;
        same = IsPermutation-trans (ts ++ row ∷ rows) (insert_key order ts row ++ rows) (loaded (table_with (insert_key order ts row)) rows).rows both rest.same;
        sorted = λ sorted. rest.sorted (sorted_insert (row_total (primary_key schema)) row ts sorted);
        of = rest.of;
      }

pub table_loaded : (t : Table) (rows : Rows) → IsTable t → IsPermutation rows t.rows → (can_load (no_rows t.schema) rows ≡ true) × (loaded (no_rows t.schema) rows ≡ t)
table_loaded t rows is same =
    let back : IsPermutation t.rows rows = IsPermutation-sym rows t.rows same in
    let order = row_cmp (primary_key t.schema) in
    let result = loaded (no_rows t.schema) rows in
    let all = loads t.schema is.schema.some [] rows (All-permuted (IsRow t.schema.fields) t.rows rows back is.rows) (duplicates_permuted t.schema.keys t.rows rows back is.unique) in
    let sorted : IsStrictlySortedBy order t.rows = subst (IsStrictlySortedBy order) is.sorted (sorted_order (row_total (primary_key t.schema)) t.rows) in
    let to_result : IsPermutation t.rows result.rows = IsPermutation-trans t.rows rows result.rows back all.same in
    let rows_are : result.rows ≡ t.rows
    = one_order (row_total (primary_key t.schema)) result.rows t.rows (all.sorted (sorted_nothing (row_total (primary_key t.schema)))) sorted
    (λ x there. Contains-permutation result.rows t.rows x (IsPermutation-sym t.rows result.rows to_result) there)
    (λ x there. Contains-permutation t.rows result.rows x to_result there) in
    (all.can, ap₂ (λ (s : Schema) (rs : Rows). record { schema = s; rows = rs }) all.of rows_are)
