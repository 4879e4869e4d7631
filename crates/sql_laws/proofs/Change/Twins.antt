-- Two rows that agree on a unique key lie in one partition: so a table has twins where a partition has some.
use Rattle.std.proofs.Common.{◌≡◌, ℕ, ◌<◌, Bool, true, false, not, cond, if◌then◌else◌, ◌==◌, ◌&&◌, ◌||◌, List, [], ◌∷◌, map, filter, slice_get, Option, Some, None, unwrap_or, Ok, Err, sym, refl, ap, ◌∙◌, subst, inl, inr, arith}
use Rattle.std.specs.List.{list_any, list_all}
use Rattle.std.specs.declared.cmp.Ordering.{Ordering}
use Rattle.std.specs.declared.cmp.Ordering.TheVariants.{Less, Equal, Greater}
use Rattle.std.specs.Ordering.{is_eq, is_lt}
use Rattle.std.proofs.lemmas.Bool.{cases_Bool, and_parts, and_from, eqb-true, eqb-false, both_ways, not-true, not-false, false_from_ne_true}
use Rattle.volt_catalog.specs.declared.table.Table.{Table}
use Rattle.volt_catalog.specs.declared.table.IndexDef.{IndexDef}
use Rattle.volt_catalog.specs.Rules.{Contents, lack_part, part_column_of, is_table_with}
use Rattle.volt_catalog.specs.Catalog.{IsCatalog, is_index}
use Rattle.sql_plan.specs.declared.fault.Fault.{Fault}
use Rattle.sql_plan.specs.declared.fault.Fault.TheVariants.{Duplicate}
use Rattle.sql_plan.specs.Rows.{Cells, row_cmp, row_total}
use Rattle.sql_meaning.specs.Judged.{unless}
use Rattle.sql_meaning.specs.Values.{at}
use Rattle.sql_meaning.specs.Tables.{no_table, table_at, picked, unique_keys, agree, has_twins, without_twins, comes_before, with_row, rise, part_of_value}
use Rattle.sql_meaning.specs.Parts.{all_parts}
use Rattle.sql_laws.proofs.Plain.Folds.{range-has}
use Rattle.sql_laws.proofs.Plain.Orders.{row_cmp-equal, map-among}
use Rattle.sql_laws.proofs.Fits.{part_column, part_of_value-within}

-- ---- rows that agree

equal : (r : Ordering) → is_eq r ≡ true → r ≡ Equal
equal Less e = absurd (cc)
equal Equal e = refl
equal Greater e = absurd (cc)

pub agree_at : (key : List ℕ) (a b : Cells) (c : ℕ) → agree key a b ≡ true → list_any (λ k. k == c) key ≡ true → at a c ≡ at b c
agree_at key a b c e here = map-among (at a) (at b) c key (row_cmp-equal (picked key a) (picked key b) (equal (row_cmp (picked key a) (picked key b)) e)) here

-- ---- twins by partitions

any_or : {X : Type 0} (f g : X → Bool) (xs : List X) → list_any (λ x. f x || g x) xs ≡ (list_any f xs || list_any g xs)
any_or f g [] = refl
any_or f g (x ∷ xs) = ap (λ b. (f x || g x) || b) (any_or f g xs) ∙ mixed (f x) (g x) (list_any f xs) (list_any g xs)
  where
    mixed : (a b c d : Bool) → ((a || b) || (c || d)) ≡ ((a || c) || (b || d))
    mixed true b c d = refl
    mixed false true true d = refl
    mixed false true false d = refl
    mixed false false c d = refl

pub any_same : {X : Type 0} (f g : X → Bool) → ((x : X) → f x ≡ g x) → (xs : List X) → list_any f xs ≡ list_any g xs
any_same f g same [] = refl
any_same f g same (x ∷ xs) = λ i. same x i || any_same f g same xs i

pub any_none : {X : Type 0} (xs : List X) → list_any (λ x. false) xs ≡ false
any_none [] = refl
any_none (x ∷ xs) = any_none xs

-- one of them, and something
any_and : (h : ℕ) (b : Bool) (ps : List ℕ) → list_any (λ p. h == p) ps ≡ true → list_any (λ p. (h == p) && b) ps ≡ b
any_and h true ps here = any_same (λ p. (h == p) && true) (λ p. h == p) (λ p. and_true (h == p)) ps ∙ here
  where
    and_true : (c : Bool) → (c && true) ≡ c
    and_true true = refl
    and_true false = refl
any_and h false ps here = any_same (λ p. (h == p) && false) (λ p. false) (λ p. and_false (h == p)) ps ∙ any_none ps
  where
    and_false : (c : Bool) → (c && false) ≡ false
    and_false true = refl
    and_false false = refl

-- the partition of a row by a column
abbrev pub home : ℕ → ℕ → Cells → ℕ
home parts c row = part_of_value parts (at row c)

abbrev pub in_part : ℕ → ℕ → ℕ → Cells → Bool
in_part parts c p row = home parts c row == p

module _ (parts : ℕ) (some : 0 < parts) (c : ℕ) where
  -- those that agree with a row lie in its partition
  agree_home : (key : List ℕ) → list_any (λ k. k == c) key ≡ true → (row : Cells) (rows : List Cells) → list_any (agree key row) (filter (in_part parts c (home parts c row)) rows) ≡ list_any (agree key row) rows
  agree_home key here row [] = refl
  agree_home key here row (x ∷ rows) =
      elim (cases_Bool (in_part parts c (home parts c row) x)) [
        | inl same ↦ rw same (ap (λ b. agree key row x || b) (agree_home key here row rows))
        | inr other ↦ rw (other, agree_home key here row rows) (sym (ap (λ b. b || list_any (agree key row) rows) (apart x other)))
      ]
    where
      apart : (x : Cells) → in_part parts c (home parts c row) x ≡ false → agree key row x ≡ false
      apart x other = false_from_ne_true (agree key row x) (λ e. eqb-false (home parts c x) (home parts c row) other (ap (part_of_value parts) (sym (agree_at key row x c e here))))

  twins_step : (key : List ℕ) → list_any (λ k. k == c) key ≡ true → (row : Cells) (rows : List Cells) (p : ℕ)
      → has_twins key (filter (in_part parts c p) (row ∷ rows)) ≡ (((home parts c row == p) && list_any (agree key row) rows) || has_twins key (filter (in_part parts c p) rows))
  twins_step key here row rows p =
      elim (cases_Bool (home parts c row == p)) [
        | inl same ↦ rw same (ap (λ b. b || has_twins key (filter (in_part parts c p) rows)) (subst (λ q. list_any (agree key row) (filter (in_part parts c q) rows) ≡ list_any (agree key row) rows) (eqb-true (home parts c row) p same) (agree_home key here row rows)))
        | inr other ↦ rw other
      ]

  pub twins_parts : (key : List ℕ) → list_any (λ k. k == c) key ≡ true → (rows : List Cells) → list_any (λ p. has_twins key (filter (in_part parts c p) rows)) (all_parts parts) ≡ has_twins key rows
  twins_parts key here [] = any_none (all_parts parts)
  twins_parts key here (row ∷ rows) =
      any_same (λ p. has_twins key (filter (in_part parts c p) (row ∷ rows))) (λ p. ((home parts c row == p) && list_any (agree key row) rows) || has_twins key (filter (in_part parts c p) rows)) (twins_step key here row rows) (all_parts parts)
      ∙ any_or (λ p. (home parts c row == p) && list_any (agree key row) rows) (λ p. has_twins key (filter (in_part parts c p) rows)) (all_parts parts)
      ∙ (λ i. any_and (home parts c row) (list_any (agree key row) rows) (all_parts parts) (range-has 0 parts (home parts c row) (omega arith) (let b = part_of_value-within parts (at row c) some in omega arith)) i || twins_parts key here rows i)

  -- the same for many keys
  any_any : {K : Type 0} (f : K → ℕ → Bool) (ks : List K) (ps : List ℕ) → list_any (λ k. list_any (f k) ps) ks ≡ list_any (λ p. list_any (λ k. f k p) ks) ps
  any_any f [] ps = sym (any_none ps)
  any_any f (k ∷ ks) ps = ap (λ b. list_any (f k) ps || b) (any_any f ks ps) ∙ sym (any_or (f k) (λ p. list_any (λ k. f k p) ks) ps)

  each_key : (keys : List (List ℕ)) → list_all (λ key. list_any (λ k. k == c) key) keys ≡ true → (rows : List Cells)
      → list_any (λ key. has_twins key rows) keys ≡ list_any (λ key. list_any (λ p. has_twins key (filter (in_part parts c p) rows)) (all_parts parts)) keys
  each_key [] e rows = refl
  each_key (key ∷ keys) e rows =
      let two = and_parts (list_any (λ k. k == c) key) (list_all (λ key. list_any (λ k. k == c) key) keys) e in
      λ i. sym (twins_parts key two.0 rows) i || each_key keys two.1 rows i

  pub keys_parts : (keys : List (List ℕ)) → list_all (λ key. list_any (λ k. k == c) key) keys ≡ true → (rows : List Cells)
      → list_any (λ key. has_twins key rows) keys ≡ list_any (λ p. list_any (λ key. has_twins key (filter (in_part parts c p) rows)) keys) (all_parts parts)
  keys_parts keys e rows = each_key keys e rows ∙ any_any (λ key p. has_twins key (filter (in_part parts c p) rows)) keys (all_parts parts)

-- ---- each unique key has the partitioning column

index_key : (catalog : Contents) (n c : ℕ) (index : IndexDef) → (table_at catalog n).part ≡ Some c → is_index catalog.tables index ≡ true → (index.unique && (index.table == n)) ≡ true
    → list_any (λ k. k == c) index.columns ≡ true
index_key catalog n c index e rule is =
    let two = and_parts index.unique (index.table == n) is in
    let same : index.table ≡ n = eqb-true index.table n two.1 in
    let parts = and_parts (is_table_with index.columns (slice_get catalog.tables index.table)) (not (index.unique && lack_part index.columns (part_column_of (slice_get catalog.tables index.table)))) rule in
    let lacks : (index.unique && lack_part index.columns (part_column_of (slice_get catalog.tables index.table))) ≡ false = not-true (index.unique && lack_part index.columns (part_column_of (slice_get catalog.tables index.table))) parts.1 in
    let there : part_column_of (slice_get catalog.tables index.table) ≡ Some c = ap (λ k. part_column_of (slice_get catalog.tables k)) same ∙ part_is (slice_get catalog.tables n) e in
    let f : lack_part index.columns (Some c) ≡ false = subst (λ o. lack_part index.columns o ≡ false) there (second index.unique (lack_part index.columns (part_column_of (slice_get catalog.tables index.table))) two.0 lacks) in
    not-false (list_any (λ k. k == c) index.columns) f
  where
    part_is : (o : Option Table) → (unwrap_or o no_table).part ≡ Some c → part_column_of o ≡ Some c
    part_is None e = e
    part_is (Some t) e = e

    second : (a b : Bool) → a ≡ true → (a && b) ≡ false → b ≡ false
    second a b e f = (subst (λ (x : Bool). (x && b) ≡ false) e f)

index_keys : (catalog : Contents) (n c : ℕ) (indexes : List IndexDef) → (table_at catalog n).part ≡ Some c → list_all (is_index catalog.tables) indexes ≡ true
    → list_all (λ key. list_any (λ k. k == c) key) (map (λ (index : IndexDef). index.columns) (filter (λ index. index.unique && (index.table == n)) indexes)) ≡ true
index_keys catalog n c [] e rules = refl
index_keys catalog n c (index ∷ indexes) e rules =
    let two = and_parts (is_index catalog.tables index) (list_all (is_index catalog.tables) indexes) rules in
    elim (cases_Bool (index.unique && (index.table == n))) [
      | inl is ↦ rw is (and_from (list_any (λ k. k == c) index.columns) (list_all (λ key. list_any (λ k. k == c) key) (map (λ (index : IndexDef). index.columns) (filter (λ index. index.unique && (index.table == n)) indexes)))
          (index_key catalog n c index e two.0 is) (index_keys catalog n c indexes e two.1))
      | inr not_it ↦ rw not_it (index_keys catalog n c indexes e two.1)
    ]

pub unique_keys-have : (catalog : Contents) (rules : IsCatalog catalog) (n c : ℕ) → (table_at catalog n).part ≡ Some c → list_all (λ key. list_any (λ k. k == c) key) (unique_keys catalog n) ≡ true
unique_keys-have catalog rules n c e =
    and_from (list_any (λ k. k == c) (table_at catalog n).key) (list_all (λ key. list_any (λ k. k == c) key) (map (λ (index : IndexDef). index.columns) (filter (λ index. index.unique && (index.table == n)) catalog.indexes)))
    (part_column catalog n c rules e).in_key (index_keys catalog n c catalog.indexes e rules.indexes)

-- ---- Duplicate

abbrev pub has_any_twins : Contents → ℕ → List Cells → Bool
has_any_twins catalog n rows = list_any (λ key. has_twins key rows) (unique_keys catalog n)

abbrev pub duplicate : Contents → ℕ → List Cells → Option Fault
duplicate catalog n rows = if has_any_twins catalog n rows then Some Duplicate else None

pub without_twins-is : (catalog : Contents) (n : ℕ) (rows : List Cells) → without_twins catalog n rows ≡ unless (duplicate catalog n rows) rows
without_twins-is catalog n rows = by (has_any_twins catalog n rows)
  where
    by : (b : Bool) → (if b then Err Duplicate else Ok rows) ≡ unless (if b then Some Duplicate else None) rows
    by true = refl
    by false = refl

pub twins_of_parts : (parts : ℕ) (some : 0 < parts) (catalog : Contents) (rules : IsCatalog catalog) (n c : ℕ) → (table_at catalog n).part ≡ Some c → (rows : List Cells)
    → has_any_twins catalog n rows ≡ list_any (λ p. has_any_twins catalog n (filter (in_part parts c p) rows)) (all_parts parts)
twins_of_parts parts some catalog rules n c e rows = keys_parts parts some c (unique_keys catalog n) (unique_keys-have catalog rules n c e) rows

-- ---- a row put among others

comes_through : (table : Table) (a b d : Cells) → comes_before table a b ≡ true → comes_before table b d ≡ true → comes_before table a d ≡ true
comes_through table a b d e f =
    ap is_lt (row_total.trans (picked table.key a) (picked table.key b) (picked table.key d) (less (row_cmp (picked table.key a) (picked table.key b)) e) (less (row_cmp (picked table.key b) (picked table.key d)) f))
  where
    less : (r : Ordering) → is_lt r ≡ true → r ≡ Less
    less Less e = refl
    less Equal e = absurd (cc)
    less Greater e = absurd (cc)

-- behind a row that isn't before another none is
none_before : (table : Table) (row new : Cells) (rows : List Cells) → comes_before table row new ≡ false → list_all (comes_before table row) rows ≡ true → (test : Cells → Bool) → with_row table new (filter test rows) ≡ new ∷ filter test rows
none_before table row new [] e all test = refl
none_before table row new (x ∷ rows) e all test =
    let two = and_parts (comes_before table row x) (list_all (comes_before table row) rows) all in
    let later : comes_before table x new ≡ false = false_from_ne_true (comes_before table x new) (λ f. both_ways (comes_before table row new) e (comes_through table row x new two.0 f)) in
    elim (cases_Bool (test x)) [
      | inl passes ↦ rw (passes, later)
      | inr fails ↦ rw fails (none_before table row new rows e two.1 test)
    ]

pub filter-with_row : (table : Table) (test : Cells → Bool) (new : Cells) (rows : List Cells) → rise table rows ≡ true
    → filter test (with_row table new rows) ≡ (if test new then with_row table new (filter test rows) else filter test rows)
filter-with_row table test new [] up = by (test new)
  where
    by : (b : Bool) → cond b (new ∷ []) [] ≡ cond b (new ∷ []) []
    by b = refl
filter-with_row table test new (row ∷ rows) up =
    let two = and_parts (list_all (comes_before table row) rows) (rise table rows) up in
    let later = filter-with_row table test new rows two.1 in
    elim (cases_Bool (comes_before table row new)) [
      | inl before ↦ elim (cases_Bool (test row)) [
        | inl passes ↦ elim (cases_Bool (test new)) [
          | inl in_it ↦ rw (before, passes, in_it, before) (ap (λ (rs : List Cells). row ∷ rs) (later ∙ rw in_it))
          | inr out ↦ rw (before, passes, out) (ap (λ (rs : List Cells). row ∷ rs) (later ∙ rw out))
        ]
        | inr fails ↦ rw (before, fails) later
      ]
      | inr behind ↦ elim (cases_Bool (test row)) [
        | inl passes ↦ elim (cases_Bool (test new)) [
          | inl in_it ↦ rw (behind, in_it, passes, behind)
          | inr out ↦ rw (behind, out, passes)
        ]
        | inr fails ↦ elim (cases_Bool (test new)) [
          | inl in_it ↦ rw (behind, in_it, fails) (sym (none_before table row new rows behind two.0 test))
          | inr out ↦ rw (behind, out, fails)
        ]
      ]
    ]
