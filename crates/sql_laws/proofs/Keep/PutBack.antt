-- The rows of a partition put back among those of the others.
use Rattle.std.proofs.Common.{◌≡◌, ℕ, zero, suc, ◌<◌, Bool, true, false, not, cond, if◌then◌else◌, ◌||◌, List, [], ◌∷◌, ◌++◌, map, filter, length, slice_get, Option, Some, None, option_map, unwrap_or, sym, refl, ap, ◌∙◌, subst, inl, inr, arith, append_assoc, append-nil}
use Rattle.std.specs.List.{list_any, list_all, zip}
use Rattle.std.specs.Ordering.{is_lt, is_eq}
use Rattle.std.specs.declared.cmp.Ordering.{Ordering}
use Rattle.std.specs.declared.cmp.Ordering.TheVariants.{Less, Equal, Greater}
use Rattle.std.proofs.lemmas.Bool.{cases_Bool, and_parts, and_from, or_parts, or_from, both_ways, false_from_ne_true, eqb-true, cases_eq, not-true}
use Rattle.volt_catalog.specs.declared.table.Table.{Table}
use Rattle.volt_catalog.specs.Rules.{Contents}
use Rattle.volt_catalog.specs.Catalog.{IsCatalog}
use Rattle.sql_plan.specs.Rows.{Cells, row_cmp}
use Rattle.sql_meaning.specs.Values.{at}
use Rattle.sql_meaning.specs.Tables.{no_table, table_at, picked, is_row, agree, comes_before, with_row, with_rows, rise, part_of_value, is_part, lies_in}
use Rattle.sql_meaning.specs.Database.{Database, rows_of, AreRows, IsDatabase, share}
use Rattle.sql_meaning.specs.Calls.{put_back_rows, put_back}
use Rattle.sql_meaning.specs.Parts.{all_parts}
use Rattle.sql_laws.proofs.Plain.Rows.{filter-same, rows_of-share}
use Rattle.sql_laws.proofs.Plain.Orders.{row_cmp-equal}
use Rattle.sql_laws.proofs.Change.Twins.{in_part, any_same, any_none, has_any_twins, twins_of_parts, filter-with_row}
use Rattle.sql_laws.proofs.Keep.Databases.{all_filtered, all_when, filter_whole, rows-filter, all-with_row, rise-with_row, rise_filtered, database-share}
use Rattle.sql_laws.proofs.Plain.Folds.{filter_all}
use Rattle.sql_laws.proofs.Keep.Statements.{same_lies, Own}

-- ---- rows put in one after another

not_alike : (table : Table) (a b : Cells) → comes_before table a b ≡ true → agree table.key a b ≡ false
not_alike table a b e = by (row_cmp (picked table.key a) (picked table.key b)) e
  where
    by : (r : Ordering) → is_lt r ≡ true → is_eq r ≡ false
    by Less e = refl
    by Equal e = absurd (cc)
    by Greater e = absurd (cc)

any-with_row : (f : Cells → Bool) (table : Table) (new : Cells) (rows : List Cells) → f new ≡ false → list_any f rows ≡ false → list_any f (with_row table new rows) ≡ false
any-with_row f table new [] e none = or_from (f new) false e refl
any-with_row f table new (row ∷ rows) e none =
    let two = or_parts (f row) (list_any f rows) none in
    elim (cases_Bool (comes_before table row new)) [
      | inl before ↦ rw before (or_from (f row) (list_any f (with_row table new rows)) two.0 (any-with_row f table new rows e two.1))
      | inr behind ↦ rw behind (or_from (f new) (f row || list_any f rows) e none)
    ]

-- each of them agrees with none of the others on the key
abbrev pub are_apart : Table → List Cells → List Cells → Bool
are_apart table new rows = list_all (λ x. not (list_any (λ row. agree table.key row x) rows)) new

apart_more : (table : Table) (x : Cells) (more rows : List Cells) → list_all (comes_before table x) more ≡ true → are_apart table more rows ≡ true → are_apart table more (with_row table x rows) ≡ true
apart_more table x [] rows before apart = refl
apart_more table x (y ∷ more) rows before apart =
    let first = and_parts (comes_before table x y) (list_all (comes_before table x) more) before in
    let two = and_parts (not (list_any (λ row. agree table.key row y) rows)) (are_apart table more rows) apart in
    and_from (not (list_any (λ row. agree table.key row y) (with_row table x rows))) (are_apart table more (with_row table x rows))
    (ap not (any-with_row (λ row. agree table.key row y) table x rows (not_alike table x y first.0) (not-true (list_any (λ row. agree table.key row y) rows) two.0)))
    (apart_more table x more rows first.1 two.1)

pub rise-with_rows : (table : Table) (new rows : List Cells) → rise table new ≡ true → rise table rows ≡ true → are_apart table new rows ≡ true → rise table (with_rows table new rows) ≡ true
rise-with_rows table [] rows up up' apart = up'
rise-with_rows table (x ∷ more) rows up up' apart =
    let first = and_parts (list_all (comes_before table x) more) (rise table more) up in
    let two = and_parts (not (list_any (λ row. agree table.key row x) rows)) (are_apart table more rows) apart in
    rise-with_rows table more (with_row table x rows) first.1 (rise-with_row table x rows up' (not-true (list_any (λ row. agree table.key row x) rows) two.0)) (apart_more table x more rows first.0 two.1)

pub filter-with_rows : (table : Table) (test : Cells → Bool) (new rows : List Cells) → rise table new ≡ true → rise table rows ≡ true → are_apart table new rows ≡ true
    → filter test (with_rows table new rows) ≡ with_rows table (filter test new) (filter test rows)
filter-with_rows table test [] rows up up' apart = refl
filter-with_rows table test (x ∷ more) rows up up' apart =
    let first = and_parts (list_all (comes_before table x) more) (rise table more) up in
    let two = and_parts (not (list_any (λ row. agree table.key row x) rows)) (are_apart table more rows) apart in
    filter-with_rows table test more (with_row table x rows) first.1 (rise-with_row table x rows up' (not-true (list_any (λ row. agree table.key row x) rows) two.0)) (apart_more table x more rows first.0 two.1)
    ∙ ap (with_rows table (filter test more)) (filter-with_row table test x rows up')
    ∙ by (test x)
  where
    by : (b : Bool) → with_rows table (filter test more) (if b then with_row table x (filter test rows) else filter test rows) ≡ with_rows table (cond b (x ∷ filter test more) (filter test more)) (filter test rows)
    by true = refl
    by false = refl

pub all-with_rows : (f : Cells → Bool) (table : Table) (new rows : List Cells) → list_all f new ≡ true → list_all f rows ≡ true → list_all f (with_rows table new rows) ≡ true
all-with_rows f table [] rows e all = all
all-with_rows f table (x ∷ more) rows e all =
    let two = and_parts (f x) (list_all f more) e in all-with_rows f table more (with_row table x rows) two.1 (all-with_row f table x rows two.0 all)

-- rows in order, put in one after another where there are none
with_last : (table : Table) (x : Cells) (rows : List Cells) → list_all (λ row. comes_before table row x) rows ≡ true → with_row table x rows ≡ rows ++ (x ∷ [])
with_last table x [] before = refl
with_last table x (row ∷ rows) before =
    let two = and_parts (comes_before table row x) (list_all (λ r. comes_before table r x) rows) before in rw two.0 (ap (λ (rs : List Cells). row ∷ rs) (with_last table x rows two.1))

all_firsts : (table : Table) (x : Cells) (more rows : List Cells) → list_all (λ row. list_all (comes_before table row) (x ∷ more)) rows ≡ true → list_all (λ row. comes_before table row x) rows ≡ true
all_firsts table x more rows e = all_when (λ row. list_all (comes_before table row) (x ∷ more)) (λ row. comes_before table row x) (λ row f. (and_parts (comes_before table row x) (list_all (comes_before table row) more) f).0) rows e

all_rests : (table : Table) (x : Cells) (more rows : List Cells) → list_all (comes_before table x) more ≡ true → list_all (λ row. list_all (comes_before table row) (x ∷ more)) rows ≡ true → list_all (λ row. list_all (comes_before table row) more) (rows ++ (x ∷ [])) ≡ true
all_rests table x more [] first e = and_from (list_all (comes_before table x) more) true first refl
all_rests table x more (row ∷ rows) first e =
    let two = and_parts (list_all (comes_before table row) (x ∷ more)) (list_all (λ row. list_all (comes_before table row) (x ∷ more)) rows) e in
    and_from (list_all (comes_before table row) more) (list_all (λ row. list_all (comes_before table row) more) (rows ++ (x ∷ [])))
    (and_parts (comes_before table row x) (list_all (comes_before table row) more) two.0).1 (all_rests table x more rows first two.1)

rows_last : (table : Table) (new rows : List Cells) → rise table new ≡ true → list_all (λ row. list_all (comes_before table row) new) rows ≡ true → with_rows table new rows ≡ rows ++ new
rows_last table [] rows up before = sym (append-nil rows)
rows_last table (x ∷ more) rows up before =
    let first = and_parts (list_all (comes_before table x) more) (rise table more) up in
    ap (with_rows table more) (with_last table x rows (all_firsts table x more rows before))
    ∙ rows_last table more (rows ++ (x ∷ [])) first.1 (all_rests table x more rows first.0 before)
    ∙ append_assoc rows (x ∷ []) more

pub with_rows-none : (table : Table) (new : List Cells) → rise table new ≡ true → with_rows table new [] ≡ new
with_rows-none table new up = rows_last table new [] up refl

-- ---- the rows of a table

-- rows of other partitions
abbrev others : ℕ → ℕ → Table → List Cells → List Cells
others parts part table old = filter (λ row. not (lies_in parts part table row)) old

-- rows that lie in a partition agree with none of those that don't
apart_others : (parts part : ℕ) (catalog : Contents) (rules : IsCatalog catalog) (n : ℕ) (new old : List Cells) → list_all (lies_in parts part (table_at catalog n)) new ≡ true
    → are_apart (table_at catalog n) new (others parts part (table_at catalog n) old) ≡ true
apart_others parts part catalog rules n [] old here = refl
apart_others parts part catalog rules n (x ∷ new) old here =
    let two = and_parts (lies_in parts part (table_at catalog n) x) (list_all (lies_in parts part (table_at catalog n)) new) here in
    and_from (not (list_any (λ row. agree (table_at catalog n).key row x) (others parts part (table_at catalog n) old))) (are_apart (table_at catalog n) new (others parts part (table_at catalog n) old))
    (ap not (none_agrees old two.0)) (apart_others parts part catalog rules n new old two.1)
  where
    table : Table
    table = table_at catalog n

    equal : (r : Ordering) → is_eq r ≡ true → r ≡ Equal
    equal Less e = absurd (cc)
    equal Equal e = refl
    equal Greater e = absurd (cc)

    differ : (row : Cells) → lies_in parts part (table_at catalog n) x ≡ true → lies_in parts part (table_at catalog n) row ≡ false → agree (table_at catalog n).key row x ≡ false
    differ row lies other =
        false_from_ne_true (agree (table_at catalog n).key row x) (λ e.
        both_ways (lies_in parts part (table_at catalog n) row) other
        (same_lies parts part catalog rules n row x (row_cmp-equal (picked (table_at catalog n).key row) (picked (table_at catalog n).key x) (equal (row_cmp (picked (table_at catalog n).key row) (picked (table_at catalog n).key x)) e)) ∙ lies))

    none_agrees : (rows : List Cells) → lies_in parts part (table_at catalog n) x ≡ true → list_any (λ row. agree (table_at catalog n).key row x) (filter (λ row. not (lies_in parts part (table_at catalog n) row)) rows) ≡ false
    none_agrees [] lies = refl
    none_agrees (row ∷ rows) lies =
        elim (cases_Bool (lies_in parts part (table_at catalog n) row)) [
          | inl in_it ↦ rw in_it (none_agrees rows lies)
          | inr out ↦ rw out (or_from (agree (table_at catalog n).key row x) (list_any (λ row. agree (table_at catalog n).key row x) (filter (λ row. not (lies_in parts part (table_at catalog n) row)) rows)) (differ row lies out) (none_agrees rows lies))
        ]

no_others : {X : Type 0} (f : X → Bool) (xs : List X) → filter f (filter (λ x. not (f x)) xs) ≡ []
no_others f [] = refl
no_others f (x ∷ xs) =
    elim (cases_Bool (f x)) [
      | inl passes ↦ rw passes (no_others f xs)
      | inr fails ↦ rw (fails, fails) (no_others f xs)
    ]

still_others : {X : Type 0} (f g : X → Bool) → ((x : X) → g x ≡ true → f x ≡ false) → (xs : List X) → filter g (filter (λ x. not (f x)) xs) ≡ filter g xs
still_others f g apart [] = refl
still_others f g apart (x ∷ xs) =
    elim (cases_Bool (g x)) [
      | inl passes ↦ rw (apart x passes, passes) (ap (λ (ys : List _). x ∷ ys) (still_others f g apart xs))
      | inr fails ↦ elim (cases_Bool (f x)) [
        | inl out ↦ rw (out, fails) (still_others f g apart xs)
        | inr in_it ↦ rw (in_it, fails) (still_others f g apart xs)
      ]
    ]

none_of : {X : Type 0} (f g : X → Bool) → ((x : X) → f x ≡ true → g x ≡ false) → (xs : List X) → list_all f xs ≡ true → filter g xs ≡ []
none_of f g apart [] e = refl
none_of f g apart (x ∷ xs) e = let two = and_parts (f x) (list_all f xs) e in rw (apart x two.0) (none_of f g apart xs two.1)

module _ (parts part : ℕ) (some : 0 < parts) (catalog : Contents) (rules : IsCatalog catalog) (n : ℕ) (old new : List Cells) (are_old : AreRows catalog n old) (are_new : AreRows catalog n new)
    (here : list_all (lies_in parts part (table_at catalog n)) new ≡ true) where
  abbrev table : Table
  table = table_at catalog n

  abbrev rest : List Cells
  rest = others parts part table old

  abbrev whole : List Cells
  whole = put_back_rows parts part table old new

  apart : are_apart table new rest ≡ true
  apart = apart_others parts part catalog rules n new old here

  rest_up : rise table rest ≡ true
  rest_up = rise_filtered table (λ row. not (lies_in parts part table row)) old are_old.ordered

  pub put_here : filter (lies_in parts part table) whole ≡ new
  put_here =
      filter-with_rows table (lies_in parts part table) new rest are_new.ordered rest_up apart
      ∙ (λ i. with_rows table (filter_whole (lies_in parts part table) new here i) (no_others (lies_in parts part table) old i))
      ∙ with_rows-none table new are_new.ordered

  -- of a partitioned table the rows of other partitions stay
  pub put_there : (c q : ℕ) → table.part ≡ Some c → (q ≡ part → ⊥) → filter (lies_in parts q table) whole ≡ filter (lies_in parts q table) old
  put_there c q e other =
      filter-with_rows table (lies_in parts q table) new rest are_new.ordered rest_up apart
      ∙ (λ i. with_rows table (none_of (lies_in parts part table) (lies_in parts q table) (λ x l. elsewhere part q x other l) new here i) (still_others (lies_in parts part table) (lies_in parts q table) (λ x l. elsewhere q part x (λ f. other (sym f)) l) old i))
    where
      lies_is : (p : ℕ) (row : Cells) → lies_in parts p (table_at catalog n) row ≡ in_part parts c p row
      lies_is p row = ap (λ o. is_part p (option_map (λ column. part_of_value parts (at row column)) o)) e

      elsewhere : (p q : ℕ) (row : Cells) → (q ≡ p → ⊥) → lies_in parts p (table_at catalog n) row ≡ true → lies_in parts q (table_at catalog n) row ≡ false
      elsewhere p q row other l =
          false_from_ne_true (lies_in parts q (table_at catalog n) row) (λ m.
          other (sym (eqb-true (part_of_value parts (at row c)) q (sym (lies_is q row) ∙ m)) ∙ eqb-true (part_of_value parts (at row c)) p (sym (lies_is p row) ∙ l)))

  -- of each other table the new rows are all
  pub put_all_rows : table.part ≡ None → whole ≡ new
  put_all_rows e = ap (with_rows table new) (none_left old) ∙ with_rows-none table new are_new.ordered
    where
      all_here : (row : Cells) → lies_in parts part (table_at catalog n) row ≡ true
      all_here row = ap (λ o. is_part part (option_map (λ column. part_of_value parts (at row column)) o)) e

      none_left : (rows : List Cells) → filter (λ row. not (lies_in parts part (table_at catalog n) row)) rows ≡ []
      none_left [] = refl
      none_left (row ∷ rows) = rw (all_here row) (none_left rows)

  whole_unique : has_any_twins catalog n whole ≡ false
  whole_unique = by table.part refl
    where
      each : (c : ℕ) → table.part ≡ Some c → (q : ℕ) → has_any_twins catalog n (filter (in_part parts c q) whole) ≡ false
      each c e q =
          ap (has_any_twins catalog n) (sym (filter-same (lies_in parts q (table_at catalog n)) (in_part parts c q) (λ row. ap (λ o. is_part q (option_map (λ column. part_of_value parts (at row column)) o)) e) whole))
          ∙ elim (cases_eq q part) [
            | inl same ↦ ap (λ k. has_any_twins catalog n (filter (lies_in parts k (table_at catalog n)) whole)) same ∙ ap (has_any_twins catalog n) put_here ∙ are_new.unique
            | inr other ↦ ap (has_any_twins catalog n) (put_there c q e other) ∙ (rows-filter catalog n (lies_in parts q (table_at catalog n)) old are_old).unique
          ]

      by : (o : Option ℕ) → table.part ≡ o → has_any_twins catalog n whole ≡ false
      by None e = ap (has_any_twins catalog n) (put_all_rows e) ∙ are_new.unique
      by (Some c) e =
          twins_of_parts parts some catalog rules n c e whole
          ∙ any_same (λ q. has_any_twins catalog n (filter (in_part parts c q) whole)) (λ q. false) (each c e) (all_parts parts) ∙ any_none (all_parts parts)

  pub put_are : AreRows catalog n whole
  put_are =
      record {
        fit = all-with_rows (is_row table) table new rest are_new.fit (all_filtered (is_row table) (λ row. not (lies_in parts part table row)) old are_old.fit);
        ordered = rise-with_rows table new rest are_new.ordered rest_up apart;
        unique = whole_unique;
      }

-- ---- the database

put_rows : (put : Table → List Cells → List Cells → List Cells) → put no_table [] [] ≡ [] → (tables : List Table) (db new : Database) (n : ℕ) → length db ≡ length tables → length new ≡ length tables
    → unwrap_or (slice_get (map (λ t. put t.0 t.1.0 t.1.1) (zip tables (zip db new))) n) [] ≡ put (unwrap_or (slice_get tables n) no_table) (unwrap_or (slice_get db n) []) (unwrap_or (slice_get new n) [])
put_rows put none [] [] [] n same same' = sym none
put_rows put none [] [] (x ∷ new) n same same' = absurd (omega arith)
put_rows put none [] (x ∷ db) new n same same' = absurd (omega arith)
put_rows put none (t ∷ tables) [] new n same same' = absurd (omega arith)
put_rows put none (t ∷ tables) (x ∷ db) [] n same same' = absurd (omega arith)
put_rows put none (t ∷ tables) (x ∷ db) (y ∷ new) zero same same' = refl
put_rows put none (t ∷ tables) (x ∷ db) (y ∷ new) (suc n) same same' = put_rows put none tables db new n (omega arith) (omega arith)

put_length : (put : Table → List Cells → List Cells → List Cells) (tables : List Table) (db new : Database) → length db ≡ length tables → length new ≡ length tables → length (map (λ t. put t.0 t.1.0 t.1.1) (zip tables (zip db new))) ≡ length tables
put_length put [] db new same same' = refl
put_length put (t ∷ tables) [] new same same' = absurd (omega arith)
put_length put (t ∷ tables) (x ∷ db) [] same same' = absurd (omega arith)
put_length put (t ∷ tables) (x ∷ db) (y ∷ new) same same' = ap (λ (k : ℕ). suc k) (put_length put tables db new (omega arith) (omega arith))

-- databases that have the same rows in each table are the same
pub same_database : (a b : Database) → length a ≡ length b → ((n : ℕ) → rows_of a n ≡ rows_of b n) → a ≡ b
same_database [] [] long same = refl
same_database [] (y ∷ b) long same = absurd (omega arith)
same_database (x ∷ a) [] long same = absurd (omega arith)
same_database (x ∷ a) (y ∷ b) long same = λ i. same 0 i ∷ same_database a b (omega arith) (λ n. same (suc n)) i

module _ (parts part : ℕ) (some : 0 < parts) (catalog : Contents) (rules : IsCatalog catalog) (db new : Database) (is : IsDatabase catalog db) (own : Own parts part catalog (share parts catalog part db) new) where
  abbrev put : Database
  put = put_back parts catalog part db new

  rows_put : (n : ℕ) → rows_of put n ≡ put_back_rows parts part (table_at catalog n) (rows_of db n) (rows_of new n)
  rows_put n = put_rows (put_back_rows parts part) refl catalog.tables db new n is.tables own.database.tables

  length_put : length put ≡ length catalog.tables
  length_put = put_length (put_back_rows parts part) catalog.tables db new is.tables own.database.tables

  pub put_database : IsDatabase catalog put
  put_database =
      record {
        tables = length_put;
        each = λ n. subst (AreRows catalog n) (sym (rows_put n)) (put_are parts part some catalog rules n (rows_of db n) (rows_of new n) (is.each n) (own.database.each n) (own.here n));
      }

  share_rows : (q n : ℕ) → rows_of (share parts catalog q put) n ≡ filter (lies_in parts q (table_at catalog n)) (put_back_rows parts part (table_at catalog n) (rows_of db n) (rows_of new n))
  share_rows q n = rows_of-share parts catalog q put n length_put ∙ ap (filter (lies_in parts q (table_at catalog n))) (rows_put n)

  -- the partition has what was put back
  pub put_own : share parts catalog part put ≡ new
  put_own = same_database (share parts catalog part put) new ((database-share parts catalog part put put_database).tables ∙ sym own.database.tables)
      (λ n. share_rows part n ∙ put_here parts part some catalog rules n (rows_of db n) (rows_of new n) (is.each n) (own.database.each n) (own.here n))

  -- each other partition has what it had
  pub put_other : (q : ℕ) → (q ≡ part → ⊥) → share parts catalog q put ≡ share parts catalog q db
  put_other q other = same_database (share parts catalog q put) (share parts catalog q db) ((database-share parts catalog q put put_database).tables ∙ sym (database-share parts catalog q db is).tables)
      (λ n. share_rows q n ∙ by n (table_at catalog n).part refl ∙ sym (rows_of-share parts catalog q db n is.tables))
    where
      all_in : (p n : ℕ) → (table_at catalog n).part ≡ None → (rows : List Cells) → filter (lies_in parts p (table_at catalog n)) rows ≡ rows
      all_in p n e rows = filter_all (lies_in parts p (table_at catalog n)) (λ row. ap (λ o. is_part p (option_map (λ column. part_of_value parts (at row column)) o)) e) rows

      by : (n : ℕ) (o : Option ℕ) → (table_at catalog n).part ≡ o
          → filter (lies_in parts q (table_at catalog n)) (put_back_rows parts part (table_at catalog n) (rows_of db n) (rows_of new n)) ≡ filter (lies_in parts q (table_at catalog n)) (rows_of db n)
      by n None e =
          ap (filter (lies_in parts q (table_at catalog n))) (put_all_rows parts part some catalog rules n (rows_of db n) (rows_of new n) (is.each n) (own.database.each n) (own.here n) e
          ∙ own.others n e ∙ rows_of-share parts catalog part db n is.tables ∙ all_in part n e (rows_of db n))
      by n (Some c) e = put_there parts part some catalog rules n (rows_of db n) (rows_of new n) (is.each n) (own.database.each n) (own.here n) c q e other
