-- Databases: tables with other rows, shares, rows that are taken out, and rows that are put in.
use Rattle.std.proofs.Common.{◌≡◌, ℕ, zero, suc, ◌<◌, ◌≤◌, Bool, true, false, not, ◌&&◌, List, [], ◌∷◌, map, filter, length, sym, refl, ap, ◌∙◌, subst, inl, inr, arith, length-set}
use Rattle.std.specs.List.{list_any, list_all, zip}
use Rattle.std.specs.Ordering.{is_lt, is_eq, ordering_reverse}
use Rattle.std.specs.declared.cmp.Ordering.{Ordering}
use Rattle.std.specs.declared.cmp.Ordering.TheVariants.{Less, Equal, Greater}
use Rattle.std.proofs.lemmas.Bool.{cases_Bool, and_parts, and_from, or_parts, or_from, cases_eq, both_ways, cases_lt}
use Rattle.volt_catalog.specs.declared.table.Table.{Table}
use Rattle.volt_catalog.specs.Rules.{Contents}
use Rattle.sql_plan.specs.Rows.{Cells, row_cmp, row_total}
use Rattle.sql_meaning.specs.Tables.{table_at, picked, is_row, agree, has_twins, unique_keys, comes_before, with_row, rise, lies_in}
use Rattle.sql_meaning.specs.Database.{Database, rows_of, set_rows, AreRows, IsDatabase, share}
use Rattle.sql_laws.proofs.Plain.Rows.{rows_of-share}
use Rattle.sql_laws.proofs.Change.Inserts.{no_twins-filter}

-- ---- all of some

pub all_filtered : {X : Type 0} (f test : X → Bool) (xs : List X) → list_all f xs ≡ true → list_all f (filter test xs) ≡ true
all_filtered f test [] e = refl
all_filtered f test (x ∷ xs) e =
    let two = and_parts (f x) (list_all f xs) e in
    elim (cases_Bool (test x)) [
      | inl passes ↦ rw passes (and_from (f x) (list_all f (filter test xs)) two.0 (all_filtered f test xs two.1))
      | inr fails ↦ rw fails (all_filtered f test xs two.1)
    ]

pub all_same : {X : Type 0} (f g : X → Bool) → ((x : X) → f x ≡ g x) → (xs : List X) → list_all f xs ≡ list_all g xs
all_same f g same [] = refl
all_same f g same (x ∷ xs) = λ i. same x i && all_same f g same xs i

pub all_when : {X : Type 0} (f g : X → Bool) → ((x : X) → f x ≡ true → g x ≡ true) → (xs : List X) → list_all f xs ≡ true → list_all g xs ≡ true
all_when f g implies [] e = refl
all_when f g implies (x ∷ xs) e = let two = and_parts (f x) (list_all f xs) e in and_from (g x) (list_all g xs) (implies x two.0) (all_when f g implies xs two.1)

pub filter_whole : {X : Type 0} (f : X → Bool) (xs : List X) → list_all f xs ≡ true → filter f xs ≡ xs
filter_whole f [] e = refl
filter_whole f (x ∷ xs) e = let two = and_parts (f x) (list_all f xs) e in rw two.0 (ap (λ (ys : List _). x ∷ ys) (filter_whole f xs two.1))

pub filter_nothing : {X : Type 0} (f : X → Bool) (xs : List X) → list_all (λ x. not (f x)) xs ≡ true → filter f xs ≡ []
filter_nothing f [] e = refl
filter_nothing f (x ∷ xs) e =
    let two = and_parts (not (f x)) (list_all (λ x. not (f x)) xs) e in
    elim (cases_Bool (f x)) [
      | inl passes ↦ absurd (both_ways (not (f x)) (rw passes) two.0)
      | inr fails ↦ rw fails (filter_nothing f xs two.1)
    ]

pub rise_filtered : (table : Table) (test : Cells → Bool) (rows : List Cells) → rise table rows ≡ true → rise table (filter test rows) ≡ true
rise_filtered table test [] e = refl
rise_filtered table test (row ∷ rows) e =
    let two = and_parts (list_all (comes_before table row) rows) (rise table rows) e in
    elim (cases_Bool (test row)) [
      | inl passes ↦ rw passes (and_from (list_all (comes_before table row) (filter test rows)) (rise table (filter test rows)) (all_filtered (comes_before table row) test rows two.0) (rise_filtered table test rows two.1))
      | inr fails ↦ rw fails (rise_filtered table test rows two.1)
    ]

-- ---- rows taken out

pub rows-filter : (catalog : Contents) (n : ℕ) (test : Cells → Bool) (rows : List Cells) → AreRows catalog n rows → AreRows catalog n (filter test rows)
rows-filter catalog n test rows are =
    record {
      fit = all_filtered (is_row (table_at catalog n)) test rows are.fit;
      ordered = rise_filtered (table_at catalog n) test rows are.ordered;
      unique = no_twins-filter catalog n test rows are.unique;
    }

keys_none : (keys : List (List ℕ)) → list_any (λ key. has_twins key []) keys ≡ false
keys_none [] = refl
keys_none (key ∷ keys) = keys_none keys

pub rows-none : (catalog : Contents) (n : ℕ) → AreRows catalog n []
rows-none catalog n = record { fit = refl; ordered = refl; unique = keys_none (unique_keys catalog n) }

-- ---- tables with other rows

pub rows_of-set : (db : Database) (n : ℕ) (rows : List Cells) → n < length db → rows_of (set_rows db n rows) n ≡ rows
rows_of-set [] n rows below = absurd (omega arith)
rows_of-set (x ∷ db) zero rows below = refl
rows_of-set (x ∷ db) (suc n) rows below = rows_of-set db n rows (omega arith)

pub rows_of-set_past : (db : Database) (n : ℕ) (rows : List Cells) → length db ≤ n → set_rows db n rows ≡ db
rows_of-set_past [] n rows past = refl
rows_of-set_past (x ∷ db) zero rows past = absurd (omega arith)
rows_of-set_past (x ∷ db) (suc n) rows past = ap (λ (rest : Database). x ∷ rest) (rows_of-set_past db n rows (omega arith))

pub rows_of-set_other : (db : Database) (n m : ℕ) (rows : List Cells) → (m ≡ n → ⊥) → rows_of (set_rows db n rows) m ≡ rows_of db m
rows_of-set_other [] n m rows other = refl
rows_of-set_other (x ∷ db) zero zero rows other = absurd (other refl)
rows_of-set_other (x ∷ db) zero (suc m) rows other = refl
rows_of-set_other (x ∷ db) (suc n) zero rows other = refl
rows_of-set_other (x ∷ db) (suc n) (suc m) rows other = rows_of-set_other db n m rows (λ e. other (ap (λ (k : ℕ). suc k) e))

pub database-set : (catalog : Contents) (db : Database) (n : ℕ) (rows : List Cells) → IsDatabase catalog db → AreRows catalog n rows → IsDatabase catalog (set_rows db n rows)
database-set catalog db n rows is are =
    elim (cases_lt n (length db)) [
      | inl below ↦ record {
        tables = length-set db n rows ∙ is.tables;
        each = λ m. elim (cases_eq m n) [
          | inl same ↦ subst (λ k. AreRows catalog k (rows_of (set_rows db n rows) k)) (sym same) (subst (AreRows catalog n) (sym (rows_of-set db n rows below)) are)
          | inr other ↦ subst (AreRows catalog m) (sym (rows_of-set_other db n m rows other)) (is.each m)
        ];
      }
      | inr past ↦ subst (IsDatabase catalog) (sym (rows_of-set_past db n rows past)) is
    ]

-- ---- a share

share_length : (test : Table → Cells → Bool) (tables : List Table) (db : Database) → length db ≡ length tables → length (map (λ t. filter (test t.0) t.1) (zip tables db)) ≡ length tables
share_length test [] db same = refl
share_length test (t ∷ tables) [] same = absurd (omega arith)
share_length test (t ∷ tables) (rows ∷ db) same = ap (λ (k : ℕ). suc k) (share_length test tables db (omega arith))

pub database-share : (parts : ℕ) (catalog : Contents) (part : ℕ) (db : Database) → IsDatabase catalog db → IsDatabase catalog (share parts catalog part db)
database-share parts catalog part db is =
    record {
      tables = share_length (lies_in parts part) catalog.tables db is.tables;
      each = λ n. subst (AreRows catalog n) (sym (rows_of-share parts catalog part db n is.tables)) (rows-filter catalog n (lies_in parts part (table_at catalog n)) (rows_of db n) (is.each n));
    }

-- ---- a row put in

all_with : (f : Cells → Bool) (table : Table) (new : Cells) (rows : List Cells) → f new ≡ true → list_all f rows ≡ true → list_all f (with_row table new rows) ≡ true
all_with f table new [] e all = and_from (f new) true e refl
all_with f table new (row ∷ rows) e all =
    let two = and_parts (f row) (list_all f rows) all in
    elim (cases_Bool (comes_before table row new)) [
      | inl before ↦ rw before (and_from (f row) (list_all f (with_row table new rows)) two.0 (all_with f table new rows e two.1))
      | inr behind ↦ rw behind (and_from (f new) (f row && list_all f rows) e all)
    ]

pub all-with_row : (f : Cells → Bool) (table : Table) (new : Cells) (rows : List Cells) → f new ≡ true → list_all f rows ≡ true → list_all f (with_row table new rows) ≡ true
all-with_row = all_with

-- two rows in order, either way
before_or_not : (r : Ordering) → is_lt r ≡ false → is_eq r ≡ false → is_lt (ordering_reverse r) ≡ true
before_or_not Less e f = absurd (cc)
before_or_not Equal e f = absurd (cc)
before_or_not Greater e f = refl

pub behind_it : (table : Table) (row new : Cells) → comes_before table row new ≡ false → agree table.key row new ≡ false → comes_before table new row ≡ true
behind_it table row new e f = ap is_lt (row_total.antisymm (picked table.key new) (picked table.key row)) ∙ before_or_not (row_cmp (picked table.key row) (picked table.key new)) e f

pub through : (table : Table) (a b d : Cells) → comes_before table a b ≡ true → comes_before table b d ≡ true → comes_before table a d ≡ true
through table a b d e f = ap is_lt (row_total.trans (picked table.key a) (picked table.key b) (picked table.key d) (less (row_cmp (picked table.key a) (picked table.key b)) e) (less (row_cmp (picked table.key b) (picked table.key d)) f))
  where
    less : (r : Ordering) → is_lt r ≡ true → r ≡ Less
    less Less e = refl
    less Equal e = absurd (cc)
    less Greater e = absurd (cc)

-- a row that agrees with none of the others on the key has its place among them
pub rise-with_row : (table : Table) (new : Cells) (rows : List Cells) → rise table rows ≡ true → list_any (λ row. agree table.key row new) rows ≡ false → rise table (with_row table new rows) ≡ true
rise-with_row table new [] up apart = refl
rise-with_row table new (row ∷ rows) up apart =
    let two = and_parts (list_all (comes_before table row) rows) (rise table rows) up in
    let none = or_parts (agree table.key row new) (list_any (λ row. agree table.key row new) rows) apart in
    elim (cases_Bool (comes_before table row new)) [
      | inl before ↦ rw before (and_from (list_all (comes_before table row) (with_row table new rows)) (rise table (with_row table new rows)) (all_with (comes_before table row) table new rows before two.0) (rise-with_row table new rows two.1 none.1))
      | inr behind ↦
          let first : comes_before table new row ≡ true = behind_it table row new behind none.0 in
          let rest : list_all (comes_before table new) rows ≡ true = all_when (comes_before table row) (comes_before table new) (λ x e. through table new row x first e) rows two.0 in
          rw behind (and_from (comes_before table new row && list_all (comes_before table new) rows) (list_all (comes_before table row) rows && rise table rows) (and_from (comes_before table new row) (list_all (comes_before table new) rows) first rest) up)
    ]

-- rows of which no two agree: a row that was put in agrees with none of the others
agree_back : (key : List ℕ) (a b : Cells) → agree key a b ≡ agree key b a
agree_back key a b = ap is_eq (row_total.antisymm (picked key a) (picked key b)) ∙ by (row_cmp (picked key b) (picked key a))
  where
    by : (r : Ordering) → is_eq (ordering_reverse r) ≡ is_eq r
    by Less = refl
    by Equal = refl
    by Greater = refl

any_with : (f : Cells → Bool) (table : Table) (new : Cells) (rows : List Cells) → list_any f (with_row table new rows) ≡ false → f new ≡ false
any_with f table new [] e = (or_parts (f new) false e).0
any_with f table new (row ∷ rows) e =
    elim (cases_Bool (comes_before table row new)) [
      | inl before ↦ any_with f table new rows (or_parts (f row) (list_any f (with_row table new rows)) (rw before at e)).1
      | inr behind ↦ (or_parts (f new) (list_any f (row ∷ rows)) (rw behind at e)).0
    ]

pub apart-with_row : (key : List ℕ) (table : Table) (new : Cells) (rows : List Cells) → has_twins key (with_row table new rows) ≡ false → list_any (λ row. agree key row new) rows ≡ false
apart-with_row key table new [] e = refl
apart-with_row key table new (row ∷ rows) e =
    elim (cases_Bool (comes_before table row new)) [
      | inl before ↦
          let two = or_parts (list_any (agree key row) (with_row table new rows)) (has_twins key (with_row table new rows)) (rw before at e) in
          or_from (agree key row new) (list_any (λ row. agree key row new) rows) (any_with (agree key row) table new rows two.0) (apart-with_row key table new rows two.1)
      | inr behind ↦
          let two = or_parts (list_any (agree key new) (row ∷ rows)) (has_twins key (row ∷ rows)) (rw behind at e) in
          any_back (row ∷ rows) two.0
    ]
  where
    any_back : (xs : List Cells) → list_any (agree key new) xs ≡ false → list_any (λ x. agree key x new) xs ≡ false
    any_back [] e = refl
    any_back (x ∷ xs) e =
        let two = or_parts (agree key new x) (list_any (agree key new) xs) e in
        or_from (agree key x new) (list_any (λ x. agree key x new) xs) (agree_back key x new ∙ two.0) (any_back xs two.1)
