-- An INSERT on the whole database is its parts on the partitions.
use Rattle.std.proofs.Common.{◌≡◌, ℕ, zero, suc, ◌+◌, ◌<◌, Bool, true, false, cond, if◌then◌else◌, List, [], ◌∷◌, map, filter, sum_by, Option, Some, None, option_map, Result, Ok, Err, sym, refl, ap, ◌∙◌, inl, inr, arith, add_comm, add_assoc, add-zero}
use Rattle.std.specs.List.{list_any}
use Rattle.std.proofs.lemmas.Bool.{cases_Bool, or_parts, or_from, eqb-true}
use Rattle.volt_catalog.specs.Rules.{Contents}
use Rattle.volt_catalog.specs.Catalog.{IsCatalog}
use Rattle.sql_plan.specs.declared.fault.Fault.{Fault}
use Rattle.sql_plan.specs.declared.fault.Fault.TheVariants.{Duplicate}
use Rattle.sql_plan.specs.declared.partial.Partial.{Partial}
use Rattle.sql_plan.specs.declared.partial.Partial.TheVariants as partial
use Rattle.sql_plan.specs.declared.prepared.InsertPlan.{InsertPlan}
use Rattle.sql_plan.specs.declared.prepared.Scope.{Scope}
use Rattle.sql_plan.specs.Rows.{Cells}
use Rattle.sql_meaning.specs.Judged.{with, least, unless, collected}
use Rattle.sql_meaning.specs.Values.{at}
use Rattle.sql_meaning.specs.Tables.{table_at, agree, has_twins, unique_keys, with_row, part_of_value, is_part, lies_in}
use Rattle.sql_meaning.specs.Database.{Database, rows_of, set_rows, share, IsDatabase}
use Rattle.sql_meaning.specs.Changes.{inserted_row, inserted, counted}
use Rattle.sql_meaning.specs.Statements.{insert_means}
use Rattle.sql_meaning.specs.Parts.{elsewhere, part_of_insert, count_in, all_parts}
use Rattle.sql_laws.proofs.Plain.Folds.{range-has, range-distinct, range-cons}
use Rattle.sql_laws.proofs.Plain.Faults.{least-same}
use Rattle.sql_laws.proofs.Plain.Totals.{total, total-map, total-same, total_parts}
use Rattle.sql_laws.proofs.Plain.Judgements.{with_unless, all_least, collected_unless}
use Rattle.sql_laws.proofs.Plain.Rows.{filter-same, rows_of-share, share-set_rows}
use Rattle.sql_laws.proofs.Fits.{part_of_value-within}
use Rattle.sql_laws.proofs.Change.Twins.{home, in_part, any_same, has_any_twins, duplicate, without_twins-is, twins_of_parts, filter-with_row}
use Rattle.sql_laws.proofs.Change.Fates.{duplicates, sum_by-total, none_among, ok_unless}

-- ---- rows without twins, of which some are taken

any_filtered : {X : Type 0} (f test : X → Bool) (xs : List X) → list_any f xs ≡ false → list_any f (filter test xs) ≡ false
any_filtered f test [] e = refl
any_filtered f test (x ∷ xs) e =
    let two = or_parts (f x) (list_any f xs) e in
    elim (cases_Bool (test x)) [
      | inl passes ↦ rw passes (or_from (f x) (list_any f (filter test xs)) two.0 (any_filtered f test xs two.1))
      | inr fails ↦ rw fails (any_filtered f test xs two.1)
    ]

twins_filtered : (key : List ℕ) (test : Cells → Bool) (rows : List Cells) → has_twins key rows ≡ false → has_twins key (filter test rows) ≡ false
twins_filtered key test [] e = refl
twins_filtered key test (row ∷ rows) e =
    let two = or_parts (list_any (agree key row) rows) (has_twins key rows) e in
    elim (cases_Bool (test row)) [
      | inl passes ↦ rw passes (or_from (list_any (agree key row) (filter test rows)) (has_twins key (filter test rows)) (any_filtered (agree key row) test rows two.0) (twins_filtered key test rows two.1))
      | inr fails ↦ rw fails (twins_filtered key test rows two.1)
    ]

keys_filtered : (keys : List (List ℕ)) (test : Cells → Bool) (rows : List Cells) → list_any (λ key. has_twins key rows) keys ≡ false → list_any (λ key. has_twins key (filter test rows)) keys ≡ false
keys_filtered [] test rows e = refl
keys_filtered (key ∷ keys) test rows e =
    let two = or_parts (has_twins key rows) (list_any (λ key. has_twins key rows) keys) e in
    or_from (has_twins key (filter test rows)) (list_any (λ key. has_twins key (filter test rows)) keys) (twins_filtered key test rows two.0) (keys_filtered keys test rows two.1)

pub no_twins-filter : (catalog : Contents) (n : ℕ) (test : Cells → Bool) (rows : List Cells) → has_any_twins catalog n rows ≡ false → has_any_twins catalog n (filter test rows) ≡ false
no_twins-filter catalog n test rows e = keys_filtered (unique_keys catalog n) test rows e

-- ---- on a table that is partitioned by a column

module _ (parts : ℕ) (some : 0 < parts) (catalog : Contents) (rules : IsCatalog catalog) (insert : InsertPlan) (c : ℕ) (e : (table_at catalog insert.table).part ≡ Some c)
    (scope : Scope) (in_all : (db : Database) → elsewhere scope db ≡ Ok (db, partial.Count 0)) (args : Cells) (db : Database) (is : IsDatabase catalog db) where
  abbrev n : ℕ
  n = insert.table

  abbrev rows : List Cells
  rows = rows_of db n

  abbrev part_rows : ℕ → List Cells
  part_rows p = filter (in_part parts c p) rows

  lies_is : (p : ℕ) (row : Cells) → lies_in parts p (table_at catalog n) row ≡ in_part parts c p row
  lies_is p row = ap (λ o. is_part p (option_map (λ column. part_of_value parts (at row column)) o)) e

  rows_share : (p : ℕ) → rows_of (share parts catalog p db) n ≡ part_rows p
  rows_share p = rows_of-share parts catalog p db n is.tables ∙ filter-same (lies_in parts p (table_at catalog n)) (in_part parts c p) (lies_is p) rows

  abbrev put_whole : Cells → List Cells
  put_whole row = with_row (table_at catalog n) row rows

  abbrev put_part : Cells → ℕ → List Cells
  put_part row p = if in_part parts c p row then with_row (table_at catalog n) row (part_rows p) else part_rows p

  put_share : (row : Cells) (p : ℕ) → filter (in_part parts c p) (put_whole row) ≡ put_part row p
  put_share row p = filter-with_row (table_at catalog n) (in_part parts c p) row rows (is.each n).ordered

  abbrev part_duplicate : Cells → ℕ → Option Fault
  part_duplicate row p = duplicate catalog n (put_part row p)

  all_duplicates : (row : Cells) → all_least (part_duplicate row) (all_parts parts) ≡ duplicate catalog n (put_whole row)
  all_duplicates row =
      duplicates (λ p. has_any_twins catalog n (put_part row p)) (all_parts parts)
      ∙ ap (λ b. if b then Some Duplicate else None)
      (any_same (λ p. has_any_twins catalog n (put_part row p)) (λ p. has_any_twins catalog n (filter (in_part parts c p) (put_whole row))) (λ p. ap (has_any_twins catalog n) (sym (put_share row p))) (all_parts parts)
      ∙ sym (twins_of_parts parts some catalog rules n c e (put_whole row)))

  abbrev count : Cells → ℕ → ℕ
  count row p = cond (in_part parts c p row) 1 0

  one_row : (row : Cells) → total ◌+◌ 0 (count row) (all_parts parts) ≡ 1
  one_row row =
      total-same ◌+◌ 0 (count row) (λ p. total ◌+◌ 0 (λ (x : Cells). 1) (filter (in_part parts c p) (row ∷ []))) (λ p. by (in_part parts c p row)) (all_parts parts)
      ∙ total_parts ◌+◌ 0 add_assoc add_comm add-zero (λ (x : Cells). 1) (in_part parts c) (λ p q x f g. sym (eqb-true (home parts c x) q g) ∙ eqb-true (home parts c x) p f) (all_parts parts) (range-distinct 0 parts) (row ∷ [])
      ∙ ap (λ b. total ◌+◌ 0 (λ (x : Cells). 1) (cond b (row ∷ []) [])) (range-has 0 parts (home parts c row) (omega arith) (let b = part_of_value-within parts (at row c) some in omega arith))
    where
      by : (b : Bool) → cond b 1 0 ≡ total ◌+◌ 0 (λ (x : Cells). 1) (cond b (row ∷ []) [])
      by true = refl
      by false = refl

  -- what becomes of a row that is put in, on the whole and on a partition
  abbrev whole_of : Cells → Result (Database × List Cells) Fault
  whole_of row = with (inserted catalog n rows row) (λ rs. Ok (set_rows db n rs, counted 1))

  abbrev part_of : ℕ → Cells → Result (Database × Partial) Fault
  part_of p row = if lies_in parts p (table_at catalog n) row then with (inserted catalog n (rows_of (share parts catalog p db) n) row) (λ rs. Ok (set_rows (share parts catalog p db) n rs, partial.Count 1)) else elsewhere scope (share parts catalog p db)

  whole_is : (row : Cells) → whole_of row ≡ unless (duplicate catalog n (put_whole row)) (set_rows db n (put_whole row), counted 1)
  whole_is row = ap (λ r. with r (λ rs. Ok (set_rows db n rs, counted 1))) (without_twins-is catalog n (put_whole row)) ∙ with_unless (duplicate catalog n (put_whole row)) (put_whole row) (λ rs. (set_rows db n rs, counted 1))

  -- a part is the rows that the whole has there
  set_same : (db : Database) (n : ℕ) → set_rows db n (rows_of db n) ≡ db
  set_same [] n = refl
  set_same (x ∷ db) zero = refl
  set_same (x ∷ db) (suc n) = ap (λ (rest : Database). x ∷ rest) (set_same db n)

  abbrev put_if : Bool → Cells → ℕ → List Cells
  put_if b row p = if b then with_row (table_at catalog n) row (part_rows p) else part_rows p

  abbrev put_rows : ℕ → List Cells → Database × Partial
  put_rows p rs = (set_rows (share parts catalog p db) n rs, partial.Count 1)

  part_by : (p : ℕ) (row : Cells) (b : Bool)
      → (if b then with (inserted catalog n (rows_of (share parts catalog p db) n) row) (λ rs. Ok (put_rows p rs)) else elsewhere scope (share parts catalog p db))
      ≡ unless (duplicate catalog n (put_if b row p)) (set_rows (share parts catalog p db) n (put_if b row p), partial.Count (cond b 1 0))
  part_by p row true =
      ap (λ xs. with (inserted catalog n xs row) (λ rs. Ok (put_rows p rs))) (rows_share p)
      ∙ ap (λ r. with r (λ rs. Ok (put_rows p rs))) (without_twins-is catalog n (with_row (table_at catalog n) row (part_rows p)))
      ∙ with_unless (duplicate catalog n (with_row (table_at catalog n) row (part_rows p))) (with_row (table_at catalog n) row (part_rows p)) (put_rows p)
  part_by p row false =
      in_all (share parts catalog p db)
      ∙ ap (λ (d : Database). Ok (d, partial.Count 0)) (sym (set_same (share parts catalog p db) n) ∙ ap (set_rows (share parts catalog p db) n) (rows_share p))
      ∙ ap (λ b. unless (if b then Some Duplicate else None) (set_rows (share parts catalog p db) n (part_rows p), partial.Count 0)) (sym (no_twins-filter catalog n (in_part parts c p) rows (is.each n).unique))

  part_is : (p : ℕ) (row : Cells) → part_of p row ≡ unless (part_duplicate row p) (set_rows (share parts catalog p db) n (put_part row p), partial.Count (count row p))
  part_is p row =
      ap (λ b. if b then with (inserted catalog n (rows_of (share parts catalog p db) n) row) (λ rs. Ok (put_rows p rs)) else elsewhere scope (share parts catalog p db)) (lies_is p row)
      ∙ part_by p row (in_part parts c p row)

  answer_is : (p : ℕ) (row : Cells) → with (part_of p row) (λ r. Ok r.1) ≡ unless (part_duplicate row p) (partial.Count (count row p))
  answer_is p row =
      ap (λ r. with r (λ (made : Database × Partial). Ok made.1)) (part_is p row)
      ∙ with_unless (part_duplicate row p) (set_rows (share parts catalog p db) n (put_part row p), partial.Count (count row p)) (λ made. made.1)

  counts : (row : Cells) (ps : List ℕ) → sum_by count_in (map (λ p. partial.Count (count row p)) ps) ≡ total ◌+◌ 0 (count row) ps
  counts row ps = sum_by-total count_in (map (λ p. partial.Count (count row p)) ps) ∙ total-map ◌+◌ 0 count_in (λ p. partial.Count (count row p)) ps

  -- all partitions have the same fault
  all_faulted : (f : Fault) (x : Partial) → collected (map (λ p. unless (Some f) x) (all_parts parts)) ≡ Err f
  all_faulted f x =
      collected_unless (λ p. Some f) (λ p. x) (all_parts parts)
      ∙ ap (λ g. unless g (map (λ p. x) (all_parts parts))) (let first = range-cons parts some in ap (all_least (λ p. Some f)) first.1 ∙ same first.0)
    where
      same : (ps : List ℕ) → all_least (λ p. Some f) (0 ∷ ps) ≡ Some f
      same [] = refl
      same (p ∷ ps) = ap (least (Some f)) (same ps) ∙ least-same (Some f)

  answers_by : (r : Result Cells Fault) → with (with r whole_of) (λ w. Ok w.1)
      ≡ with (collected (map (λ p. with (with r (part_of p)) (λ w. Ok w.1)) (all_parts parts))) (λ ps. Ok (counted (sum_by count_in ps)))
  answers_by (Err f) = ap (λ r. with r (λ ps. Ok (counted (sum_by count_in ps)))) (sym (all_faulted f (partial.Count 0)))
  answers_by (Ok row) =
      ap (λ r. with r (λ (made : Database × List Cells). Ok made.1)) (whole_is row)
      ∙ with_unless (duplicate catalog n (put_whole row)) (set_rows db n (put_whole row), counted 1) (λ made. made.1)
      ∙ (λ i. unless (sym (all_duplicates row) i) (counted (sym (counts row (all_parts parts) ∙ one_row row) i)))
      ∙ sym (with_unless (all_least (part_duplicate row) (all_parts parts)) (map (λ p. partial.Count (count row p)) (all_parts parts)) (λ ps. counted (sum_by count_in ps)))
      ∙ ap (λ r. with r (λ ps. Ok (counted (sum_by count_in ps)))) (sym ((λ i. collected (map (λ p. answer_is p row i) (all_parts parts)))
      ∙ collected_unless (part_duplicate row) (λ p. partial.Count (count row p)) (all_parts parts)))

  pub insert_answers : with (insert_means parts catalog None insert args db) (λ w. Ok w.1)
      ≡ with (collected (map (λ p. with (part_of_insert parts catalog p scope insert args (share parts catalog p db)) (λ w. Ok w.1)) (all_parts parts))) (λ ps. Ok (counted (sum_by count_in ps)))
  insert_answers = answers_by (inserted_row catalog insert args)

  shares_by : (r : Result Cells Fault) (p : ℕ) → p < parts → (whole : Database × List Cells) → with r whole_of ≡ Ok whole
      → (count : ℕ) × (with r (part_of p) ≡ Ok (share parts catalog p whole.0, partial.Count count))
  shares_by (Err f) p within whole done = absurd (cc)
  shares_by (Ok row) p within whole done =
      let made = ok_unless (duplicate catalog n (put_whole row)) (set_rows db n (put_whole row), counted 1) whole (sym (whole_is row) ∙ done) in
      let none : part_duplicate row p ≡ None = none_among (part_duplicate row) (all_parts parts) p (all_duplicates row ∙ made.0) (range-has 0 parts p (omega arith) (omega arith)) in
      let put : put_part row p ≡ filter (lies_in parts p (table_at catalog n)) (put_whole row) =
      sym (put_share row p) ∙ sym (filter-same (lies_in parts p (table_at catalog n)) (in_part parts c p) (lies_is p) (put_whole row)) in (
        count row p,
        part_is p row
            ∙ (λ i. unless (none i) (set_rows (share parts catalog p db) n (put i), partial.Count (count row p)))
            ∙ (λ i. Ok ((sym (share-set_rows parts catalog p db n (put_whole row)) ∙ ap (λ (w : Database × List Cells). share parts catalog p w.0) made.1) i, partial.Count (count row p))),
      )

  pub insert_shares : (p : ℕ) → p < parts → (whole : Database × List Cells) → insert_means parts catalog None insert args db ≡ Ok whole
      → (count : ℕ) × (part_of_insert parts catalog p scope insert args (share parts catalog p db) ≡ Ok (share parts catalog p whole.0, partial.Count count))
  insert_shares p within whole done = shares_by (inserted_row catalog insert args) p within whole done
