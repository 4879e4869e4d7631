-- An UPDATE or a DELETE on the whole database is its parts on the partitions.
use Rattle.std.proofs.Common.{◌≡◌, ℕ, ◌+◌, ◌<◌, Bool, true, false, cond, if◌then◌else◌, nat_lt, nat_le, ◌==◌, ◌||◌, List, [], ◌∷◌, map, filter, count_by, sum_by, Option, Some, None, option_map, Result, Ok, Err, sym, refl, ap, ◌∙◌, inl, inr, arith, add_comm, add_assoc, add-zero, zero-add}
use Rattle.std.specs.List.{list_any, AllByRecursion, filter_map, cons_option}
use Rattle.std.proofs.lemmas.Bool.{cases_Bool, eqb-true, both_ways, ltb-true, or_cases}
use Rattle.std.proofs.lemmas.Bool.Decides.{nat_tests}
use Rattle.volt_catalog.specs.Rules.{Contents}
use Rattle.volt_catalog.specs.Catalog.{IsCatalog}
use Rattle.sql_plan.specs.declared.fault.Fault.{Fault}
use Rattle.sql_plan.specs.declared.fault.Fault.TheVariants.{Duplicate}
use Rattle.sql_plan.specs.declared.partial.Partial.{Partial}
use Rattle.sql_plan.specs.declared.partial.Partial.TheVariants as partial
use Rattle.sql_plan.specs.Faults.{code_of}
use Rattle.sql_plan.specs.Rows.{Cells}
use Rattle.sql_meaning.specs.Judged.{with, lesser, least, fault_in, value_in, unless, collected}
use Rattle.sql_meaning.specs.Values.{at}
use Rattle.sql_meaning.specs.Expressions.{Reads}
use Rattle.sql_meaning.specs.Tables.{table_at, part_of_value, lies_in, is_part}
use Rattle.sql_meaning.specs.Database.{Database, rows_of, set_rows, share, IsDatabase}
use Rattle.sql_meaning.specs.Changes.{Fate, left_of, is_change, changed, counted}
use Rattle.sql_meaning.specs.Statements.{change_means}
use Rattle.sql_meaning.specs.Parts.{part_of_change, count_in, all_parts}
use Rattle.sql_laws.proofs.Plain.Folds.{range-has, range-distinct}
use Rattle.sql_laws.proofs.Plain.Faults.{least-comm, least-assoc, least-none}
use Rattle.sql_laws.proofs.Plain.Totals.{total, total-map, total-same, total_parts, total_filter, fold_is}
use Rattle.sql_laws.proofs.Plain.Judgements.{with_unless, first_of, all_least, least_fault-map, collected_unless}
use Rattle.sql_laws.proofs.Plain.Rows.{filter-same, rows_of-share, share-set_rows}
use Rattle.sql_laws.proofs.Trees.Small.{small, IsSmall}
use Rattle.sql_laws.proofs.Fits.{part_of_value-within}
use Rattle.sql_laws.proofs.Change.Twins.{home, in_part, has_any_twins, duplicate, without_twins-is, twins_of_parts}

-- ---- what becomes of rows

module _ (fate : Reads Fate) (args : Cells) where
  abbrev pub fates : List Cells → List Fate
  fates rows = filter_map value_in (map (λ row. fate row args) rows)

  abbrev pub fate_faults : List Cells → Option Fault
  fate_faults rows = all_least (λ row. fault_in (fate row args)) rows

  abbrev pub rows_left : List Cells → List Cells
  rows_left rows = filter_map left_of (fates rows)

  abbrev pub changes : List Cells → ℕ
  changes rows = count_by is_change (fates rows)

  pub changed_is : (catalog : Contents) (n : ℕ) (rows : List Cells)
      → changed catalog n fate args rows ≡ unless (first_of (fate_faults rows) (duplicate catalog n (rows_left rows))) (rows_left rows, changes rows)
  changed_is catalog n rows =
      (λ i. with (unless (least_fault-map (λ row. fate row args) rows i) (fates rows)) (λ fs. with {B = List Cells × ℕ} (without_twins-is catalog n (filter_map left_of fs) i) (λ left. Ok (left, count_by is_change fs))))
      ∙ by (fate_faults rows)
    where
      by : (f : Option Fault) → with (unless f (fates rows)) (λ fs. with {B = List Cells × ℕ} (unless (duplicate catalog n (filter_map left_of fs)) (filter_map left_of fs)) (λ left. Ok (left, count_by is_change fs)))
          ≡ unless (first_of f (duplicate catalog n (rows_left rows))) (rows_left rows, changes rows)
      by None = with_unless (duplicate catalog n (rows_left rows)) (rows_left rows) (λ left. (left, changes rows))
      by (Some f) = refl

-- ---- a fault of a row comes before Duplicate

pub small_least : (a b : Option Fault) → small a ≡ true → small b ≡ true → small (least a b) ≡ true
small_least None b e f = f
small_least (Some x) None e f = e
small_least (Some x) (Some y) e f = by (nat_le (code_of x) (code_of y))
  where
    by : (c : Bool) → small (Some (if c then x else y)) ≡ true
    by true = e
    by false = f

pub all_small : {P : Type 0} (f : P → Option Fault) → ((p : P) → small (f p) ≡ true) → (ps : List P) → small (all_least f ps) ≡ true
all_small f each [] = refl
all_small f each (p ∷ ps) = small_least (f p) (all_least f ps) (each p) (all_small f each ps)

lesser_small : (f : Fault) → nat_lt (code_of f) 7 ≡ true → lesser f Duplicate ≡ f
lesser_small f e = let b = ltb-true (code_of f) 7 e in grind (arith, nat_tests)

pub first-least : (a : Option Fault) (b : Bool) → small a ≡ true → first_of a (if b then Some Duplicate else None) ≡ least a (if b then Some Duplicate else None)
first-least None b e = refl
first-least (Some f) true e = ap (λ x. Some x) (sym (lesser_small f e))
first-least (Some f) false e = refl

pub duplicates : {P : Type 0} (f : P → Bool) (ps : List P) → all_least (λ p. if f p then Some Duplicate else None) ps ≡ (if list_any f ps then Some Duplicate else None)
duplicates f [] = refl
duplicates f (p ∷ ps) = ap (least (if f p then Some Duplicate else None)) (duplicates f ps) ∙ by (f p) (list_any f ps)
  where
    by : (a b : Bool) → least (if a then Some Duplicate else None) (if b then Some Duplicate else None) ≡ (if a || b then Some Duplicate else None)
    by true true = refl
    by true false = refl
    by false b = refl

-- two faults of each of some
pub all_least-two : {P : Type 0} (f g : P → Option Fault) (ps : List P) → all_least (λ p. least (f p) (g p)) ps ≡ least (all_least f ps) (all_least g ps)
all_least-two f g [] = refl
all_least-two f g (p ∷ ps) = ap (least (least (f p) (g p))) (all_least-two f g ps) ∙ mixed (f p) (g p) (all_least f ps) (all_least g ps)
  where
    mixed : (a b c d : Option Fault) → least (least a b) (least c d) ≡ least (least a c) (least b d)
    mixed a b c d =
        least-assoc a b (least c d) ∙ ap (least a) (sym (least-assoc b c d) ∙ ap (λ x. least x d) (least-comm b c) ∙ least-assoc c b d) ∙ sym (least-assoc a c (least b d))

-- ---- on a table that is partitioned by a column

filter_kept : {Y : Type 0} (u : Y → Bool) (o : Option Y) (ys : List Y) → ((y : Y) → o ≡ Some y → u y ≡ true) → cons_option o (filter u ys) ≡ filter u (cons_option o ys)
filter_kept u None ys same = refl
filter_kept u (Some y) ys same = rw (same y refl)

filter_left : {Y : Type 0} (u : Y → Bool) (o : Option Y) (ys : List Y) → ((y : Y) → o ≡ Some y → u y ≡ false) → filter u ys ≡ filter u (cons_option o ys)
filter_left u None ys same = refl
filter_left u (Some y) ys same = rw (same y refl)

pub filter-filter_map : {X Y : Type 0} (g : X → Option Y) (t : X → Bool) (u : Y → Bool) → ((x : X) (y : Y) → g x ≡ Some y → u y ≡ t x) → (xs : List X) → filter_map g (filter t xs) ≡ filter u (filter_map g xs)
filter-filter_map g t u same [] = refl
filter-filter_map g t u same (x ∷ xs) =
    let rest = filter-filter_map g t u same xs in
    elim (cases_Bool (t x)) [
      | inl passes ↦ rw passes (ap (cons_option (g x)) rest ∙ filter_kept u (g x) (filter_map g xs) (λ y e. same x y e ∙ passes))
      | inr fails ↦ rw fails (rest ∙ filter_left u (g x) (filter_map g xs) (λ y e. same x y e ∙ fails))
    ]

abbrev pub left_in : Result Fate Fault → Option Cells
left_in (Ok f) = left_of f
left_in (Err e) = None

abbrev pub change_in : Result Fate Fault → ℕ
change_in (Ok f) = cond (is_change f) 1 0
change_in (Err e) = 0

pub left_values : {X : Type 0} (give : X → Result Fate Fault) (xs : List X) → filter_map left_of (filter_map value_in (map give xs)) ≡ filter_map (λ x. left_in (give x)) xs
left_values give [] = refl
left_values give (x ∷ xs) = by (give x) (filter_map value_in (map give xs)) ∙ ap (cons_option (left_in (give x))) (left_values give xs)
  where
    by : (r : Result Fate Fault) (fs : List Fate) → filter_map left_of (cons_option (value_in r) fs) ≡ cons_option (left_in r) (filter_map left_of fs)
    by (Ok f) fs = refl
    by (Err e) fs = refl

abbrev sum_all : {X : Type 0} → (X → ℕ) → List X → ℕ
sum_all f xs = total ◌+◌ 0 f xs

pub sum_by-total : {X : Type 0} (f : X → ℕ) (xs : List X) → sum_by f xs ≡ sum_all f xs
sum_by-total f xs = fold_is ◌+◌ 0 add_assoc add_comm add-zero f 0 xs ∙ zero-add (sum_all f xs)

change_values : {X : Type 0} (give : X → Result Fate Fault) (xs : List X) → sum_all (λ f. cond (is_change f) 1 0) (filter_map value_in (map give xs)) ≡ sum_all (λ x. change_in (give x)) xs
change_values give [] = refl
change_values give (x ∷ xs) = by (give x) (filter_map value_in (map give xs)) ∙ ap (λ m. change_in (give x) + m) (change_values give xs)
  where
    by : (r : Result Fate Fault) (fs : List Fate) → sum_all (λ f. cond (is_change f) 1 0) (cons_option (value_in r) fs) ≡ change_in r + sum_all (λ f. cond (is_change f) 1 0) fs
    by (Ok f) fs = refl
    by (Err e) fs = sym (zero-add (sum_all (λ f. cond (is_change f) 1 0) fs))

changes-total : (fate : Reads Fate) (args : Cells) (rows : List Cells) → changes fate args rows ≡ sum_all (λ row. change_in (fate row args)) rows
changes-total fate args rows = sum_by-total (λ f. cond (is_change f) 1 0) (fates fate args rows) ∙ change_values (λ row. fate row args) rows

none_of_two : (a b : Option Fault) → least a b ≡ None → (a ≡ None) × (b ≡ None)
none_of_two None b e = (refl, e)
none_of_two (Some f) None e = absurd (cc)
none_of_two (Some f) (Some g) e = absurd (cc)

pub none_among : (f : ℕ → Option Fault) (ps : List ℕ) (p : ℕ) → all_least f ps ≡ None → list_any (λ q. p == q) ps ≡ true → f p ≡ None
none_among f [] p e here = absurd (cc)
none_among f (q ∷ ps) p e here =
    let two = none_of_two (f q) (all_least f ps) e in
    elim (or_cases (p == q) (list_any (λ q. p == q) ps) here) [
      | inl same ↦ ap f (eqb-true p q same) ∙ two.0
      | inr later ↦ none_among f ps p two.1 later
    ]

pub ok_unless : {A : Type 0} (f : Option Fault) (x y : A) → unless f x ≡ Ok y → (f ≡ None) × (x ≡ y)
ok_unless None x y e = (refl, let g : Ok x ≡ Ok y = e in cc)
ok_unless (Some f) x y e = absurd (cc)

module _ (parts : ℕ) (some : 0 < parts) (catalog : Contents) (rules : IsCatalog catalog) (n c : ℕ) (e : (table_at catalog n).part ≡ Some c)
    (fate : Reads Fate) (args : Cells) (is_small : (row : Cells) → IsSmall (fate row args))
    (stays : (row : Cells) (f : Fate) (new : Cells) → fate row args ≡ Ok f → left_of f ≡ Some new → at new c ≡ at row c)
    (db : Database) (is : IsDatabase catalog db) where
  abbrev rows : List Cells
  rows = rows_of db n

  abbrev part_rows : ℕ → List Cells
  part_rows p = filter (in_part parts c p) rows

  lies_is : (p : ℕ) (row : Cells) → lies_in parts p (table_at catalog n) row ≡ in_part parts c p row
  lies_is p row = ap (λ o. is_part p (option_map (λ column. part_of_value parts (at row column)) o)) e

  rows_share : (p : ℕ) → rows_of (share parts catalog p db) n ≡ part_rows p
  rows_share p = rows_of-share parts catalog p db n is.tables ∙ filter-same (lies_in parts p (table_at catalog n)) (in_part parts c p) (lies_is p) rows

  stays_home : (p : ℕ) (row new : Cells) → left_in (fate row args) ≡ Some new → in_part parts c p new ≡ in_part parts c p row
  stays_home p row new l = by (fate row args) refl l
    where
      by : (r : Result Fate Fault) → fate row args ≡ r → left_in r ≡ Some new → in_part parts c p new ≡ in_part parts c p row
      by (Ok f) same l = ap (λ x. part_of_value parts x == p) (stays row f new same l)
      by (Err f) same l = absurd (cc)

  left_share : (p : ℕ) → rows_left fate args (part_rows p) ≡ filter (in_part parts c p) (rows_left fate args rows)
  left_share p =
      left_values (λ row. fate row args) (part_rows p)
      ∙ filter-filter_map (λ row. left_in (fate row args)) (in_part parts c p) (in_part parts c p) (λ row new l. stays_home p row new l) rows
      ∙ ap (filter (in_part parts c p)) (sym (left_values (λ row. fate row args) rows))

  everywhere : (Q : Cells → Type 0) (xs : List Cells) → AllByRecursion (λ row. list_any (λ p. in_part parts c p row) (all_parts parts) ≡ false → Q row) xs
  everywhere Q [] = tt
  everywhere Q (x ∷ xs) = (
    (λ none. absurd (both_ways (list_any (λ p. in_part parts c p x) (all_parts parts)) none (range-has 0 parts (home parts c x) (omega arith) (let b = part_of_value-within parts (at x c) some in omega arith)))),
    everywhere Q xs,
  )

  one_part : (p q : ℕ) (row : Cells) → in_part parts c p row ≡ true → in_part parts c q row ≡ true → q ≡ p
  one_part p q row f g = sym (eqb-true (home parts c row) q g) ∙ eqb-true (home parts c row) p f

  abbrev part_faults : ℕ → Option Fault
  part_faults p = fate_faults fate args (part_rows p)

  faults_share : all_least part_faults (all_parts parts) ≡ fate_faults fate args rows
  faults_share =
      total_parts least None least-assoc least-comm least-none (λ row. fault_in (fate row args)) (in_part parts c) one_part (all_parts parts) (range-distinct 0 parts) rows
      ∙ total_filter least None least-assoc least-comm least-none (λ row. fault_in (fate row args)) (λ row. list_any (λ p. in_part parts c p row) (all_parts parts)) rows
      (everywhere (λ row. fault_in (fate row args) ≡ None) rows)

  changes_share : sum_all (λ p. changes fate args (part_rows p)) (all_parts parts) ≡ changes fate args rows
  changes_share =
      total-same ◌+◌ 0 (λ p. changes fate args (part_rows p)) (λ p. sum_all (λ row. change_in (fate row args)) (part_rows p)) (λ p. changes-total fate args (part_rows p)) (all_parts parts)
      ∙ total_parts ◌+◌ 0 add_assoc add_comm add-zero (λ row. change_in (fate row args)) (in_part parts c) one_part (all_parts parts) (range-distinct 0 parts) rows
      ∙ total_filter ◌+◌ 0 add_assoc add_comm add-zero (λ row. change_in (fate row args)) (λ row. list_any (λ p. in_part parts c p row) (all_parts parts)) rows
      (everywhere (λ row. change_in (fate row args) ≡ 0) rows)
      ∙ sym (changes-total fate args rows)

  abbrev part_duplicate : ℕ → Option Fault
  part_duplicate p = duplicate catalog n (rows_left fate args (part_rows p))

  duplicates_share : all_least part_duplicate (all_parts parts) ≡ duplicate catalog n (rows_left fate args rows)
  duplicates_share =
      duplicates (λ p. has_any_twins catalog n (rows_left fate args (part_rows p))) (all_parts parts)
      ∙ ap (λ b. if b then Some Duplicate else None)
      ((λ i. list_any (λ p. has_any_twins catalog n (left_share p i)) (all_parts parts)) ∙ sym (twins_of_parts parts some catalog rules n c e (rows_left fate args rows)))

  -- the faults of all partitions are those of the whole
  all_faults : all_least (λ p. least (part_faults p) (part_duplicate p)) (all_parts parts) ≡ least (fate_faults fate args rows) (duplicate catalog n (rows_left fate args rows))
  all_faults = all_least-two part_faults part_duplicate (all_parts parts) ∙ (λ i. least (faults_share i) (duplicates_share i))

  fate_small : (xs : List Cells) → small (fate_faults fate args xs) ≡ true
  fate_small xs = all_small (λ row. fault_in (fate row args)) is_small xs

  changed_least : (xs : List Cells) → changed catalog n fate args xs ≡ unless (least (fate_faults fate args xs) (duplicate catalog n (rows_left fate args xs))) (rows_left fate args xs, changes fate args xs)
  changed_least xs =
      changed_is fate args catalog n xs
      ∙ ap (λ f. unless f (rows_left fate args xs, changes fate args xs)) (first-least (fate_faults fate args xs) (has_any_twins catalog n (rows_left fate args xs)) (fate_small xs))

  whole_is : change_means catalog n fate args db ≡ unless (least (fate_faults fate args rows) (duplicate catalog n (rows_left fate args rows))) (set_rows db n (rows_left fate args rows), counted (changes fate args rows))
  whole_is =
      ap (λ r. with r (λ made. Ok (set_rows db n made.0, counted made.1))) (changed_least rows)
      ∙ with_unless (least (fate_faults fate args rows) (duplicate catalog n (rows_left fate args rows))) (rows_left fate args rows, changes fate args rows) (λ made. (set_rows db n made.0, counted made.1))

  part_is : (p : ℕ) → part_of_change catalog n fate args (share parts catalog p db)
      ≡ unless (least (part_faults p) (part_duplicate p)) (set_rows (share parts catalog p db) n (rows_left fate args (part_rows p)), partial.Count (changes fate args (part_rows p)))
  part_is p =
      ap (λ xs. with (changed catalog n fate args xs) (λ made. Ok (set_rows (share parts catalog p db) n made.0, partial.Count made.1))) (rows_share p)
      ∙ ap (λ r. with r (λ made. Ok (set_rows (share parts catalog p db) n made.0, partial.Count made.1))) (changed_least (part_rows p))
      ∙ with_unless (least (part_faults p) (part_duplicate p)) (rows_left fate args (part_rows p), changes fate args (part_rows p)) (λ made. (set_rows (share parts catalog p db) n made.0, partial.Count made.1))

  answer_is : (p : ℕ) → with (part_of_change catalog n fate args (share parts catalog p db)) (λ r. Ok r.1) ≡ unless (least (part_faults p) (part_duplicate p)) (partial.Count (changes fate args (part_rows p)))
  answer_is p =
      ap (λ r. with r (λ (made : Database × Partial). Ok made.1)) (part_is p)
      ∙ with_unless (least (part_faults p) (part_duplicate p)) (set_rows (share parts catalog p db) n (rows_left fate args (part_rows p)), partial.Count (changes fate args (part_rows p))) (λ made. made.1)

  counts : (ps : List ℕ) → sum_by count_in (map (λ p. partial.Count (changes fate args (part_rows p))) ps) ≡ sum_all (λ p. changes fate args (part_rows p)) ps
  counts ps = sum_by-total count_in (map (λ p. partial.Count (changes fate args (part_rows p))) ps) ∙ total-map ◌+◌ 0 count_in (λ p. partial.Count (changes fate args (part_rows p))) ps

  pub change_answers : with (change_means catalog n fate args db) (λ r. Ok r.1)
      ≡ with (collected (map (λ p. with (part_of_change catalog n fate args (share parts catalog p db)) (λ r. Ok r.1)) (all_parts parts))) (λ ps. Ok (counted (sum_by count_in ps)))
  change_answers =
      ap (λ r. with r (λ (made : Database × List Cells). Ok made.1)) whole_is
      ∙ with_unless (least (fate_faults fate args rows) (duplicate catalog n (rows_left fate args rows))) (set_rows db n (rows_left fate args rows), counted (changes fate args rows)) (λ made. made.1)
      ∙ (λ i. unless (sym all_faults i) (counted (sym (counts (all_parts parts) ∙ changes_share) i)))
      ∙ sym (with_unless (all_least (λ p. least (part_faults p) (part_duplicate p)) (all_parts parts)) (map (λ p. partial.Count (changes fate args (part_rows p))) (all_parts parts)) (λ ps. counted (sum_by count_in ps)))
      ∙ ap (λ r. with r (λ ps. Ok (counted (sum_by count_in ps)))) (sym ((λ i. collected (map (λ p. answer_is p i) (all_parts parts)))
      ∙ collected_unless (λ p. least (part_faults p) (part_duplicate p)) (λ p. partial.Count (changes fate args (part_rows p))) (all_parts parts)))

  pub change_shares : (p : ℕ) → p < parts → (whole : Database × List Cells) → change_means catalog n fate args db ≡ Ok whole
      → part_of_change catalog n fate args (share parts catalog p db) ≡ Ok (share parts catalog p whole.0, partial.Count (changes fate args (part_rows p)))
  change_shares p within whole done =
      let made = ok_unless (least (fate_faults fate args rows) (duplicate catalog n (rows_left fate args rows))) (set_rows db n (rows_left fate args rows), counted (changes fate args rows)) whole (sym whole_is ∙ done) in
      let none : least (part_faults p) (part_duplicate p) ≡ None =
      none_among (λ p. least (part_faults p) (part_duplicate p)) (all_parts parts) p (all_faults ∙ made.0) (range-has 0 parts p (omega arith) (omega arith)) in
      let left : rows_left fate args (part_rows p) ≡ filter (lies_in parts p (table_at catalog n)) (rows_left fate args rows) =
      left_share p ∙ sym (filter-same (lies_in parts p (table_at catalog n)) (in_part parts c p) (lies_is p) (rows_left fate args rows)) in
      part_is p
      ∙ (λ i. unless (none i) (set_rows (share parts catalog p db) n (left i), partial.Count (changes fate args (part_rows p))))
      ∙ (λ i. Ok ((sym (share-set_rows parts catalog p db n (rows_left fate args rows)) ∙ ap (λ (w : Database × List Cells). share parts catalog p w.0) made.1) i, partial.Count (changes fate args (part_rows p))))
