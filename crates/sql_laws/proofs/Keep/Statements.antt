-- A statement leaves a database, and in a procedure on one partition all its rows stay in the partition.
use Rattle.std.proofs.Common.{◌≡◌, ℕ, suc, ◌+◌, ◌<◌, ◌≤◌, Bool, true, false, not, if◌then◌else◌, ◌==◌, ◌&&◌, nat_lt, List, [], ◌∷◌, map, length, slice_get, Option, Some, None, option_map, is_some, Result, Ok, Err, is_ok, sym, refl, ap, ◌∙◌, subst, inl, inr, arith, ◌⊎◌}
use Rattle.std.specs.List.{list_all, zip, enumerate_from, filter_map, cons_option}
use Rattle.std.proofs.lemmas.Bool.{and_parts, and_from, or_parts, eq-eqb, both_ways, cases_eq, cases_lt, ltb-true}
use Rattle.volt_value.specs.declared.value.Value.{Value}
use Rattle.volt_value.specs.declared.column.Class.{Class}
use Rattle.volt_value.specs.Columns.{class_of}
use Rattle.std.specs.Ordering.{is_lt}
use Rattle.volt_catalog.specs.declared.column.Column.{Column}
use Rattle.volt_catalog.specs.declared.table.Table.{Table}
use Rattle.volt_catalog.specs.Names.{differ}
use Rattle.volt_catalog.specs.Rules.{Contents, has_columns, within_limits}
use Rattle.volt_catalog.specs.Catalog.{IsCatalog, is_table, has_part_in_key}
use Rattle.sql_plan.specs.declared.fault.Fault.{Fault}
use Rattle.sql_plan.specs.declared.fault.Fault.TheVariants.{Duplicate, WrongPartition}
use Rattle.sql_plan.specs.declared.expression.Scalar.{Scalar}
use Rattle.sql_plan.specs.declared.prepared.Action.{Action}
use Rattle.sql_plan.specs.declared.prepared.Action.TheVariants.{Insert, Update, Delete, Select}
use Rattle.sql_plan.specs.declared.prepared.InsertPlan.{InsertPlan}
use Rattle.sql_plan.specs.declared.prepared.UpdatePlan.{UpdatePlan}
use Rattle.sql_plan.specs.declared.prepared.DeletePlan.{DeletePlan}
use Rattle.sql_plan.specs.declared.prepared.Prepared.{Prepared}
use Rattle.sql_plan.specs.Prepared.{written_by}
use Rattle.sql_plan.specs.Rows.{Cells, row_cmp}
use Rattle.sql_meaning.specs.Judged.{with, collected}
use Rattle.sql_meaning.specs.Values.{at}
use Rattle.sql_meaning.specs.Expressions.{Reads, scalar_of, holds}
use Rattle.sql_meaning.specs.Tables.{table_at, taken, in_columns, new_row, is_row, picked, has_twins, comes_before, with_row, rise, part_of_value, is_part, lies_in}
use Rattle.sql_meaning.specs.Database.{Database, rows_of, set_rows, AreRows, IsDatabase}
use Rattle.sql_meaning.specs.Changes.{values_of, inserted_row, inserted, Fate, Stays, Becomes, updated, deleted, left_of, changed, counted}
use Rattle.sql_meaning.specs.Selects.{selected}
use Rattle.sql_meaning.specs.Statements.{is_here, insert_means, change_means, action_means, means}
use Rattle.sql_meaning.specs.WellFormed.{give_each, is_that_column, keep, IsInsert, IsUpdate, IsAction, IsPrepared}
use Rattle.sql_meaning.proofs.Classes.{give_each-length}
use Rattle.sql_laws.proofs.Plain.Orders.{map-among}
use Rattle.sql_laws.proofs.Plain.Judgements.{first_of}
use Rattle.sql_laws.proofs.Fits.{part_column, table_rules}
use Rattle.sql_laws.proofs.Change.Twins.{has_any_twins, duplicate, without_twins-is}
use Rattle.sql_laws.proofs.Change.Fates.{fate_faults, rows_left, changes, changed_is, left_in, left_values, ok_unless}
use Rattle.sql_laws.proofs.Change.Rows.{deleted-stays, cell, ok_first, ok_rest, ok_none, with_ok, taken_same, new_row-value, value_at_column}
use Rattle.sql_laws.proofs.Keep.Databases.{rows_of-set, rows_of-set_past, rows_of-set_other, database-set, all-with_row, rise-with_row, apart-with_row}

-- ---- a new row is one that the table may have

ok_again : (table : Table) (n : ℕ) (column : Column) (x y : Value) → taken table n column x ≡ Ok y → is_ok (taken table n column y) ≡ true
ok_again table n column x y e =
    let same = taken_same table n column x y e in
    let f : taken table n column y ≡ Ok y = subst (λ z. taken table n column z ≡ Ok y) same e in
    rw f

cells_are : (table : Table) (a : ℕ) (columns : List Column) (values : List (Result Value Fault)) (new : Cells) → length values ≡ length columns
    → collected (map (cell table) (zip (enumerate_from a columns) values)) ≡ Ok new
    → (length new ≡ length columns) × (list_all (λ c. is_ok (taken table c.0.0 c.0.1 c.1)) (zip (enumerate_from a columns) new) ≡ true)
cells_are table a [] [] [] same e = (refl, refl)
cells_are table a [] [] (y ∷ new) same e = absurd (cc)
cells_are table a [] (v ∷ values) new same e = absurd (omega arith)
cells_are table a (column ∷ columns) [] new same e = absurd (omega arith)
cells_are table a (column ∷ columns) (v ∷ values) [] same e = absurd (ok_none (cell table ((a, column), v)) (map (cell table) (zip (enumerate_from (a + 1) columns) values)) e)
cells_are table a (column ∷ columns) (v ∷ values) (y ∷ new) same e =
    let first = with_ok v (taken table a column) y (ok_first (cell table ((a, column), v)) (map (cell table) (zip (enumerate_from (a + 1) columns) values)) y new e) in
    let rest = cells_are table (a + 1) columns values new (omega arith) (ok_rest (cell table ((a, column), v)) (map (cell table) (zip (enumerate_from (a + 1) columns) values)) y new e) in (
      ap (λ (k : ℕ). suc k) rest.0,
      and_from (is_ok (taken table a column y)) (list_all (λ c. is_ok (taken table c.0.0 c.0.1 c.1)) (zip (enumerate_from (a + 1) columns) new)) (ok_again table a column first.0 y first.2) rest.1,
    )

pub new_row-is : (table : Table) (values : List (Result Value Fault)) (new : Cells) → length values ≡ length table.columns → new_row table values ≡ Ok new → is_row table new ≡ true
new_row-is table values new same e =
    let are = cells_are table 0 table.columns values new same e in
    and_from (length new == length table.columns) (list_all (λ c. is_ok (taken table c.0.0 c.0.1 c.1)) (in_columns table new)) (eq-eqb (length new) (length table.columns) are.0) are.1

length-map : {A B : Type 0} (f : A → B) (xs : List A) → length (map f xs) ≡ length xs
length-map f [] = refl
length-map f (x ∷ xs) = ap (λ (k : ℕ). suc k) (length-map f xs)

values_long : (columns params : List Class) (es : List Scalar) (table : Table) (row args : Cells) → give_each columns params es (map (λ column. class_of column.kind) table.columns) ≡ true → length (values_of es row args) ≡ length table.columns
values_long columns params es table row args e = length-map (λ x. scalar_of x row args) es ∙ give_each-length columns params es (map (λ column. class_of column.kind) table.columns) e ∙ length-map (λ (column : Column). class_of column.kind) table.columns

-- ---- rows that a change leaves

-- what a row becomes is a row of the table with the same key
abbrev pub KeepsKeys : Table → Reads Fate → Cells → Type 0
KeepsKeys table fate args = (row : Cells) (f : Fate) (new : Cells) → is_row table row ≡ true → fate row args ≡ Ok f → left_of f ≡ Some new → (is_row table new ≡ true) × (picked table.key new ≡ picked table.key row)

module _ (table : Table) (fate : Reads Fate) (args : Cells) (keeps : KeepsKeys table fate args) where
  abbrev left : Cells → Option Cells
  left row = left_in (fate row args)

  kept : (row new : Cells) → is_row table row ≡ true → left row ≡ Some new → (is_row table new ≡ true) × (picked table.key new ≡ picked table.key row)
  kept row new is l = by (fate row args) refl l
    where
      by : (r : Result Fate Fault) → fate row args ≡ r → left_in r ≡ Some new → (is_row table new ≡ true) × (picked table.key new ≡ picked table.key row)
      by (Ok f) same l = keeps row f new is same l
      by (Err e) same l = absurd (cc)

  pub all_left : (f g : Cells → Bool) → ((row new : Cells) → is_row table row ≡ true → f row ≡ true → left row ≡ Some new → g new ≡ true) → (rows : List Cells) → list_all (is_row table) rows ≡ true → list_all f rows ≡ true → list_all g (filter_map left rows) ≡ true
  all_left f g keep_it [] are all = refl
  all_left f g keep_it (row ∷ rows) are all =
      let is = and_parts (is_row table row) (list_all (is_row table) rows) are in
      let two = and_parts (f row) (list_all f rows) all in
      by (left row) refl (all_left f g keep_it rows is.1 two.1) is.0 two.0
    where
      by : (o : Option Cells) → left row ≡ o → list_all g (filter_map left rows) ≡ true → is_row table row ≡ true → f row ≡ true → list_all g (cons_option o (filter_map left rows)) ≡ true
      by None same rest is e = rest
      by (Some new) same rest is e = and_from (g new) (list_all g (filter_map left rows)) (keep_it row new is e same) rest

  before_same : (a b c d : Cells) → picked table.key a ≡ picked table.key b → picked table.key c ≡ picked table.key d → comes_before table b d ≡ true → comes_before table a c ≡ true
  before_same a b c d e f h = (λ i. is_lt (row_cmp (e i) (f i))) ∙ h

  rise_left : (rows : List Cells) → list_all (is_row table) rows ≡ true → rise table rows ≡ true → rise table (filter_map left rows) ≡ true
  rise_left [] are up = refl
  rise_left (row ∷ rows) are up =
      let is = and_parts (is_row table row) (list_all (is_row table) rows) are in
      let two = and_parts (list_all (comes_before table row) rows) (rise table rows) up in
      by (left row) refl (rise_left rows is.1 two.1) is.0 is.1 two.0
    where
      by : (o : Option Cells) → left row ≡ o → rise table (filter_map left rows) ≡ true → is_row table row ≡ true → list_all (is_row table) rows ≡ true → list_all (comes_before table row) rows ≡ true → rise table (cons_option o (filter_map left rows)) ≡ true
      by None same rest is are all = rest
      by (Some new) same rest is are all =
          and_from (list_all (comes_before table new) (filter_map left rows)) (rise table (filter_map left rows))
          (all_left (comes_before table row) (comes_before table new) (λ r n ir e l. before_same new row n r (kept row new is same).1 (kept r n ir l).1 e) rows are all)
          rest

-- ---- the table after a change

none_of_first : (a b : Option Fault) → first_of a b ≡ None → b ≡ None
none_of_first None b e = e
none_of_first (Some f) b e = absurd (cc)

no_duplicate : (catalog : Contents) (n : ℕ) (rows : List Cells) → duplicate catalog n rows ≡ None → has_any_twins catalog n rows ≡ false
no_duplicate catalog n rows e = by (has_any_twins catalog n rows) e
  where
    by : (b : Bool) → (if b then Some Duplicate else None) ≡ None → b ≡ false
    by true e = absurd (cc)
    by false e = refl

-- rows that agree on the key lie in one partition
pub same_lies : (parts part : ℕ) (catalog : Contents) (rules : IsCatalog catalog) (n : ℕ) (a b : Cells) → picked (table_at catalog n).key a ≡ picked (table_at catalog n).key b
    → lies_in parts part (table_at catalog n) a ≡ lies_in parts part (table_at catalog n) b
same_lies parts part catalog rules n a b e = by (table_at catalog n).part refl
  where
    by : (o : Option ℕ) → (table_at catalog n).part ≡ o → lies_in parts part (table_at catalog n) a ≡ lies_in parts part (table_at catalog n) b
    by None same = (λ i. is_part part (option_map (λ column. part_of_value parts (at a column)) (same i))) ∙ sym (λ i. is_part part (option_map (λ column. part_of_value parts (at b column)) (same i)))
    by (Some c) same =
        let at_c : at a c ≡ at b c = map-among (at a) (at b) c (table_at catalog n).key e (part_column catalog n c rules same).in_key in
        (λ i. is_part part (option_map (λ column. part_of_value parts (at a column)) (same i)))
        ∙ ap (λ x. part_of_value parts x == part) at_c
        ∙ sym (λ i. is_part part (option_map (λ column. part_of_value parts (at b column)) (same i)))

pub record Kept (parts part : ℕ) (catalog : Contents) (n : ℕ) (rows new : List Cells) : Type 0 where
  pub are : AreRows catalog n rows → AreRows catalog n new
  pub here : list_all (is_row (table_at catalog n)) rows ≡ true → list_all (lies_in parts part (table_at catalog n)) rows ≡ true → list_all (lies_in parts part (table_at catalog n)) new ≡ true

changed_kept : (parts part : ℕ) (catalog : Contents) (rules : IsCatalog catalog) (n : ℕ) (fate : Reads Fate) (args : Cells) → KeepsKeys (table_at catalog n) fate args
    → (rows : List Cells) (made : List Cells × ℕ) → changed catalog n fate args rows ≡ Ok made → Kept parts part catalog n rows made.0
changed_kept parts part catalog rules n fate args keeps rows made e =
    let done = ok_unless (first_of (fate_faults fate args rows) (duplicate catalog n (rows_left fate args rows))) (rows_left fate args rows, changes fate args rows) made (sym (changed_is fate args catalog n rows) ∙ e) in
    let same : rows_left fate args rows ≡ made.0 = ap (λ (m : List Cells × ℕ). m.0) done.1 in
    let none : has_any_twins catalog n (rows_left fate args rows) ≡ false = no_duplicate catalog n (rows_left fate args rows) (none_of_first (fate_faults fate args rows) (duplicate catalog n (rows_left fate args rows)) done.0) in
    let is_left : rows_left fate args rows ≡ filter_map (λ row. left_in (fate row args)) rows = left_values (λ row. fate row args) rows in
    record {
      are = λ are. subst (AreRows catalog n) same (record {
        fit = subst (λ (xs : List Cells). list_all (is_row (table_at catalog n)) xs ≡ true) (sym is_left)
            (all_left (table_at catalog n) fate args keeps (is_row (table_at catalog n)) (is_row (table_at catalog n)) (λ r m ir e l. (kept (table_at catalog n) fate args keeps r m ir l).0) rows are.fit are.fit);
        ordered = subst (λ (xs : List Cells). rise (table_at catalog n) xs ≡ true) (sym is_left) (rise_left (table_at catalog n) fate args keeps rows are.fit are.ordered);
        unique = none;
      });
      here = λ fit here. subst (λ (xs : List Cells). list_all (lies_in parts part (table_at catalog n)) xs ≡ true) (sym is_left ∙ same)
          (all_left (table_at catalog n) fate args keeps (lies_in parts part (table_at catalog n)) (lies_in parts part (table_at catalog n))
          (λ r m ir h l. same_lies parts part catalog rules n m r (kept (table_at catalog n) fate args keeps r m ir l).1 ∙ h) rows fit here);
    }

-- ---- UPDATE and DELETE keep keys

key_rules : (table : Table) → is_table table ≡ true → has_columns table.columns table.key ≡ true
key_rules table e =
    let last = and_parts (differ (map (λ column. column.name) table.columns) && has_columns table.columns table.key && not (length table.key == 0) && within_limits table.columns) (has_part_in_key table) e in
    let fourth = and_parts (differ (map (λ column. column.name) table.columns) && has_columns table.columns table.key && not (length table.key == 0)) (within_limits table.columns) last.0 in
    let third = and_parts (differ (map (λ column. column.name) table.columns) && has_columns table.columns table.key) (not (length table.key == 0)) fourth.0 in
    (and_parts (differ (map (λ column. column.name) table.columns)) (has_columns table.columns table.key) third.0).1

key_columns : (catalog : Contents) (rules : IsCatalog catalog) (n : ℕ) → has_columns (table_at catalog n).columns (table_at catalog n).key ≡ true
key_columns catalog rules n =
    elim (table_rules catalog.tables n rules.tables) [
      | inl known ↦ key_rules (table_at catalog n) known
      | inr none ↦ subst (λ (t : Table). has_columns t.columns t.key ≡ true) (sym none) refl
    ]

picked_kept : (columns : List Column) (values : List Scalar) (row args new : Cells) → ((k : ℕ) → k < length columns → (x : Value) → slice_get (values_of values row args) k ≡ Some (Ok x) → at new k ≡ x)
    → (key : List ℕ) → has_columns columns key ≡ true → keep values key ≡ true → picked key new ≡ picked key row
picked_kept columns values row args new each [] has kept = refl
picked_kept columns values row args new each (k ∷ key) has kept =
    let two = and_parts (nat_lt k (length columns)) (has_columns columns key) has in
    let here = and_parts (is_that_column k (slice_get values k)) (keep values key) kept in
    λ i. each k (ltb-true k (length columns) two.0) (at row k) (value_at_column values k k row args here.0) i ∷ picked_kept columns values row args new each key two.1 here.1 i

pub updated-keeps : (catalog : Contents) (rules : IsCatalog catalog) (params : List Class) (update : UpdatePlan) → IsUpdate catalog params update → (args : Cells) → KeepsKeys (table_at catalog update.table) (updated catalog update) args
updated-keeps catalog rules params update fits args row f new is e l = by (holds update.filter row args) e
  where
    becomes : (r : Result Cells Fault) → new_row (table_at catalog update.table) (values_of update.values row args) ≡ r → with r (λ new. Ok (Becomes new)) ≡ Ok f → (is_row (table_at catalog update.table) new ≡ true) × (picked (table_at catalog update.table).key new ≡ picked (table_at catalog update.table).key row)
    becomes (Ok y) made e =
        let is_new : y ≡ new = let g : Ok (Becomes y) ≡ Ok f = e in let h : f ≡ Becomes y = cc in let i : Some y ≡ Some new = sym (ap left_of h) ∙ l in cc in
        let is_it : new_row (table_at catalog update.table) (values_of update.values row args) ≡ Ok new = made ∙ ap (λ r. Ok r) is_new in (
          new_row-is (table_at catalog update.table) (values_of update.values row args) new (values_long _ params update.values (table_at catalog update.table) row args fits.values) is_it,
          picked_kept (table_at catalog update.table).columns update.values row args new (λ k below x here. new_row-value (table_at catalog update.table) (values_of update.values row args) new is_it k below x here)
              (table_at catalog update.table).key (key_columns catalog rules update.table) fits.key,
        )
    becomes (Err g) made e = absurd (cc)

    by : (r : Result Bool Fault) → with r (λ m. if m then with (new_row (table_at catalog update.table) (values_of update.values row args)) (λ new. Ok (Becomes new)) else Ok (Stays row)) ≡ Ok f
        → (is_row (table_at catalog update.table) new ≡ true) × (picked (table_at catalog update.table).key new ≡ picked (table_at catalog update.table).key row)
    by (Ok true) e = becomes (new_row (table_at catalog update.table) (values_of update.values row args)) refl e
    by (Ok false) e =
        let g : Ok (Stays row) ≡ Ok f = e in let h : f ≡ Stays row = cc in let i : Some row ≡ Some new = sym (ap left_of h) ∙ l in let j : new ≡ row = cc in
        (subst (λ (r : Cells). is_row (table_at catalog update.table) r ≡ true) (sym j) is, ap (picked (table_at catalog update.table).key) j)
    by (Err g) e = absurd (cc)

pub deleted-keeps : (catalog : Contents) (n : ℕ) (delete : DeletePlan) (args : Cells) → KeepsKeys (table_at catalog n) (deleted delete) args
deleted-keeps catalog n delete args row f new is e l =
    let j : new ≡ row = deleted-stays delete args row f new e l in
    (subst (λ (r : Cells). is_row (table_at catalog n) r ≡ true) (sym j) is, ap (picked (table_at catalog n).key) j)

-- ---- INSERT

inserted_kept : (parts part : ℕ) (catalog : Contents) (n : ℕ) (rows : List Cells) (row : Cells) (new : List Cells) → inserted catalog n rows row ≡ Ok new
    → is_row (table_at catalog n) row ≡ true → AreRows catalog n rows
    → AreRows catalog n new × (lies_in parts part (table_at catalog n) row ≡ true → list_all (lies_in parts part (table_at catalog n)) rows ≡ true → list_all (lies_in parts part (table_at catalog n)) new ≡ true)
inserted_kept parts part catalog n rows row new e is are =
    let table = table_at catalog n in
    let done = ok_unless (duplicate catalog n (with_row table row rows)) (with_row table row rows) new (sym (without_twins-is catalog n (with_row table row rows)) ∙ e) in
    let none : has_any_twins catalog n (with_row table row rows) ≡ false = no_duplicate catalog n (with_row table row rows) done.0 in
    let key_none : has_twins table.key (with_row table row rows) ≡ false = (or_parts (has_twins table.key (with_row table row rows)) _ none).0 in (
      subst (AreRows catalog n) done.1 (record {
        fit = all-with_row (is_row table) table row rows is are.fit;
        ordered = rise-with_row table row rows are.ordered (apart-with_row table.key table row rows key_none);
        unique = none;
      }),
      λ lies here. subst (λ (xs : List Cells). list_all (lies_in parts part table) xs ≡ true) done.1 (all-with_row (lies_in parts part table) table row rows lies here),
    )

-- ---- what holds of a partition's share while a procedure runs on it

-- all rows lie in the partition, and the tables that all partitions have are as at the start
pub record Own (parts part : ℕ) (catalog : Contents) (start db : Database) : Type 0 where
  pub database : IsDatabase catalog db
  pub here : (n : ℕ) → list_all (lies_in parts part (table_at catalog n)) (rows_of db n) ≡ true
  pub others : (n : ℕ) → (table_at catalog n).part ≡ None → rows_of db n ≡ rows_of start n

own_set : (parts part : ℕ) (catalog : Contents) (start db : Database) (n : ℕ) (rows : List Cells) → Own parts part catalog start db → AreRows catalog n rows
    → list_all (lies_in parts part (table_at catalog n)) rows ≡ true → is_some (table_at catalog n).part ≡ true → Own parts part catalog start (set_rows db n rows)
own_set parts part catalog start db n rows own are lies some =
    record {
      database = database-set catalog db n rows own.database are;
      here = λ m. elim (cases_eq m n) [
        | inl same ↦ subst (λ k. list_all (lies_in parts part (table_at catalog k)) (rows_of (set_rows db n rows) k) ≡ true) (sym same) (at_n (cases_lt n (length db)))
        | inr other ↦ ap (list_all (lies_in parts part (table_at catalog m))) (rows_of-set_other db n m rows other) ∙ own.here m
      ];
      others = λ m none. elim (cases_eq m n) [
        | inl same ↦ absurd (both_ways (is_some (table_at catalog n).part) (ap is_some (subst (λ k. (table_at catalog k).part ≡ None) same none)) some)
        | inr other ↦ rows_of-set_other db n m rows other ∙ own.others m none
      ];
    }
  where
    at_n : (n < length db) ⊎ (length db ≤ n) → list_all (lies_in parts part (table_at catalog n)) (rows_of (set_rows db n rows) n) ≡ true
    at_n (inl below) = ap (list_all (lies_in parts part (table_at catalog n))) (rows_of-set db n rows below) ∙ lies
    at_n (inr past) = ap (λ (d : Database). list_all (lies_in parts part (table_at catalog n)) (rows_of d n)) (rows_of-set_past db n rows past) ∙ own.here n

-- ---- statements

if_ok : {A : Type 0} (b : Bool) (x : Result A Fault) (f : Fault) (y : A) → (if b then x else Err f) ≡ Ok y → (b ≡ true) × (x ≡ Ok y)
if_ok true x f y e = (refl, e)
if_ok false x f y e = absurd (cc)

-- what an INSERT has made
pub record InsertMade (parts : ℕ) (catalog : Contents) (here : Option ℕ) (insert : InsertPlan) (args : Cells) (db : Database) (new : Database) : Type 0 where
  pub row : Cells
  pub rows : List Cells
  pub is_row : is_row (table_at catalog insert.table) row ≡ true
  pub in_it : is_here parts catalog here insert.table row ≡ true
  pub put : inserted catalog insert.table (rows_of db insert.table) row ≡ Ok rows
  pub is : new ≡ set_rows db insert.table rows

insert_made : (parts : ℕ) (catalog : Contents) (here : Option ℕ) (params : List Class) (insert : InsertPlan) → IsInsert catalog params insert → (args : Cells) (db : Database) (whole : Database × List Cells)
    → insert_means parts catalog here insert args db ≡ Ok whole → InsertMade parts catalog here insert args db whole.0
insert_made parts catalog here params insert fits args db whole e =
    let first = with_ok (inserted_row catalog insert args) (λ row. if is_here parts catalog here insert.table row then with (inserted catalog insert.table (rows_of db insert.table) row) (λ rows. Ok (made rows)) else Err WrongPartition) whole e in
    let second = if_ok (is_here parts catalog here insert.table first.0) (with (inserted catalog insert.table (rows_of db insert.table) first.0) (λ rows. Ok (made rows))) WrongPartition whole first.2 in
    let third = with_ok (inserted catalog insert.table (rows_of db insert.table) first.0) (λ rows. Ok (made rows)) whole second.1 in
    record {
      row = first.0;
      rows = third.0;
      is_row = new_row-is (table_at catalog insert.table) (values_of insert.values [] args) first.0 (values_long [] params insert.values (table_at catalog insert.table) [] args fits.values) first.1;
      in_it = second.0;
      put = third.1;
      is = one_made (made third.0) whole third.2;
    }
  where
    made : List Cells → Database × List Cells
    made rows = (set_rows db insert.table rows, counted 1)

    one_made : (a b : Database × List Cells) → ◌≡◌ {A = Result (Database × List Cells) Fault} (Ok a) (Ok b) → b.0 ≡ a.0
    one_made a b e = let f : a ≡ b = cc in ap (λ (w : Database × List Cells). w.0) (sym f)

-- what an UPDATE or a DELETE has made
change_made : (catalog : Contents) (n : ℕ) (fate : Reads Fate) (args : Cells) (db : Database) (whole : Database × List Cells) → change_means catalog n fate args db ≡ Ok whole
    → (made : List Cells × ℕ) × (changed catalog n fate args (rows_of db n) ≡ Ok made) × (whole.0 ≡ set_rows db n made.0)
change_made catalog n fate args db whole e =
    let first = with_ok (changed catalog n fate args (rows_of db n)) (λ m. Ok (made m)) whole e in
    (first.0, first.1, one_made (made first.0) whole first.2)
  where
    made : List Cells × ℕ → Database × List Cells
    made m = (set_rows db n m.0, counted m.1)

    one_made : (a b : Database × List Cells) → ◌≡◌ {A = Result (Database × List Cells) Fault} (Ok a) (Ok b) → b.0 ≡ a.0
    one_made a b e = let f : a ≡ b = cc in ap (λ (w : Database × List Cells). w.0) (sym f)

select_made : (select_rows : Result (List Cells) Fault) (db : Database) (whole : Database × List Cells) → with {B = Database × List Cells} select_rows (λ rows. Ok (db, rows)) ≡ Ok whole → whole.0 ≡ db
select_made (Ok rows) db whole e = let f : ◌≡◌ {A = Database × List Cells} (db, rows) whole = cc in ap (λ (w : Database × List Cells). w.0) (sym f)
select_made (Err f) db whole e = absurd (cc)

module _ (parts : ℕ) (catalog : Contents) (rules : IsCatalog catalog) where
  action_keeps : (here : Option ℕ) (action : Action) (params : List Class) (columns : List (List ℕ × Class)) → IsAction catalog params columns action → (args : Cells) (db : Database) (whole : Database × List Cells)
      → action_means parts catalog here action args db ≡ Ok whole → IsDatabase catalog db → IsDatabase catalog whole.0
  action_keeps here (Insert insert) params columns fits args db whole e is =
      let made = insert_made parts catalog here params insert fits.0 args db whole e in
      subst (IsDatabase catalog) (sym made.is) (database-set catalog db insert.table made.rows is
      (inserted_kept parts 0 catalog insert.table (rows_of db insert.table) made.row made.rows made.put made.is_row (is.each insert.table)).0)
  action_keeps here (Update update) params columns fits args db whole e is =
      let made = change_made catalog update.table (updated catalog update) args db whole e in
      subst (IsDatabase catalog) (sym made.2) (database-set catalog db update.table made.0.0 is
      ((changed_kept parts 0 catalog rules update.table (updated catalog update) args (updated-keeps catalog rules params update fits.0 args) (rows_of db update.table) made.0 made.1).are (is.each update.table)))
  action_keeps here (Delete delete) params columns fits args db whole e is =
      let made = change_made catalog delete.table (deleted delete) args db whole e in
      subst (IsDatabase catalog) (sym made.2) (database-set catalog db delete.table made.0.0 is
      ((changed_kept parts 0 catalog rules delete.table (deleted delete) args (deleted-keeps catalog delete.table delete args) (rows_of db delete.table) made.0 made.1).are (is.each delete.table)))
  action_keeps here (Select select) params columns fits args db whole e is = subst (IsDatabase catalog) (sym (select_made (selected select args db) db whole e)) is

  -- a statement leaves a database
  pub means-database : (here : Option ℕ) (statement : Prepared) → IsPrepared catalog statement → (args : Cells) (db : Database) (whole : Database × List Cells)
      → means parts catalog here statement args db ≡ Ok whole → IsDatabase catalog db → IsDatabase catalog whole.0
  means-database here statement prepared args db whole e is = action_keeps here statement.action statement.params statement.columns prepared.action args db whole e is

  action_own : (part : ℕ) (action : Action) (params : List Class) (columns : List (List ℕ × Class)) → IsAction catalog params columns action
      → ((n : ℕ) → written_by action ≡ Some n → is_some (table_at catalog n).part ≡ true) → (args : Cells) (start db : Database) (whole : Database × List Cells)
      → action_means parts catalog (Some part) action args db ≡ Ok whole → Own parts part catalog start db → Own parts part catalog start whole.0
  action_own part (Insert insert) params columns fits writes args start db whole e own =
      let made = insert_made parts catalog (Some part) params insert fits.0 args db whole e in
      let kept_rows = inserted_kept parts part catalog insert.table (rows_of db insert.table) made.row made.rows made.put made.is_row (own.database.each insert.table) in
      subst (Own parts part catalog start) (sym made.is) (own_set parts part catalog start db insert.table made.rows own kept_rows.0 (kept_rows.1 made.in_it (own.here insert.table)) (writes insert.table refl))
  action_own part (Update update) params columns fits writes args start db whole e own =
      let made = change_made catalog update.table (updated catalog update) args db whole e in
      let kept_rows = changed_kept parts part catalog rules update.table (updated catalog update) args (updated-keeps catalog rules params update fits.0 args) (rows_of db update.table) made.0 made.1 in
      subst (Own parts part catalog start) (sym made.2) (own_set parts part catalog start db update.table made.0.0 own (kept_rows.are (own.database.each update.table))
      (kept_rows.here (own.database.each update.table).fit (own.here update.table)) (writes update.table refl))
  action_own part (Delete delete) params columns fits writes args start db whole e own =
      let made = change_made catalog delete.table (deleted delete) args db whole e in
      let kept_rows = changed_kept parts part catalog rules delete.table (deleted delete) args (deleted-keeps catalog delete.table delete args) (rows_of db delete.table) made.0 made.1 in
      subst (Own parts part catalog start) (sym made.2) (own_set parts part catalog start db delete.table made.0.0 own (kept_rows.are (own.database.each delete.table))
      (kept_rows.here (own.database.each delete.table).fit (own.here delete.table)) (writes delete.table refl))
  action_own part (Select select) params columns fits writes args start db whole e own = subst (Own parts part catalog start) (sym (select_made (selected select args db) db whole e)) own

  -- in a procedure on one partition a statement leaves the partition's share
  pub means-own : (part : ℕ) (statement : Prepared) → IsPrepared catalog statement → ((n : ℕ) → written_by statement.action ≡ Some n → is_some (table_at catalog n).part ≡ true)
      → (args : Cells) (start db : Database) (whole : Database × List Cells)
      → means parts catalog (Some part) statement args db ≡ Ok whole → Own parts part catalog start db → Own parts part catalog start whole.0
  means-own part statement prepared writes args start db whole e own = action_own part statement.action statement.params statement.columns prepared.action writes args start db whole e own
