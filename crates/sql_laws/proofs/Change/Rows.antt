-- New rows: their faults come before Duplicate, and an UPDATE keeps the primary key.
use Rattle.std.proofs.Common.{◌≡◌, ℕ, zero, suc, ◌+◌, ◌<◌, Bool, true, false, if◌then◌else◌, ◌==◌, List, [], ◌∷◌, map, length, slice_get, Option, Some, None, Result, Ok, Err, sym, refl, ap, ◌∙◌, subst, inl, inr, arith}
use Rattle.std.specs.List.{list_any, enumerate_from, zip, AllByRecursion, filter_map}
use Rattle.std.proofs.lemmas.Bool.{and_parts, or_cases, eqb-true}
use Rattle.volt_value.specs.declared.value.Value.{Value}
use Rattle.volt_value.specs.declared.value.Value.TheVariants.{Null, Int, Text}
use Rattle.volt_value.specs.declared.column.Misfit.{Misfit}
use Rattle.volt_value.specs.declared.column.Misfit.TheVariants as misfit
use Rattle.volt_value.specs.Columns.{value_fits}
use Rattle.volt_catalog.specs.declared.column.Column.{Column}
use Rattle.volt_catalog.specs.declared.table.Table.{Table}
use Rattle.volt_catalog.specs.Rules.{Contents}
use Rattle.sql_plan.specs.declared.fault.Fault.{Fault}
use Rattle.sql_plan.specs.declared.expression.Scalar.{Scalar}
use Rattle.sql_plan.specs.declared.prepared.UpdatePlan.{UpdatePlan}
use Rattle.sql_plan.specs.declared.prepared.DeletePlan.{DeletePlan}
use Rattle.sql_plan.specs.Rows.{Cells}
use Rattle.sql_meaning.specs.Judged.{with, least, fault_in, value_in, least_fault, unless, collected}
use Rattle.sql_meaning.specs.Values.{at}
use Rattle.sql_meaning.specs.Expressions.{holds}
use Rattle.sql_meaning.specs.Tables.{table_at, takes_null, if_fits, taken, in_columns, new_row}
use Rattle.sql_meaning.specs.Changes.{values_of, Fate, Stays, Becomes, Goes, updated, deleted, left_of}
use Rattle.sql_meaning.specs.WellFormed.{is_that_column, keep}
use Rattle.sql_laws.proofs.Plain.Judgements.{fault_in_unless}
use Rattle.sql_laws.proofs.Trees.Small.{small, IsSmall, with_small, if_small, scalar_small, holds_small}
use Rattle.sql_laws.proofs.Trees.Conjuncts.{column_means}
use Rattle.sql_laws.proofs.Fits.{IsPartColumn}
use Rattle.sql_laws.proofs.Change.Fates.{small_least}

-- ---- what columns take

fits_small : (x : Value) (fits : Result (Unit {0}) Misfit) → IsSmall (if_fits x fits)
fits_small x (Ok u) = refl
fits_small x (Err misfit.OutOfRange) = refl
fits_small x (Err misfit.TooLong) = refl
fits_small x (Err misfit.WrongClass) = refl

taken_small : (table : Table) (n : ℕ) (column : Column) (x : Value) → IsSmall (taken table n column x)
taken_small table n column Null = if_small (takes_null table n column) (Ok Null) (Err _) refl refl
taken_small table n column (Int z) = fits_small (Int z) (value_fits (Int z) column.kind)
taken_small table n column (Text t) = fits_small (Text t) (value_fits (Text t) column.kind)

fits_same : (x y : Value) (fits : Result (Unit {0}) Misfit) → if_fits x fits ≡ Ok y → x ≡ y
fits_same x y (Ok u) e = let f : Ok x ≡ Ok y = e in cc
fits_same x y (Err misfit.OutOfRange) e = absurd (cc)
fits_same x y (Err misfit.TooLong) e = absurd (cc)
fits_same x y (Err misfit.WrongClass) e = absurd (cc)

null_same : (b : Bool) (f : Fault) (y : Value) → (if b then Ok Null else Err f) ≡ Ok y → Null ≡ y
null_same true f y e = let g : Ok Null ≡ Ok y = e in cc
null_same false f y e = absurd (cc)

pub taken_same : (table : Table) (n : ℕ) (column : Column) (x y : Value) → taken table n column x ≡ Ok y → x ≡ y
taken_same table n column Null y e = null_same (takes_null table n column) _ y e
taken_same table n column (Int z) y e = fits_same (Int z) y (value_fits (Int z) column.kind) e
taken_same table n column (Text t) y e = fits_same (Text t) y (value_fits (Text t) column.kind) e

-- ---- rows of values

abbrev pub cell : Table → (ℕ × Column) × Result Value Fault → Result Value Fault
cell table c = with c.1 (taken table c.0.0 c.0.1)

cells_small : (table : Table) (a : ℕ) (columns : List Column) (values : List (Result Value Fault)) → AllByRecursion (λ r. small (fault_in r) ≡ true) values
    → small (least_fault (map (cell table) (zip (enumerate_from a columns) values))) ≡ true
cells_small table a [] values h = refl
cells_small table a (column ∷ columns) [] h = refl
cells_small table a (column ∷ columns) (x ∷ values) h =
    small_least (fault_in (with x (taken table a column))) (least_fault (map (cell table) (zip (enumerate_from (a + 1) columns) values)))
    (with_small x (taken table a column) h.0 (taken_small table a column)) (cells_small table (a + 1) columns values h.1)

pub values_small : (es : List Scalar) (row args : Cells) → AllByRecursion (λ r. small (fault_in r) ≡ true) (values_of es row args)
values_small [] row args = tt
values_small (e ∷ es) row args = (scalar_small e row args, values_small es row args)

pub new_row-small : (table : Table) (es : List Scalar) (row args : Cells) → IsSmall (new_row table (values_of es row args))
new_row-small table es row args =
    ap small (fault_in_unless (least_fault (map (cell table) (in_columns table (values_of es row args)))) (filter_map value_in (map (cell table) (in_columns table (values_of es row args)))))
    ∙ cells_small table 0 table.columns (values_of es row args) (values_small es row args)

pub updated-small : (catalog : Contents) (update : UpdatePlan) (row args : Cells) → IsSmall (updated catalog update row args)
updated-small catalog update row args =
    with_small (holds update.filter row args) (λ m. if m then with (new_row (table_at catalog update.table) (values_of update.values row args)) (λ new. Ok (Becomes new)) else Ok (Stays row))
    (holds_small update.filter row args)
    (λ m. if_small m (with (new_row (table_at catalog update.table) (values_of update.values row args)) (λ new. Ok (Becomes new))) (Ok (Stays row))
    (with_small (new_row (table_at catalog update.table) (values_of update.values row args)) (λ new. Ok (Becomes new)) (new_row-small (table_at catalog update.table) update.values row args) (λ new. refl)) refl)

pub deleted-small : (delete : DeletePlan) (row args : Cells) → IsSmall (deleted delete row args)
deleted-small delete row args = with_small (holds delete.filter row args) (λ m. Ok (if m then Goes else Stays row)) (holds_small delete.filter row args) (λ m. refl)

-- ---- the cells of a new row are its values

pub ok_first : {A : Type 0} → (r : Result A Fault) (rs : List (Result A Fault)) (x : A) (xs : List A) → unless (least_fault (r ∷ rs)) (filter_map value_in (r ∷ rs)) ≡ Ok (x ∷ xs) → r ≡ Ok x
ok_first {A} (Ok y) rs x xs e = by (least_fault rs) e
  where
    by : (f : Option Fault) → unless f (y ∷ filter_map value_in rs) ≡ Ok (x ∷ xs) → ◌≡◌ {A = Result A Fault} (Ok y) (Ok x)
    by None e = let g : Ok (y ∷ filter_map value_in rs) ≡ Ok (x ∷ xs) = e in cc
    by (Some f) e = absurd (cc)
ok_first {A} (Err f) rs x xs e = by (least_fault rs) e
  where
    by : (g : Option Fault) → unless (least (Some f) g) (filter_map value_in rs) ≡ Ok (x ∷ xs) → ◌≡◌ {A = Result A Fault} (Err f) (Ok x)
    by None e = absurd (cc)
    by (Some g) e = absurd (cc)

pub ok_rest : {A : Type 0} (r : Result A Fault) (rs : List (Result A Fault)) (x : A) (xs : List A) → unless (least_fault (r ∷ rs)) (filter_map value_in (r ∷ rs)) ≡ Ok (x ∷ xs) → unless (least_fault rs) (filter_map value_in rs) ≡ Ok xs
ok_rest (Ok y) rs x xs e = by (least_fault rs) e
  where
    by : (f : Option Fault) → unless f (y ∷ filter_map value_in rs) ≡ Ok (x ∷ xs) → unless f (filter_map value_in rs) ≡ Ok xs
    by None e = let g : Ok (y ∷ filter_map value_in rs) ≡ Ok (x ∷ xs) = e in cc
    by (Some f) e = absurd (cc)
ok_rest (Err f) rs x xs e = by (least_fault rs) e
  where
    by : (g : Option Fault) → unless (least (Some f) g) (filter_map value_in rs) ≡ Ok (x ∷ xs) → unless g (filter_map value_in rs) ≡ Ok xs
    by None e = absurd (cc)
    by (Some g) e = absurd (cc)

pub ok_none : {A : Type 0} (r : Result A Fault) (rs : List (Result A Fault)) → unless (least_fault (r ∷ rs)) (filter_map value_in (r ∷ rs)) ≡ Ok [] → ⊥
ok_none (Ok y) rs e = by (least_fault rs) e
  where
    by : (f : Option Fault) → unless f (y ∷ filter_map value_in rs) ≡ Ok [] → ⊥
    by None e = let g : Ok (y ∷ filter_map value_in rs) ≡ Ok [] = e in cc
    by (Some f) e = cc
ok_none (Err f) rs e = by (least_fault rs) e
  where
    by : (g : Option Fault) → unless (least (Some f) g) (filter_map value_in rs) ≡ Ok [] → ⊥
    by None e = cc
    by (Some g) e = cc

pub with_ok : {A B : Type 0} (r : Result A Fault) (go : A → Result B Fault) (y : B) → with r go ≡ Ok y → (x : A) × (r ≡ Ok x) × (go x ≡ Ok y)
with_ok (Ok x) go y e = (x, refl, e)
with_ok (Err f) go y e = absurd (cc)

cell_value : (table : Table) (a : ℕ) (columns : List Column) (values : List (Result Value Fault)) (new : Cells)
    → collected (map (cell table) (zip (enumerate_from a columns) values)) ≡ Ok new → (k : ℕ) → k < length columns → (x : Value) → slice_get values k ≡ Some (Ok x) → at new k ≡ x
cell_value table a [] values new e k below x here = absurd (omega arith)
cell_value table a (column ∷ columns) [] new e k below x here = absurd (cc)
cell_value table a (column ∷ columns) (v ∷ values) [] e k below x here = absurd (ok_none (cell table ((a, column), v)) (map (cell table) (zip (enumerate_from (a + 1) columns) values)) e)
cell_value table a (column ∷ columns) (v ∷ values) (y ∷ new) e zero below x here =
    let first = with_ok v (taken table a column) y (ok_first (cell table ((a, column), v)) (map (cell table) (zip (enumerate_from (a + 1) columns) values)) y new e) in
    let same : Some v ≡ Some (Ok x) = here in
    let was : first.0 ≡ x = let f = first.1 in cc in
    sym (taken_same table a column first.0 y first.2) ∙ was
cell_value table a (column ∷ columns) (v ∷ values) (y ∷ new) e (suc k) below x here =
    cell_value table (a + 1) columns values new (ok_rest (cell table ((a, column), v)) (map (cell table) (zip (enumerate_from (a + 1) columns) values)) y new e) k (omega arith) x here

pub new_row-value : (table : Table) (values : List (Result Value Fault)) (new : Cells) → new_row table values ≡ Ok new → (k : ℕ) → k < length table.columns → (x : Value) → slice_get values k ≡ Some (Ok x) → at new k ≡ x
new_row-value table values new e k below x here = cell_value table 0 table.columns values new e k below x here

-- ---- UPDATE keeps the columns of the primary key

kept_among : (values : List Scalar) (key : List ℕ) (n : ℕ) → keep values key ≡ true → list_any (λ k. k == n) key ≡ true → is_that_column n (slice_get values n) ≡ true
kept_among values [] n e here = absurd (cc)
kept_among values (m ∷ key) n e here =
    let two = and_parts (is_that_column m (slice_get values m)) (keep values key) e in
    elim (or_cases (m == n) (list_any (λ k. k == n) key) here) [
      | inl same ↦ subst (λ k. is_that_column k (slice_get values k) ≡ true) (eqb-true m n same) two.0
      | inr later ↦ kept_among values key n two.1 later
    ]

pub value_at_column : (es : List Scalar) (n k : ℕ) (row args : Cells) → is_that_column n (slice_get es k) ≡ true → slice_get (values_of es row args) k ≡ Some (Ok (at row n))
value_at_column [] n k row args e = absurd (cc)
value_at_column (x ∷ es) n zero row args e = ap (λ r. Some r) (column_means n x e row args)
value_at_column (x ∷ es) n (suc k) row args e = value_at_column es n k row args e

pub updated-stays : (catalog : Contents) (update : UpdatePlan) (c : ℕ) → keep update.values (table_at catalog update.table).key ≡ true → IsPartColumn (table_at catalog update.table) c
    → (args row : Cells) (f : Fate) (new : Cells) → updated catalog update row args ≡ Ok f → left_of f ≡ Some new → at new c ≡ at row c
updated-stays catalog update c kept column args row f new e l = by (holds update.filter row args) e
  where
    made : Result Cells Fault
    made = new_row (table_at catalog update.table) (values_of update.values row args)

    becomes : (r : Result Cells Fault) → new_row (table_at catalog update.table) (values_of update.values row args) ≡ r → with r (λ new. Ok (Becomes new)) ≡ Ok f → at new c ≡ at row c
    becomes (Ok y) is e =
        let is_new : y ≡ new = let g : Ok (Becomes y) ≡ Ok f = e in let h : f ≡ Becomes y = cc in let i : Some y ≡ Some new = sym (ap left_of h) ∙ l in cc in
        new_row-value (table_at catalog update.table) (values_of update.values row args) new (is ∙ ap (λ r. Ok r) is_new) c column.within (at row c)
        (value_at_column update.values c c row args (kept_among update.values (table_at catalog update.table).key c kept column.in_key))
    becomes (Err g) is e = absurd (cc)

    by : (r : Result Bool Fault) → with r (λ m. if m then with (new_row (table_at catalog update.table) (values_of update.values row args)) (λ new. Ok (Becomes new)) else Ok (Stays row)) ≡ Ok f → at new c ≡ at row c
    by (Ok true) e = becomes (new_row (table_at catalog update.table) (values_of update.values row args)) refl e
    by (Ok false) e = let g : Ok (Stays row) ≡ Ok f = e in let h : f ≡ Stays row = cc in let i : Some row ≡ Some new = sym (ap left_of h) ∙ l in let j : row ≡ new = cc in ap (λ r. at r c) (sym j)
    by (Err g) e = absurd (cc)

pub deleted-stays : (delete : DeletePlan) (args row : Cells) (f : Fate) (new : Cells) → deleted delete row args ≡ Ok f → left_of f ≡ Some new → new ≡ row
deleted-stays delete args row f new e l = by (holds delete.filter row args) e
  where
    by : (r : Result Bool Fault) → with r (λ m. Ok (if m then Goes else Stays row)) ≡ Ok f → new ≡ row
    by (Ok true) e = let g : Ok Goes ≡ Ok f = e in let h : f ≡ Goes = cc in let i : None ≡ Some new = sym (ap left_of h) ∙ l in absurd (cc)
    by (Ok false) e = let g : Ok (Stays row) ≡ Ok f = e in let h : f ≡ Stays row = cc in let i : Some row ≡ Some new = sym (ap left_of h) ∙ l in cc
    by (Err g) e = absurd (cc)
