-- Statements that change a table: each value has the class of its column.
use Rattle.std.proofs.Common.{◌≡◌, ℕ, zero, suc, ◌+◌, ◌<◌, Bool, true, false, nat_lt, ◌==◌, List, [], ◌∷◌, ◌++◌, map, length, slice_get, slice_set, drop, Option, Some, None, refl, sym, subst, ap, ◌∙◌, arith}
use Rattle.std.specs.List.{list_all, list_any, range_with_len}
use Rattle.std.proofs.lemmas.Bool.{cond_both, and_parts, and_from, or_parts, eqb-false, eq-eqb, ltb-true}
use Rattle.std.proofs.lemmas.List.{length-map}
use Rattle.volt_value.specs.declared.value.Value.TheVariants as v
use Rattle.volt_value.specs.declared.column.Class.{Class}
use Rattle.volt_value.specs.declared.column.Class.TheVariants as class
use Rattle.volt_value.specs.Columns.{class_of}
use Rattle.volt_catalog.specs.declared.column.Column.{Column}
use Rattle.volt_catalog.specs.declared.table.Table.{Table}
use Rattle.volt_catalog.specs.Rules.{has_columns}
use Rattle.expr_parse.specs.declared.expression.Expr.{Expr}
use Rattle.sql_parse.specs.declared.statement.Assignment.{Assignment}
use Rattle.sql_parse.specs.declared.statement.Insert.{Insert}
use Rattle.sql_parse.specs.declared.statement.Update.{Update}
use Rattle.sql_plan.specs.declared.expression.Scalar.{Scalar}
use Rattle.sql_plan.specs.declared.expression.Scalar.TheVariants as s
use Rattle.sql_resolve.specs.declared.fault.CheckFault.TheVariants.{NoSuchName, ChangesKey}
use Rattle.sql_resolve.specs.declared.notes.Notes.{Notes}
use Rattle.sql_resolve.specs.Named.{Tables}
use Rattle.sql_resolve.specs.Notes.{blamed}
use Rattle.sql_resolve.specs.Expressions.{with, scalar_in, meaning_of}
use Rattle.sql_resolve.specs.Tables.{class_at}
use Rattle.sql_check.specs.declared.writes.NewRow.{NewRow}
use Rattle.sql_check.specs.Columns.{place_of, is_among, columns_to}
use Rattle.sql_check.specs.Writes.{listed_one, listed, places_of, nulls, put_at, filled_one, filled, counted, key_noted, set_at, set_one, set_all, filtered}
use Rattle.sql_meaning.specs.WellFormed.{is_class, gives, give_each, is_column_step, is_column, is_that_column, keep}
use Rattle.sql_meaning.proofs.Classes.{gives_Literal, gives_Column, fits_And}
use Rattle.sql_meaning.proofs.Trees.{fold_Column}
use Rattle.sql_check_laws.specs.Numbers.{has_bigints, has_bigints_if}
use Rattle.sql_check_laws.proofs.Columns.{classes, class_at-is, FindsColumns}
use Rattle.sql_check_laws.proofs.Expressions.{is_class-same, IsRight, Fits, Gives, scalar_in_is, cond_in_is, expression_is}
use Rattle.sql_check_laws.proofs.Fine.{Fine, Finds, blamed_not}

-- ---- lists

get-set : {A : Type 0} (xs : List A) (n k : ℕ) (x : A) → (k ≡ n → ⊥) → slice_get (slice_set xs n x) k ≡ slice_get xs k
get-set [] n k x apart = refl
get-set (y ∷ xs) zero zero x apart = absurd (apart refl)
get-set (y ∷ xs) zero (suc k) x apart = refl
get-set (y ∷ xs) (suc n) zero x apart = refl
get-set (y ∷ xs) (suc n) (suc k) x apart = get-set xs n k x (λ same. apart (ap (λ (m : ℕ). suc m) same))

get-columns : (a count n : ℕ) → n < count → slice_get (map (λ n. s.Column n) (range_with_len a count)) n ≡ Some (s.Column (a + n))
get-columns a zero n within = absurd (omega (arith, within))
get-columns a (suc count) zero within = let e : a ≡ a + 0 = omega arith in ap (λ m. Some (s.Column m)) e
get-columns a (suc count) (suc n) within =
    let e : a + 1 + n ≡ a + suc n = omega arith in
    get-columns (a + 1) count n (omega (arith, within)) ∙ ap (λ m. Some (s.Column m)) e

-- ---- the primary key stays

keep-set : (values : List Scalar) (key : List ℕ) (n : ℕ) (x : Scalar) → keep values key ≡ true → is_among key n ≡ false → keep (slice_set values n x) key ≡ true
keep-set values [] n x h apart = refl
keep-set values (k ∷ key) n x h apart =
    let parts = and_parts (is_that_column k (slice_get values k)) (keep values key) h in
    let others = or_parts (k == n) (list_any (λ other. other == n) key) apart in
    and_from (is_that_column k (slice_get (slice_set values n x) k)) (keep (slice_set values n x) key)
    (ap (is_that_column k) (get-set values n k x (eqb-false k n others.0)) ∙ parts.0)
    (keep-set values key n x parts.1 others.1)

keep-columns : (columns : List Column) (key : List ℕ) → has_columns columns key ≡ true → keep (columns_to (length columns)) key ≡ true
keep-columns columns [] h = refl
keep-columns columns (k ∷ key) h =
    let parts = and_parts (nat_lt k (length columns)) (has_columns columns key) h in
    let itself : 0 + k ≡ k = omega arith in
    and_from (is_that_column k (slice_get (columns_to (length columns)) k)) (keep (columns_to (length columns)) key)
    (ap (is_that_column k) (get-columns 0 (length columns) k (ltb-true k (length columns) parts.0))
    ∙ ap (λ m. is_column k (s.Column m)) itself ∙ fold_Column Bool (is_column_step k) k ∙ eq-eqb k k refl)
    (keep-columns columns key parts.1)

-- ---- values for columns

module _ (all params : List Class) where
  pub columns_give : (a : ℕ) (own : List Class) → ((k : ℕ) (class : Class) → slice_get own k ≡ Some class → slice_get all (a + k) ≡ Some class)
      → give_each all params (map (λ n. s.Column n) (range_with_len a (length own))) own ≡ true
  columns_give a [] h = refl
  columns_give a (class ∷ own) h =
      let first : a + 0 ≡ a = omega arith in
      and_from (gives all params (s.Column a) class) (give_each all params (map (λ n. s.Column n) (range_with_len (a + 1) (length own))) own)
      (gives_Column all params class a ∙ ap (is_class class) (ap (slice_get all) (sym first) ∙ h 0 class refl) ∙ is_class-same class)
      (columns_give (a + 1) own (λ k class e. let next : a + suc k ≡ a + 1 + k = omega arith in subst (λ m. slice_get all m ≡ Some class) next (h (suc k) class e)))

  nulls_give : (a : ℕ) (own : List Class) → give_each all params (map (λ n. s.Literal v.Null) (range_with_len a (length own))) own ≡ true
  nulls_give a [] = refl
  nulls_give a (class ∷ own) =
      and_from (gives all params (s.Literal v.Null) class) (give_each all params (map (λ n. s.Literal v.Null) (range_with_len (a + 1) (length own))) own)
      (gives_Literal all params class v.Null) (nulls_give (a + 1) own)

  give-set : (values : List Scalar) (own : List Class) (n : ℕ) (x : Scalar) → give_each all params values own ≡ true
      → ((class : Class) → slice_get own n ≡ Some class → gives all params x class ≡ true) → give_each all params (slice_set values n x) own ≡ true
  give-set [] [] n x h k = refl
  give-set [] (class ∷ own) n x h k = absurd (cc)
  give-set (y ∷ values) [] n x h k = absurd (cc)
  give-set (y ∷ values) (class ∷ own) zero x h k =
      and_from (gives all params x class) (give_each all params values own) (k class refl) (and_parts (gives all params y class) (give_each all params values own) h).1
  give-set (y ∷ values) (class ∷ own) (suc n) x h k =
      let parts = and_parts (gives all params y class) (give_each all params values own) h in
      and_from (gives all params y class) (give_each all params (slice_set values n x) own) parts.0 (give-set values own n x parts.1 k)

  abbrev Give : List Column → List Scalar → Type 0
  Give columns values = give_each all params values (classes columns) ≡ true

  module _ (names : Tables) (at : FindsColumns all names) where
    right : (e : Expr) → has_bigints e ≡ true → IsRight all params (meaning_of names e)
    right = expression_is all params names at

    value_for : (columns : List Column) (n : ℕ) (e : Expr) → has_bigints e ≡ true → (notes : Notes)
        → Finds params (λ x. (values : List Scalar) → Give columns values → Give columns (slice_set values n x)) notes (scalar_in (meaning_of names e) (class_at columns n) notes)
    value_for columns n e ok notes fine =
        let x = scalar_in_is all params (meaning_of names e) (right e ok) (class_at columns n) notes fine in
        let made = (scalar_in (meaning_of names e) (class_at columns n) notes).1 in
        (x.0, λ values h. give-set values (classes columns) n made h (λ class is. subst (λ class. Gives all params class made) (class_at-is columns n class is) x.1))

    -- ---- INSERT

    put_at_is : (columns : List Column) (e : Expr) → has_bigints e ≡ true → (values : List Scalar) (place : Option ℕ) (notes : Notes)
        → Finds params (λ new. Give columns values → Give columns new) notes (put_at names columns e values place notes)
    put_at_is columns e ok values None notes fine = ((scalar_in_is all params (meaning_of names e) (right e ok) class.Int notes fine).0, λ h. h)
    put_at_is columns e ok values (Some n) notes fine =
        let x = value_for columns n e ok notes fine in (x.0, x.1 values)

    filled_one_is : (columns : List Column) (place : Option ℕ) (e : Expr) → has_bigints e ≡ true → (values : List Scalar) (notes : Notes)
        → Finds params (λ new. Give columns values → Give columns new) notes (filled_one names columns place e values notes)
    unfolding filled_one
    filled_one_is columns place e ok values notes = put_at_is columns e ok values place notes

    filled_is : (columns : List Column) (places : List ℕ) (es : List Expr) → list_all has_bigints es ≡ true → (values : List Scalar) (notes : Notes)
        → Finds params (λ new. Give columns values → Give columns new) notes (filled names columns places es values notes)
    filled_is columns places [] ok values notes fine = (fine, λ h. h)
    filled_is columns places (e ∷ es) ok values notes fine =
        let parts = and_parts (has_bigints e) (list_all has_bigints es) ok in
        let first = filled_one names columns (slice_get places 0) e values notes in
        let later = filled_is columns (drop 1 places) es parts.1 first.1 first.0 fine in
        let now = filled_one_is columns (slice_get places 0) e parts.0 values notes later.0 in
        (now.0, λ h. later.1 (now.1 h))

    -- ---- UPDATE

    key_noted_is : (key : List ℕ) (n : ℕ) (notes : Notes) → Fine params (key_noted key n notes) → Fine params notes × (is_among key n ≡ false)
    key_noted_is key n notes = cond_both (is_among key n) _ notes (λ after. Fine params after → Fine params notes × (is_among key n ≡ false))
        (λ e fine. absurd (blamed_not params ChangesKey notes fine)) (λ e fine. (fine, e))

    -- each value has its column's class, and the primary key stays
    record Updates (table : Table) (values : List Scalar) : Type 0 where
      pub give : Give table.columns values
      pub key : keep values table.key ≡ true

    set_at_is : (table : Table) (e : Expr) → has_bigints e ≡ true → (place : Option ℕ) (row : NewRow) (notes : Notes)
        → Finds params (λ new. Updates table row.values → Updates table new.values) notes (set_at names table e place row notes)
    set_at_is table e ok None row notes fine =
        absurd (blamed_not params NoSuchName notes (scalar_in_is all params (meaning_of names e) (right e ok) class.Int _ fine).0)
    set_at_is table e ok (Some n) row notes fine =
        let x = value_for table.columns n e ok (key_noted table.key n notes) fine in
        let noted = key_noted_is table.key n notes x.0 in (
          noted.0,
          λ h. record {
            give = x.1 row.values h.give;
            key = keep-set row.values table.key n (scalar_in (meaning_of names e) (class_at table.columns n) (key_noted table.key n notes)).1 h.key noted.1;
          },
        )

    set_one_is : (table : Table) (set : Assignment) → has_bigints set.value ≡ true → (row : NewRow) (notes : Notes)
        → Finds params (λ new. Updates table row.values → Updates table new.values) notes (set_one names table set row notes)
    unfolding set_one
    set_one_is table set ok row notes = set_at_is table set.value ok (place_of table.columns row.places set.column) row notes

    set_all_is : (table : Table) (sets : List Assignment) → list_all (λ (set : Assignment). has_bigints set.value) sets ≡ true → (row : NewRow) (notes : Notes)
        → Finds params (λ new. Updates table row.values → Updates table new.values) notes (set_all names table sets row notes)
    set_all_is table [] ok row notes fine = (fine, λ h. h)
    set_all_is table (set ∷ sets) ok row notes fine =
        let parts = and_parts (has_bigints set.value) (list_all (λ (set : Assignment). has_bigints set.value) sets) ok in
        let first = set_one names table set row notes in
        let later = set_all_is table sets parts.1 first.1 first.0 fine in
        let now = set_one_is table set parts.0 row notes later.0 in
        (now.0, λ h. later.1 (now.1 h))

    -- ---- WHERE

    pub filtered_is : (filter : Option Expr) → has_bigints_if filter ≡ true → (notes : Notes) → Finds params (Fits all params) notes (filtered names filter notes)
    filtered_is None ok notes fine = (fine, fits_And all params [])
    filtered_is (Some e) ok notes fine = cond_in_is all params (meaning_of names e) (right e ok) notes fine

-- ---- whole statements

listed_is : (params : List Class) (columns : List Column) (names : List (List ℕ)) (earlier : List ℕ) (notes : Notes) → Fine params (listed columns names earlier notes).0 → Fine params notes
listed_is params columns [] earlier notes fine = fine
listed_is params columns (name ∷ names) earlier notes fine = step (λ before after. listed_is params columns names before after) (place_of columns earlier name) fine
  where
    step : ((before : List ℕ) (after : Notes) → Fine params (listed columns names before after).0 → Fine params after) → (o : Option ℕ)
        → Fine params (with (listed_one earlier o notes) (listed columns names)).0 → Fine params notes
    step later None fine = absurd (blamed_not params NoSuchName notes (later earlier (blamed NoSuchName notes) fine))
    step later (Some n) fine = later (earlier ++ n ∷ []) notes fine

places_of_is : (params : List Class) (columns : List Column) (names : Option (List (List ℕ))) (notes : Notes) → Fine params (places_of columns names notes).0 → Fine params notes
places_of_is params columns None notes fine = fine
places_of_is params columns (Some names) notes fine = listed_is params columns names [] notes fine

pub nulls-are : (all params : List Class) (columns : List Column) → Give all params columns (nulls (length columns))
nulls-are all params columns =
    subst (λ n. Give all params columns (nulls n)) (length-map columns (λ (column : Column). class_of column.kind)) (nulls_give all params 0 (classes columns))

pub inserted_gives : (params : List Class) (names : Tables) → FindsColumns [] names → (number : ℕ) (table : Table) (insert : Insert) → list_all has_bigints insert.values ≡ true → (notes : Notes)
    → let places = places_of table.columns insert.columns notes in
    let row = filled names table.columns places.1 insert.values (nulls (length table.columns)) (counted places.1 insert.values places.0) in
    Fine params row.0 → give_each [] params row.1 (classes table.columns) ≡ true
inserted_gives params names at number table insert ok notes fine =
    let places = places_of table.columns insert.columns notes in
    (filled_is [] params names at table.columns places.1 insert.values ok (nulls (length table.columns)) (counted places.1 insert.values places.0) fine).1 (nulls-are [] params table.columns)

pub updated_is : (params : List Class) (names : Tables) (table : Table) → FindsColumns (classes table.columns) names → has_columns table.columns table.key ≡ true → (update : Update)
    → list_all (λ (set : Assignment). has_bigints set.value) update.sets ≡ true → has_bigints_if update.filter ≡ true → (notes : Notes)
    → let row = set_all names table update.sets (record { places = []; values = columns_to (length table.columns) }) notes in
    let filter = filtered names update.filter row.0 in
    Fine params filter.0 → (give_each (classes table.columns) params row.1.values (classes table.columns) ≡ true) × (keep row.1.values table.key ≡ true) × Fits (classes table.columns) params filter.1
updated_is params names table at keys update ok ok' notes fine =
    let own = classes table.columns in
    let start : NewRow = record { places = []; values = columns_to (length table.columns) } in
    let row = set_all names table update.sets start notes in
    let kept = filtered_is own params names at update.filter ok' row.0 fine in
    let set = set_all_is own params names at table update.sets ok start notes kept.0 in
    let all : Give own params table.columns (columns_to (length table.columns)) =
    subst (λ n. Give own params table.columns (columns_to n)) (length-map table.columns (λ (column : Column). class_of column.kind))
    (columns_give own params 0 own (λ k class e. let same : k ≡ 0 + k = omega arith in subst (λ m. slice_get own m ≡ Some class) same e)) in
    let updates = set.1 (record { give = all; key = keep-columns table.columns table.key keys }) in
    (updates.give, updates.key, kept.1)
