-- What holds of the partitioning column of a table, and of the rows that the table has.
use Rattle.std.proofs.Common.{◌≡◌, ℕ, zero, suc, ◌+◌, ◌*◌, ◌%◌, ◌<◌, true, false, not, ◌==◌, ◌&&◌, nat_lt, List, [], ◌∷◌, map, length, slice_get, Some, None, unwrap_or, is_ok, sym, refl, ap, ◌∙◌, subst, inl, inr, arith, mod-lt, div-lt_iff_lt-mul, mul-lt-mul_of_pos_right, mul_comm, lit<, ◌⊎◌, add-zero}
use Rattle.std.specs.List.{list_any, list_all, enumerate_from, zip, AllByRecursion}
use Rattle.std.proofs.lemmas.Bool.{and_parts, or_cases, eqb-true, ltb-true, not-true, not-false, both_ways, and_right}
use Rattle.volt_value.specs.declared.value.Value.{Value}
use Rattle.volt_value.specs.declared.value.Value.TheVariants.{Null}
use Rattle.volt_value.specs.Spelling.{value_bytes}
use Rattle.volt_catalog.specs.declared.column.Column.{Column}
use Rattle.volt_catalog.specs.declared.table.Table.{Table}
use Rattle.volt_catalog.specs.Names.{differ}
use Rattle.volt_catalog.specs.Rules.{Contents, has_columns, lack_part, within_limits}
use Rattle.volt_catalog.specs.Catalog.{IsCatalog, is_table, has_part_in_key}
use Rattle.partition_ring.specs.Buckets.{hash_of}
use Rattle.sql_plan.specs.Rows.{Cells}
use Rattle.sql_meaning.specs.Values.{at}
use Rattle.sql_meaning.specs.Tables.{no_table, table_at, takes_null, taken, in_columns, is_row, part_of_value}

-- ---- partitions

pub part_of_value-within : (parts : ℕ) (x : Value) → 0 < parts → part_of_value parts x < parts
part_of_value-within parts x some =
    let b : ℕ = hash_of (value_bytes x) % 1024 in
    let below : b < 1024 = mod-lt (hash_of (value_bytes x)) (lit< tt) in
    let more : b * parts < parts * 1024 = rw (mul_comm parts 1024) (mul-lt-mul_of_pos_right below some) in
    (div-lt_iff_lt-mul (lit< tt)).1 more

-- ---- tables of a catalog

pub table_rules : (tables : List Table) (n : ℕ) → list_all is_table tables ≡ true → (is_table (unwrap_or (slice_get tables n) no_table) ≡ true) ⊎ (unwrap_or (slice_get tables n) no_table ≡ no_table)
table_rules [] n e = inr refl
table_rules (t ∷ tables) zero e = inl (and_parts (is_table t) (list_all is_table tables) e).0
table_rules (t ∷ tables) (suc n) e = table_rules tables n (and_parts (is_table t) (list_all is_table tables) e).1

-- a number that is among those of a key is one of a column
among-columns : (columns : List Column) (key : List ℕ) (n : ℕ) → has_columns columns key ≡ true → list_any (λ k. k == n) key ≡ true → n < length columns
among-columns columns [] n e here = absurd (cc)
among-columns columns (k ∷ key) n e here =
    let parts = and_parts (nat_lt k (length columns)) (has_columns columns key) e in
    elim (or_cases (k == n) (list_any (λ m. m == n) key) here) [
      | inl same ↦ subst (λ m. m < length columns) (eqb-true k n same) (ltb-true k (length columns) parts.0)
      | inr later ↦ among-columns columns key n parts.1 later
    ]

-- the partitioning column is in the key, and is one of the columns
pub record IsPartColumn (table : Table) (column : ℕ) : Type 0 where
  pub in_key : list_any (λ k. k == column) table.key ≡ true
  pub within : column < length table.columns

part_of_table : (table : Table) (column : ℕ) → is_table table ≡ true → table.part ≡ Some column → IsPartColumn table column
part_of_table table column e p =
    let last = and_parts (differ (map (λ column. column.name) table.columns) && has_columns table.columns table.key && not (length table.key == 0) && within_limits table.columns) (has_part_in_key table) e in
    let fourth = and_parts (differ (map (λ column. column.name) table.columns) && has_columns table.columns table.key && not (length table.key == 0)) (within_limits table.columns) last.0 in
    let third = and_parts (differ (map (λ column. column.name) table.columns) && has_columns table.columns table.key) (not (length table.key == 0)) fourth.0 in
    let second = and_parts (differ (map (λ column. column.name) table.columns)) (has_columns table.columns table.key) third.0 in
    let lacks : lack_part table.key (Some column) ≡ false = ap (lack_part table.key) (sym p) ∙ not-true (lack_part table.key table.part) last.1 in
    let here : list_any (λ k. k == column) table.key ≡ true = not-false (list_any (λ k. k == column) table.key) lacks in
    record { in_key = here; within = among-columns table.columns table.key column second.1 here }

pub part_column : (catalog : Contents) (n column : ℕ) → IsCatalog catalog → (table_at catalog n).part ≡ Some column → IsPartColumn (table_at catalog n) column
part_column catalog n column rules e =
    elim (table_rules catalog.tables n rules.tables) [
      | inl known ↦ part_of_table (table_at catalog n) column known e
      | inr none ↦ absurd (let f : None ≡ Some column = sym (ap (λ (t : Table). t.part) none) ∙ e in cc)
    ]

-- ---- rows that a table has

row_at : (table : Table) (a : ℕ) (columns : List Column) (row : Cells) (n : ℕ) → list_all (λ c. is_ok (taken table c.0.0 c.0.1 c.1)) (zip (enumerate_from a columns) row) ≡ true
    → length row ≡ length columns → n < length columns → (column : Column) × (is_ok (taken table (a + n) column (at row n)) ≡ true)
row_at table a [] row n e same within = absurd (omega arith)
row_at table a (column ∷ columns) [] n e same within = absurd (omega arith)
row_at table a (column ∷ columns) (x ∷ row) zero e same within = (
  column,
  let first = (and_parts (is_ok (taken table a column x)) (list_all (λ c. is_ok (taken table c.0.0 c.0.1 c.1)) (zip (enumerate_from (a + 1) columns) row)) e).0 in
      subst (λ k. is_ok (taken table k column x) ≡ true) (sym (add-zero a)) first,
)
row_at table a (column ∷ columns) (x ∷ row) (suc n) e same within =
    let rest = (and_parts (is_ok (taken table a column x)) (list_all (λ c. is_ok (taken table c.0.0 c.0.1 c.1)) (zip (enumerate_from (a + 1) columns) row)) e).1 in
    let found = row_at table (a + 1) columns row n rest (omega arith) (omega arith) in
    let moved : a + 1 + n ≡ a + suc n = omega arith in
    (found.0, subst (λ k. is_ok (taken table k found.0 (at row n)) ≡ true) moved found.1)

-- a row has a value for each column, and none of the primary key is NULL
pub is_row-length : (table : Table) (row : Cells) → is_row table row ≡ true → length row ≡ length table.columns
is_row-length table row e = eqb-true (length row) (length table.columns) (and_parts (length row == length table.columns) (list_all (λ c. is_ok (taken table c.0.0 c.0.1 c.1)) (in_columns table row)) e).0

not_null : (table : Table) (n : ℕ) (column : Column) (x : Value) → list_any (λ k. k == n) table.key ≡ true → is_ok (taken table n column x) ≡ true → x ≡ Null → ⊥
not_null table n column x key e null =
    let at_null : is_ok (taken table n column Null) ≡ true = subst (λ y. is_ok (taken table n column y) ≡ true) null e in
    let refused : takes_null table n column ≡ false = and_right (not column.not_null) (not (list_any (λ k. k == n) table.key)) (ap not key) in
    let f : is_ok (taken table n column Null) ≡ false = rw refused in
    both_ways (is_ok (taken table n column Null)) f at_null

pub is_row-key : (table : Table) (row : Cells) (n : ℕ) → is_row table row ≡ true → IsPartColumn table n → at row n ≡ Null → ⊥
is_row-key table row n e column null =
    let parts = and_parts (length row == length table.columns) (list_all (λ c. is_ok (taken table c.0.0 c.0.1 c.1)) (in_columns table row)) e in
    let found = row_at table 0 table.columns row n parts.1 (eqb-true (length row) (length table.columns) parts.0) column.within in
    not_null table n found.0 (at row n) column.in_key (subst (λ k. is_ok (taken table k found.0 (at row n)) ≡ true) (zero_plus n) found.1) null
  where
    zero_plus : (m : ℕ) → 0 + m ≡ m
    zero_plus m = omega arith

pub each-row : (table : Table) (rows : List Cells) → list_all (is_row table) rows ≡ true → AllByRecursion (λ row. is_row table row ≡ true) rows
each-row table [] e = tt
each-row table (row ∷ rows) e = let parts = and_parts (is_row table row) (list_all (is_row table) rows) e in (parts.0, each-row table rows parts.1)
