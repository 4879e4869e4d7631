-- Each table of a catalog has a schema.
use Rattle.std.proofs.Common.{◌≡◌, ℕ, zero, suc, ◌+◌, ◌<◌, ◌≤◌, Bool, true, false, not, cond, ◌&&◌, ◌||◌, nat_lt, nat_le, ◌==◌, List, [], ◌∷◌, ◌++◌, map, length, sum_by, slice_get, Option, Some, None, inl, inr, refl, sym, ap, ap₂, ◌∙◌, subst, arith}
use Rattle.std.proofs.lemmas.Bool.{false≢true, cases_Bool}
use Rattle.std.proofs.lemmas.Bool.Decides.{nat_tests}
use Rattle.std.proofs.lemmas.List.Sums.{sum_by-cons}
use Rattle.std.specs.List.{list_all, list_any}
use Rattle.volt_value.specs.declared.column.ColType.{ColType}
use Rattle.volt_value.specs.declared.column.ColType.TheVariants.{Tiny, Small, Integer, Big, Varchar}
use Rattle.volt_catalog.specs.declared.column.Column.{Column}
use Rattle.volt_catalog.specs.declared.table.Table as catalog
use Rattle.volt_catalog.specs.declared.table.IndexDef.{IndexDef}
use Rattle.volt_catalog.specs.Rules as rules
use Rattle.volt_catalog.specs.Rules.{Contents}
use Rattle.volt_catalog.specs.Catalog.{IsCatalog, is_table, is_index, has_part_in_key}
use Rattle.volt_catalog.specs.Names.{differ}
use Rattle.row_codec.specs.declared.field.Field.{Field}
use Rattle.row_codec.specs.Cells.{cell_width}
use Rattle.row_codec.specs.Packing.{row_width, CanPack}
use Rattle.table_rows.specs.Table.{has_columns, IsSchema}
use Rattle.table_store.specs.Schemas.{field_at, fields_from, index_key, index_keys, schema_of, AreSchemas}

-- ---- parts of a rule

second : (a b c d e : Bool) → (a && b && c && d && e) ≡ true → b ≡ true
second a true c d e h = refl
second true false c d e h = absurd (false≢true h)
second false b c d e h = absurd (false≢true h)

third : (a b c d e : Bool) → (a && b && c && d && e) ≡ true → c ≡ true
third a b true d e h = refl
third true true false d e h = absurd (false≢true h)
third true false c d e h = absurd (false≢true h)
third false b c d e h = absurd (false≢true h)

fourth : (a b c d e : Bool) → (a && b && c && d && e) ≡ true → d ≡ true
fourth a b c true e h = refl
fourth true true true false e h = absurd (false≢true h)
fourth true true false d e h = absurd (false≢true h)
fourth true false c d e h = absurd (false≢true h)
fourth false b c d e h = absurd (false≢true h)

last_of : (a b c : Bool) → (a && b && c) ≡ true → c ≡ true
last_of a b true h = refl
last_of true true false h = absurd (false≢true h)
last_of true false c h = absurd (false≢true h)
last_of false b c h = absurd (false≢true h)

and_first : (a b : Bool) → (a && b) ≡ true → a ≡ true
and_first true b h = refl
and_first false b h = absurd (false≢true h)

and_second : (a b : Bool) → (a && b) ≡ true → b ≡ true
and_second true b h = h
and_second false b h = absurd (false≢true h)

-- ---- widths

cell_within : (kind : ColType) → (0 < cell_width kind) × (cell_width kind ≤ rules.width_of kind)
cell_within Tiny = (omega arith, omega arith)
cell_within Small = (omega arith, omega arith)
cell_within Integer = (omega arith, omega arith)
cell_within Big = (omega arith, omega arith)
cell_within (Varchar most) = (omega arith, omega arith)

width_within : (number : ℕ) (key : List ℕ) (columns : List Column) → row_width (fields_from number key columns) ≤ rules.row_width columns
unfolding field_at
width_within number key [] = omega arith
width_within number key (column ∷ columns) =
    let one = (cell_within column.kind).1 in
    let rest = width_within (suc number) key columns in
    let whole = sum_by-cons (λ (c : Column). rules.width_of c.kind) column columns in
    omega arith

width_some : (number : ℕ) (key : List ℕ) (columns : List Column) → 0 < length columns → 0 < row_width (fields_from number key columns)
unfolding field_at
width_some number key [] some = absurd (omega arith)
width_some number key (column ∷ columns) some = let one = (cell_within column.kind).0 in omega arith

length-fields : (number : ℕ) (key : List ℕ) (columns : List Column) → length (fields_from number key columns) ≡ length columns
length-fields number key [] = refl
length-fields number key (column ∷ columns) = omega (arith, length-fields (suc number) key columns)

within_8192 : (n : ℕ) → nat_le n 8192 ≡ true → n ≤ 8192
within_8192 n h = grind (arith, nat_tests)

below_of : (m n : ℕ) → nat_lt m n ≡ true → m < n
below_of m n h = grind (arith, nat_tests)

-- ---- columns

columns_are : (fields : List Field) (columns : List Column) (numbers : List ℕ) → length fields ≡ length columns → rules.has_columns columns numbers ≡ true → has_columns fields numbers ≡ true
columns_are fields columns [] same has = refl
columns_are fields columns (number ∷ numbers) same has =
    ap₂ (λ (a b : Bool). a && b)
    (ap (nat_lt number) same ∙ and_first (nat_lt number (length columns)) (rules.has_columns columns numbers) has)
    (columns_are fields columns numbers same (and_second (nat_lt number (length columns)) (rules.has_columns columns numbers) has))

columns-append : (fields : List Field) (a b : List ℕ) → has_columns fields a ≡ true → has_columns fields b ≡ true → has_columns fields (a ++ b) ≡ true
columns-append fields [] b has also = also
columns-append fields (n ∷ a) b has also =
    ap₂ (λ (a b : Bool). a && b) (and_first (nat_lt n (length fields)) (has_columns fields a) has)
    (columns-append fields a b (and_second (nat_lt n (length fields)) (has_columns fields a) has) also)

some_columns : (columns : List Column) (key : List ℕ) → not (length key == 0) ≡ true → rules.has_columns columns key ≡ true → 0 < length columns
some_columns columns [] some has = absurd (false≢true some)
some_columns columns (k ∷ key) some has =
    let low = below_of k (length columns) (and_first (nat_lt k (length columns)) (rules.has_columns columns key) has) in
    omega arith

-- ---- the keys of the indexes

index_columns : (tables : List catalog.Table) (index : IndexDef) (table : catalog.Table) → is_index tables index ≡ true → slice_get tables index.table ≡ Some table → rules.has_columns table.columns index.columns ≡ true
index_columns tables index table is at =
    let with_table : rules.is_table_with index.columns (slice_get tables index.table) ≡ true
    = and_first (rules.is_table_with index.columns (slice_get tables index.table)) (not (index.unique && rules.lack_part index.columns (rules.part_column_of (slice_get tables index.table)))) is in
    and_second (not (length index.columns == 0)) (rules.has_columns table.columns index.columns) (sym (ap (rules.is_table_with index.columns) at) ∙ with_table)

same_number : (m n : ℕ) → (m == n) ≡ true → m ≡ n
same_number m n h = grind (arith, nat_tests)

keys_have : (tables : List catalog.Table) (number : ℕ) (table : catalog.Table) (fields : List Field) (indexes : List IndexDef) → slice_get tables number ≡ Some table → length fields ≡ length table.columns
    → has_columns fields table.key ≡ true → list_all (is_index tables) indexes ≡ true → list_all (has_columns fields) (index_keys number table.key indexes) ≡ true
keys_have tables number table fields [] at same key are = refl
keys_have tables number table fields (index ∷ indexes) at same key are =
    let rest = keys_have tables number table fields indexes at same key (and_second (is_index tables index) (list_all (is_index tables) indexes) are) in
    elim (cases_Bool (index.table == number)) [
      | inl hit ↦
          let there : slice_get tables index.table ≡ Some table = ap (slice_get tables) (same_number index.table number hit) ∙ at in
          let columns : has_columns fields index.columns ≡ true
          = columns_are fields table.columns index.columns same (index_columns tables index table (and_first (is_index tables index) (list_all (is_index tables) indexes) are) there) in
          ap (λ b. list_all (has_columns fields) (cond b (index_key table.key index ∷ index_keys number table.key indexes) (index_keys number table.key indexes))) hit
          ∙ ap₂ (λ (a b : Bool). a && b) (of_index index.unique columns) rest
      | inr miss ↦
          ap (λ b. list_all (has_columns fields) (cond b (index_key table.key index ∷ index_keys number table.key indexes) (index_keys number table.key indexes))) miss ∙ rest
    ]
  where
    of_index : (unique : Bool) → has_columns fields index.columns ≡ true → has_columns fields (cond unique index.columns (index.columns ++ table.key)) ≡ true
    of_index true has = has
    of_index false has = columns-append fields index.columns table.key has key

-- ---- one table, and all

at_least_one : (n : ℕ) → nat_lt 0 (suc n) ≡ true
at_least_one n = grind (arith, nat_tests)

schema_is : (tables : List catalog.Table) (number : ℕ) (table : catalog.Table) (indexes : List IndexDef) → slice_get tables number ≡ Some table → is_table table ≡ true → list_all (is_index tables) indexes ≡ true
    → IsSchema (schema_of number table indexes)
schema_is tables number table indexes at is are =
    let names = differ (map (λ column. column.name) table.columns) in
    let has = rules.has_columns table.columns table.key in
    let some = not (length table.key == 0) in
    let limits = rules.within_limits table.columns in
    let key : has ≡ true = second names has some limits (has_part_in_key table) is in
    let same = length-fields 0 table.key table.columns in
    let fields-key = columns_are (fields_from 0 table.key table.columns) table.columns table.key same key in
    let width = within_8192 (rules.row_width table.columns) (last_of (nat_le (length table.columns) 32) (list_all (λ column. rules.has_length column.kind) table.columns) (nat_le (rules.row_width table.columns) 8192) (fourth names has some limits (has_part_in_key table) is)) in
    let least = width_within 0 table.key table.columns in
    record {
      can_pack = record {
        some = width_some 0 table.key table.columns (some_columns table.columns table.key (third names has some limits (has_part_in_key table) is) key);
        limit = omega arith;
      };
      columns = ap₂ (λ (a b : Bool). a && b) fields-key (keys_have tables number table (fields_from 0 table.key table.columns) indexes at same fields-key are);
      some = at_least_one (length (index_keys number table.key indexes));
    }

schemas_are : (tables left : List catalog.Table) (number : ℕ) (indexes : List IndexDef) → ((i : ℕ) (table : catalog.Table) → slice_get left i ≡ Some table → slice_get tables (number + i) ≡ Some table)
    → list_all is_table left ≡ true → list_all (is_index tables) indexes ≡ true → AreSchemas number left indexes
schemas_are tables [] number indexes there are indexes-are = tt
schemas_are tables (table ∷ left) number indexes there are indexes-are = (
  schema_is tables number table indexes (ap (slice_get tables) (let e : number ≡ number + 0 = omega arith in e) ∙ there 0 table refl) (and_first (is_table table) (list_all is_table left) are) indexes-are,
  schemas_are tables left (suc number) indexes
      (λ i other at. ap (slice_get tables) (let e : suc number + i ≡ number + suc i = omega arith in e) ∙ there (suc i) other at)
      (and_second (is_table table) (list_all is_table left) are) indexes-are,
)

pub catalog_schemas : (contents : Contents) → IsCatalog contents → AreSchemas 0 contents.tables contents.indexes
catalog_schemas contents is =
    schemas_are contents.tables contents.tables 0 contents.indexes (λ i table at. ap (slice_get contents.tables) (let e : 0 + i ≡ i = omega arith in e) ∙ at) is.tables is.indexes
