-- What is accepted leaves a catalog that meets the rules.
use Rattle.std.proofs.Common.{◌≡◌, ℕ, zero, suc, ◌<◌, Bool, true, false, not, ◌==◌, ◌&&◌, nat_le, List, [], ◌∷◌, ◌++◌, length, map, Option, Some, None, arith, refl, ◌∙◌, length-append}
use Rattle.std.proofs.lemmas.Bool.Decides.{nat_tests}
use Rattle.std.proofs.lemmas.List.{map-append}
use Rattle.std.proofs.lemmas.List.Folds.{list_any-append, list_all-append}
use Rattle.std.specs.List.{list_any, list_all, slice_get}
use Rattle.volt_catalog.specs.declared.table.Table.{Table}
use Rattle.volt_catalog.specs.declared.table.IndexDef.{IndexDef}
use Rattle.volt_catalog.specs.declared.fault.CatalogFault.{CatalogFault}
use Rattle.volt_catalog.specs.declared.fault.CatalogFault.TheVariants.{DuplicateName, NoSuchName, NoPrimaryKey, KeyLacksPartitionColumn, TooMany}
use Rattle.volt_catalog.specs.Names.{lower, same_name, differ}
use Rattle.volt_catalog.specs.Rules.{Contents, first_fault, has_table, repeats_a_name, passes_a_limit, has_columns, lack_part, is_table_with, part_column_of, fault_of_table, most_indexes, has_index, fault_of_index}
use Rattle.volt_catalog.specs.Catalog.{IsCatalog, is_table, is_index, with_table, with_index}
use Rattle.volt_catalog.proofs.NameLemmas.{list_any-map}
use Rattle.volt_catalog.proofs.ColumnLemmas.{bytes_eq-turned}

-- where no fault is found, none of four rules is broken
pub record AreKept (first second third fourth : Bool) : Type 0 where
  pub first_is : first ≡ false
  pub second_is : second ≡ false
  pub third_is : third ≡ false
  pub fourth_is : fourth ≡ false

pub kept : (a b c d : Bool) (f g h k : CatalogFault) → first_fault ((a, f) ∷ (b, g) ∷ (c, h) ∷ (d, k) ∷ []) ≡ None → AreKept a b c d
kept true b c d f g h k none = absurd cc
kept false true c d f g h k none = absurd cc
kept false false true d f g h k none = absurd cc
kept false false false true f g h k none = absurd cc
kept false false false false f g h k none = record { first_is = refl; second_is = refl; third_is = refl; fourth_is = refl }

-- one more name, which is new
any_turned : (name : List ℕ) (names : List (List ℕ)) → list_any (λ other. same_name other name) names ≡ list_any (same_name name) names
any_turned name [] = refl
any_turned name (other ∷ names) = rw (any_turned name names, bytes_eq-turned (lower other) (lower name)) refl

differ-push : (names : List (List ℕ)) (name : List ℕ) → differ (names ++ name ∷ []) ≡ (differ names && not (list_any (λ other. same_name other name) names))
differ-push [] name = refl
differ-push (first ∷ names) name = grind (arith, differ-push names name, list_any-append (same_name first) names (name ∷ []))

pub still_differ : (names : List (List ℕ)) (name : List ℕ) → differ names ≡ true → list_any (same_name name) names ≡ false → differ (names ++ name ∷ []) ≡ true
still_differ names name own new = grind (arith, differ-push names name, any_turned name names)

-- ---- tables

-- a table that is there is there beside more tables
get_append : {A : Type 0} (xs ys : List A) (n : ℕ) (x : A) → slice_get xs n ≡ Some x → slice_get (xs ++ ys) n ≡ Some x
get_append [] ys n x at = absurd cc
get_append (first ∷ xs) ys zero x at = at
get_append (first ∷ xs) ys (suc n) x at = get_append xs ys n x at

still_index : (tables more : List Table) (index : IndexDef) → is_index tables index ≡ true → is_index (tables ++ more) index ≡ true
still_index tables more index ok = by_table (slice_get tables index.table) refl
  where
    by_table : (table : Option Table) → slice_get tables index.table ≡ table → is_index (tables ++ more) index ≡ true
    by_table None at = absurd (let h = rw at at ok in cc)
    by_table (Some table) at = rw (get_append tables more index.table table at) (rw at at ok)

pub still_indexes : (tables more : List Table) (indexes : List IndexDef) → list_all (is_index tables) indexes ≡ true → list_all (is_index (tables ++ more)) indexes ≡ true
still_indexes tables more [] all = refl
still_indexes tables more (index ∷ indexes) all =
    let first : is_index tables index ≡ true = grind arith in
    let others : list_all (is_index tables) indexes ≡ true = grind arith in
    rw (still_index tables more index first, still_indexes tables more indexes others) refl

-- the rules that a table meets
pub table_kept : (catalog : Contents) (table : Table) → fault_of_table catalog table ≡ None
    → AreKept (repeats_a_name catalog table) (not (has_columns table.columns table.key)) (length table.key == 0) (passes_a_limit catalog table.columns)
table_kept catalog table accepted =
    kept (repeats_a_name catalog table) (not (has_columns table.columns table.key)) (length table.key == 0) (passes_a_limit catalog table.columns) DuplicateName NoSuchName NoPrimaryKey TooMany accepted

pub name_is_new : (catalog : Contents) (table : Table) → fault_of_table catalog table ≡ None → has_table catalog table.name ≡ false
name_is_new catalog table accepted = let rules = table_kept catalog table accepted in grind (arith, rules.first_is)

accepted_table : (catalog : Contents) (table : Table) → table.part ≡ None → fault_of_table catalog table ≡ None → is_table table ≡ true
accepted_table catalog table unpartitioned accepted =
    let rules = table_kept catalog table accepted in
    rw unpartitioned (grind (arith, rules.first_is, rules.second_is, rules.third_is, rules.fourth_is))

room : (catalog : Contents) (table : Table) → fault_of_table catalog table ≡ None → length catalog.tables < 32
room catalog table accepted = let rules = table_kept catalog table accepted in grind (arith, nat_tests, rules.fourth_is)

pub with_table_is : (catalog : Contents) (table : Table) → IsCatalog catalog → table.part ≡ None → fault_of_table catalog table ≡ None → IsCatalog (with_table catalog table)
with_table_is catalog table is unpartitioned accepted =
    let new : list_any (same_name table.name) (map (λ other. other.name) catalog.tables) ≡ false =
    list_any-map (same_name table.name) (λ other. other.name) catalog.tables ∙ name_is_new catalog table accepted in
    record {
      few_tables = omega (arith, length-append catalog.tables (table ∷ []), room catalog table accepted);
      few_indexes = is.few_indexes;
      table_names = rw (map-append (λ other. other.name) catalog.tables (table ∷ [])) (still_differ (map (λ other. other.name) catalog.tables) table.name is.table_names new);
      index_names = is.index_names;
      tables = rw (list_all-append is_table catalog.tables (table ∷ []), is.tables, accepted_table catalog table unpartitioned accepted) refl;
      indexes = still_indexes catalog.tables (table ∷ []) catalog.indexes is.indexes;
    }

-- ---- indexes

-- the rules that an index meets
pub index_kept : (catalog : Contents) (index : IndexDef) → fault_of_index catalog index ≡ None
    → AreKept (has_index catalog index.name) (not (is_table_with index.columns (slice_get catalog.tables index.table))) (index.unique && lack_part index.columns (part_column_of (slice_get catalog.tables index.table)))
    (nat_le most_indexes (length catalog.indexes))
index_kept catalog index accepted =
    kept (has_index catalog index.name) (not (is_table_with index.columns (slice_get catalog.tables index.table))) (index.unique && lack_part index.columns (part_column_of (slice_get catalog.tables index.table)))
    (nat_le most_indexes (length catalog.indexes)) DuplicateName NoSuchName KeyLacksPartitionColumn TooMany accepted

pub index_name_is_new : (catalog : Contents) (index : IndexDef) → fault_of_index catalog index ≡ None → has_index catalog index.name ≡ false
index_name_is_new catalog index accepted = let rules = index_kept catalog index accepted in rules.first_is

accepted_index : (catalog : Contents) (index : IndexDef) → fault_of_index catalog index ≡ None → is_index catalog.tables index ≡ true
accepted_index catalog index accepted = let rules = index_kept catalog index accepted in grind (arith, rules.second_is, rules.third_is)

index_room : (catalog : Contents) (index : IndexDef) → fault_of_index catalog index ≡ None → length catalog.indexes < 64
index_room catalog index accepted = let rules = index_kept catalog index accepted in grind (arith, nat_tests, rules.fourth_is)

pub with_index_is : (catalog : Contents) (index : IndexDef) → IsCatalog catalog → fault_of_index catalog index ≡ None → IsCatalog (with_index catalog index)
with_index_is catalog index is accepted =
    let new : list_any (same_name index.name) (map (λ other. other.name) catalog.indexes) ≡ false =
    list_any-map (same_name index.name) (λ other. other.name) catalog.indexes ∙ index_name_is_new catalog index accepted in
    record {
      few_tables = is.few_tables;
      few_indexes = omega (arith, length-append catalog.indexes (index ∷ []), index_room catalog index accepted);
      table_names = is.table_names;
      index_names = rw (map-append (λ other. other.name) catalog.indexes (index ∷ [])) (still_differ (map (λ other. other.name) catalog.indexes) index.name is.index_names new);
      tables = is.tables;
      indexes = rw (list_all-append (is_index catalog.tables) catalog.indexes (index ∷ []), is.indexes, accepted_index catalog index accepted) refl;
    }
