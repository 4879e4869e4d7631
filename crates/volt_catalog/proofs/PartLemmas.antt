-- Partitioning a table keeps the rules.
use Rattle.std.proofs.Common.{◌≡◌, ℕ, zero, suc, Bool, true, false, ◌||◌, eqb, nat_le, List, [], ◌∷◌, length, get_or, map, Option, Some, None, is_some, arith, refl, sym, subst, ap, ◌∙◌}
use Rattle.std.proofs.Math.ListN.{set, length-set}
use Rattle.std.proofs.lemmas.Bool.Decides.{nat_tests}
use Rattle.std.proofs.lemmas.Option.{get_or_from_slice_get}
use Rattle.std.specs.List.{list_any, list_all, slice_get}
use Rattle.volt_catalog.specs.declared.table.Table.{Table}
use Rattle.volt_catalog.specs.declared.table.IndexDef.{IndexDef}
use Rattle.volt_catalog.specs.declared.catalog.Catalog.TheInside.{Inside}
use Rattle.volt_catalog.specs.declared.fault.CatalogFault.TheVariants.{DuplicateName, NoSuchName, NullablePartitionColumn, KeyLacksPartitionColumn}
use Rattle.volt_catalog.specs.Names.{lower}
use Rattle.volt_catalog.specs.Rules.{Contents, lack_part, may_be_null, is_unique_without, fault_of_part, fault_of_part_in, fault_of_partition}
use Rattle.volt_catalog.specs.Catalog.{IsCatalog, is_table, is_index, with_part, put_part}
use Rattle.volt_catalog.specs.Held.{contents_of, IsHeld}
use Rattle.volt_catalog.proofs.RuleLemmas.{AreKept, kept}

-- ---- an item of a list, and a change of it

all_get : {A : Type 0} (test : A → Bool) (xs : List A) (n : ℕ) (x : A) → list_all test xs ≡ true → slice_get xs n ≡ Some x → test x ≡ true
all_get test [] n x all at = absurd cc
all_get test (first ∷ xs) zero x all at = let same : first ≡ x = cc in rw (← same) (grind arith)
all_get test (first ∷ xs) (suc n) x all at = all_get test xs n x (grind arith) at

all_set : {A : Type 0} (test : A → Bool) (xs : List A) (n : ℕ) (y : A) → list_all test xs ≡ true → test y ≡ true → list_all test (set xs n y) ≡ true
all_set test [] n y all ok = refl
all_set test (first ∷ xs) zero y all ok = grind arith
all_set test (first ∷ xs) (suc n) y all ok =
    let head : test first ≡ true = grind arith in
    let tail : list_all test xs ≡ true = grind arith in
    rw (head, all_set test xs n y tail ok) refl

pub map_set : {A B : Type 0} (f : A → B) (xs : List A) (n : ℕ) (x y : A) → slice_get xs n ≡ Some x → f y ≡ f x → map f (set xs n y) ≡ map f xs
map_set f [] n x y at same = refl
map_set f (first ∷ xs) zero x y at same = let e : first ≡ x = cc in ap (λ z. z ∷ map f xs) (same ∙ ap f (sym e))
map_set f (first ∷ xs) (suc n) x y at same = ap (λ zs. f first ∷ zs) (map_set f xs n x y at same)

get_set : {A : Type 0} (xs : List A) (n : ℕ) (x y : A) → slice_get xs n ≡ Some x → slice_get (set xs n y) n ≡ Some y
get_set [] n x y at = absurd cc
get_set (first ∷ xs) zero x y at = refl
get_set (first ∷ xs) (suc n) x y at = get_set xs n x y at

get_set_other : {A : Type 0} (xs : List A) (n m : ℕ) (y : A) → eqb m n ≡ false → slice_get (set xs n y) m ≡ slice_get xs m
get_set_other [] n m y other = refl
get_set_other (first ∷ xs) zero zero y other = absurd cc
get_set_other (first ∷ xs) zero (suc m) y other = refl
get_set_other (first ∷ xs) (suc n) zero y other = refl
get_set_other (first ∷ xs) (suc n) (suc m) y other = get_set_other xs n m y (grind (arith, nat_tests))

-- ---- the rules

abbrev pub on : Table → ℕ → Table
on table column = record table { part = Some column }

pub part_kept : (indexes : List IndexDef) (n column : ℕ) (table : Table) → fault_of_part indexes n column table ≡ None
    → AreKept (is_some table.part) (nat_le (length table.columns) column) (may_be_null table column) (lack_part table.key (Some column) || list_any (is_unique_without n column) indexes)
part_kept indexes n column table accepted =
    kept (is_some table.part) (nat_le (length table.columns) column) (may_be_null table column) (lack_part table.key (Some column) || list_any (is_unique_without n column) indexes)
    DuplicateName NoSuchName NullablePartitionColumn KeyLacksPartitionColumn accepted

key_has : (indexes : List IndexDef) (n column : ℕ) (table : Table) → fault_of_part indexes n column table ≡ None → lack_part table.key (Some column) ≡ false
key_has indexes n column table accepted = let rules = part_kept indexes n column table accepted in grind (arith, rules.fourth_is)

indexes_have : (indexes : List IndexDef) (n column : ℕ) (table : Table) → fault_of_part indexes n column table ≡ None → list_any (is_unique_without n column) indexes ≡ false
indexes_have indexes n column table accepted = let rules = part_kept indexes n column table accepted in grind (arith, rules.fourth_is)

still_table : (table : Table) (column : ℕ) → is_table table ≡ true → lack_part table.key (Some column) ≡ false → is_table (on table column) ≡ true
still_table table column ok has = grind (arith, ok, has)

still_index : (tables : List Table) (n column : ℕ) (table : Table) (index : IndexDef) → slice_get tables n ≡ Some table → is_index tables index ≡ true → is_unique_without n column index ≡ false
    → is_index (set tables n (on table column)) index ≡ true
still_index tables n column table index at ok has = by_table (eqb index.table n) refl
  where
    by_table : (same : Bool) → eqb index.table n ≡ same → is_index (set tables n (on table column)) index ≡ true
    by_table false other = rw (get_set_other tables n index.table (on table column) other) ok
    by_table true same =
        let e : index.table ≡ n = grind (arith, nat_tests) in
        let old = rw (e, at) at ok in
        rw (e, get_set tables n table (on table column) at) (grind (arith, old, has, same))

still_indexes : (tables : List Table) (n column : ℕ) (table : Table) (indexes : List IndexDef) → slice_get tables n ≡ Some table → list_all (is_index tables) indexes ≡ true
    → list_any (is_unique_without n column) indexes ≡ false → list_all (is_index (set tables n (on table column))) indexes ≡ true
still_indexes tables n column table [] at all has = refl
still_indexes tables n column table (index ∷ indexes) at all has =
    let head : is_index tables index ≡ true = grind arith in
    let tail : list_all (is_index tables) indexes ≡ true = grind arith in
    let here : is_unique_without n column index ≡ false = grind arith in
    let there : list_any (is_unique_without n column) indexes ≡ false = grind arith in
    rw (still_index tables n column table index at head here, still_indexes tables n column table indexes at tail there) refl

with_part_is : (catalog : Contents) (n column : ℕ) (table : Table) → IsCatalog catalog → slice_get catalog.tables n ≡ Some table → fault_of_part catalog.indexes n column table ≡ None
    → IsCatalog (record catalog { tables = set catalog.tables n (on table column) })
with_part_is catalog n column table is at accepted = record {
  few_tables = rw (length-set catalog.tables n (on table column)) is.few_tables;
  few_indexes = is.few_indexes;
  table_names = rw (map_set (λ other. other.name) catalog.tables n table (on table column) at refl) is.table_names;
  index_names = is.index_names;
  tables = all_set is_table catalog.tables n (on table column) is.tables (still_table table column (all_get is_table catalog.tables n table is.tables at) (key_has catalog.indexes n column table accepted));
  indexes = still_indexes catalog.tables n column table catalog.indexes at is.indexes (indexes_have catalog.indexes n column table accepted);
}

-- ---- the fields

-- a table that may be partitioned is there
there : (indexes : List IndexDef) (tables : List Table) (n column : ℕ) (table : Table) (found : Option Table) → slice_get tables n ≡ found → fault_of_part_in indexes n column found ≡ None → table ≡ get_or tables n table
    → slice_get tables n ≡ Some table
there indexes tables n column table None at accepted is = absurd cc
there indexes tables n column table (Some other) at accepted is = at ∙ ap (λ (x : Table). Some x) (sym (get_or_from_slice_get tables n other table at) ∙ sym is)

accepted_of : (held : Inside) (catalog : Contents) (n column : ℕ) → contents_of held ≡ catalog → fault_of_partition catalog n column ≡ None → fault_of_partition (contents_of held) n column ≡ None
accepted_of held catalog n column view accepted = let P : Contents → Type 0 = λ at. fault_of_partition at n column ≡ None in subst P (sym view) accepted

pub table_is_there : (held : Inside) (catalog : Contents) (n column : ℕ) (table : Table) → contents_of held ≡ catalog → fault_of_partition catalog n column ≡ None → table ≡ get_or held.tables.items n table
    → slice_get held.tables.items n ≡ Some table
table_is_there held catalog n column table view accepted is =
    there held.indexes.items held.tables.items n column table (slice_get held.tables.items n) refl (accepted_of held catalog n column view accepted) is

pub held_with_part : (held after : Inside) (catalog : Contents) (n column : ℕ) (table : Table) → IsHeld held → contents_of held ≡ catalog → fault_of_partition catalog n column ≡ None → table ≡ get_or held.tables.items n table
    → after.tables.items ≡ set held.tables.items n (on table column) → after.indexes.items ≡ held.indexes.items
    → after.table_names ≡ held.table_names → after.index_names ≡ held.index_names → IsHeld after
held_with_part held after catalog n column table is view accepted here tables indexes table_names index_names =
    let at = table_is_there held catalog n column table view accepted here in
    let Q : Option Table → Type 0 = λ found. fault_of_part_in held.indexes.items n column found ≡ None in
    record {
      rules = subst IsCatalog same (with_part_is (contents_of held) n column table is.rules at (subst Q at (accepted_of held catalog n column view accepted)));
      table_names = table_names ∙ is.table_names ∙ sym (ap (map (λ table. lower table.name)) tables ∙ map_set (λ table. lower table.name) held.tables.items n table (on table column) at refl);
      index_names = index_names ∙ rw indexes is.index_names;
    }
  where
    same : record { tables = set held.tables.items n (on table column); indexes = held.indexes.items } ≡ contents_of after
    same = λ i. record { tables = sym tables i; indexes = sym indexes i }

pub view_with_part : (held : Inside) (catalog : Contents) (n column : ℕ) (table : Table) → contents_of held ≡ catalog → fault_of_partition catalog n column ≡ None → table ≡ get_or held.tables.items n table
    → record { tables = set held.tables.items n (on table column); indexes = held.indexes.items } ≡ with_part catalog n column
view_with_part held catalog n column table view accepted here =
    let at = table_is_there held catalog n column table view accepted here in
    let P : Contents → Type 0 = λ now. record { tables = set held.tables.items n (on table column); indexes = held.indexes.items } ≡ with_part now n column in
    subst P view (λ i. record { tables = put_part held.tables.items n column (sym at i); indexes = held.indexes.items })
