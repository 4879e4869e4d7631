-- The fields of a catalog, and what they stand for.
use Rattle.std.proofs.Common.{◌≡◌, ℕ, Bool, true, false, not, List, [], ◌∷◌, ◌++◌, map, position, Option, None, is_some, refl, sym, subst, ap, ◌∙◌}
use Rattle.std.proofs.lemmas.List.{map-append}
use Rattle.std.specs.List.{list_any}
use Rattle.std.specs.Str.{bytes_eq}
use Rattle.volt_catalog.specs.declared.table.Table.{Table}
use Rattle.volt_catalog.specs.declared.table.IndexDef.{IndexDef}
use Rattle.volt_catalog.specs.declared.catalog.Catalog.TheInside.{Inside}
use Rattle.volt_catalog.specs.Names.{lower, same_name}
use Rattle.volt_catalog.specs.Rules.{Contents, fault_of_table, has_index, fault_of_index}
use Rattle.volt_catalog.specs.Catalog.{IsCatalog, table_of, with_table, with_index}
use Rattle.volt_catalog.specs.Held.{contents_of, IsHeld}
use Rattle.volt_catalog.proofs.NameLemmas.{named_at, list_any-map, is_some-position}
use Rattle.volt_catalog.proofs.RuleLemmas.{name_is_new, with_table_is, index_name_is_new, with_index_is}

pub number_is : (held : Inside) (catalog : Contents) (asked name : List ℕ) (found : Option ℕ) → IsHeld held → contents_of held ≡ catalog → asked ≡ name
    → found ≡ position (bytes_eq (lower asked)) held.table_names → found ≡ table_of catalog name
number_is held catalog asked name found is view same at =
    rw (← view, ← same) (at ∙ named_at (λ table. table.name) held.tables.items held.table_names asked is.table_names)

-- a name that no item has is not among their names in lower case
new_name : {A : Type 0} (name_of : A → List ℕ) (items : List A) (names : List (List ℕ)) (name : List ℕ) → names ≡ map (λ item. lower (name_of item)) items
    → list_any (λ item. same_name name (name_of item)) items ≡ false → list_any (bytes_eq (lower name)) names ≡ false
new_name name_of items names name held new = rw held (list_any-map (bytes_eq (lower name)) (λ item. lower (name_of item)) items ∙ new)

-- ---- a table that is accepted

accepted_of : (held : Inside) (catalog : Contents) (table : Table) → contents_of held ≡ catalog → fault_of_table catalog table ≡ None → fault_of_table (contents_of held) table ≡ None
accepted_of held catalog table view accepted = let P : Contents → Type 0 = λ at. fault_of_table at table ≡ None in subst P (sym view) accepted

pub table_is_new : (held : Inside) (catalog : Contents) (table : Table) (asked : List ℕ) (fresh : Bool) → IsHeld held → contents_of held ≡ catalog → fault_of_table catalog table ≡ None → asked ≡ table.name
    → fresh ≡ not (list_any (bytes_eq (lower asked)) held.table_names) → fresh ≡ true
table_is_new held catalog table asked fresh is view accepted same test =
    let free = new_name (λ table. table.name) held.tables.items held.table_names table.name is.table_names (name_is_new (contents_of held) table (accepted_of held catalog table view accepted)) in
    test ∙ rw (same, free) refl

pub held_with_table : (held after : Inside) (catalog : Contents) (table : Table) (asked : List ℕ) → IsHeld held → contents_of held ≡ catalog → table.part ≡ None → fault_of_table catalog table ≡ None → asked ≡ table.name
    → after.tables.items ≡ held.tables.items ++ table ∷ [] → after.indexes.items ≡ held.indexes.items
    → after.table_names ≡ held.table_names ++ lower asked ∷ [] → after.index_names ≡ held.index_names → IsHeld after
held_with_table held after catalog table asked is view unpartitioned accepted name tables indexes table_names index_names = record {
  rules = subst IsCatalog same (with_table_is (contents_of held) table is.rules unpartitioned (accepted_of held catalog table view accepted));
  table_names = table_names ∙ rw (tables, map-append (λ table. lower table.name) held.tables.items (table ∷ []), is.table_names, name) refl;
  index_names = index_names ∙ rw indexes is.index_names;
}
  where
    same : with_table (contents_of held) table ≡ contents_of after
    same = λ i. record { tables = sym tables i; indexes = sym indexes i }

-- ---- an index that is accepted

pub index_named : (held : Inside) (catalog : Contents) (asked name : List ℕ) (found : Option ℕ) (there : Bool) → IsHeld held → contents_of held ≡ catalog → asked ≡ name
    → found ≡ position (bytes_eq (lower asked)) held.index_names → there ≡ is_some found → there ≡ has_index catalog name
index_named held catalog asked name found there is view same at there_is =
    rw (← view, ← same) (there_is ∙ ap is_some (at ∙ named_at (λ index. index.name) held.indexes.items held.index_names asked is.index_names)
    ∙ is_some-position (λ index. same_name asked index.name) held.indexes.items)

index_accepted_of : (held : Inside) (catalog : Contents) (index : IndexDef) → contents_of held ≡ catalog → fault_of_index catalog index ≡ None → fault_of_index (contents_of held) index ≡ None
index_accepted_of held catalog index view accepted = let P : Contents → Type 0 = λ at. fault_of_index at index ≡ None in subst P (sym view) accepted

pub index_is_new : (held : Inside) (catalog : Contents) (index : IndexDef) (asked : List ℕ) (fresh : Bool) → IsHeld held → contents_of held ≡ catalog → fault_of_index catalog index ≡ None → asked ≡ index.name
    → fresh ≡ not (list_any (bytes_eq (lower asked)) held.index_names) → fresh ≡ true
index_is_new held catalog index asked fresh is view accepted same test =
    let free = new_name (λ index. index.name) held.indexes.items held.index_names index.name is.index_names (index_name_is_new (contents_of held) index (index_accepted_of held catalog index view accepted)) in
    test ∙ rw (same, free) refl

pub held_with_index : (held after : Inside) (catalog : Contents) (index : IndexDef) (asked : List ℕ) → IsHeld held → contents_of held ≡ catalog → fault_of_index catalog index ≡ None → asked ≡ index.name
    → after.tables.items ≡ held.tables.items → after.indexes.items ≡ held.indexes.items ++ index ∷ []
    → after.table_names ≡ held.table_names → after.index_names ≡ held.index_names ++ lower asked ∷ [] → IsHeld after
held_with_index held after catalog index asked is view accepted name tables indexes table_names index_names = record {
  rules = subst IsCatalog same (with_index_is (contents_of held) index is.rules (index_accepted_of held catalog index view accepted));
  table_names = table_names ∙ rw tables is.table_names;
  index_names = index_names ∙ rw (indexes, map-append (λ index. lower index.name) held.indexes.items (index ∷ []), is.index_names, name) refl;
}
  where
    same : with_index (contents_of held) index ≡ contents_of after
    same = λ i. record { tables = sym tables i; indexes = sym indexes i }
