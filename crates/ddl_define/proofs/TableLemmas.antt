-- A table that is defined, and the same table as the catalog is asked for it.
use Rattle.std.proofs.Common.{◌≡◌, ◌≤◌, ◌⊎◌, ℕ, Bool, true, false, ◌&&◌, nat_lt, cond, ◌==◌, List, [], ◌∷◌, length, map, Option, Some, None, inl, inr, arith, refl, sym, ap, ◌∙◌}
use Rattle.std.proofs.lemmas.Bool.Decides.{nat_tests}
use Rattle.std.proofs.lemmas.List.{length-map}
use Rattle.std.specs.List.{list_all, filter_map, cons_option}
use Rattle.volt_catalog.specs.declared.column.Column.{Column}
use Rattle.volt_catalog.specs.declared.table.Table.{Table}
use Rattle.volt_catalog.specs.declared.fault.CatalogFault.{CatalogFault}
use Rattle.volt_catalog.specs.declared.fault.CatalogFault.TheVariants.{DuplicateName, NoSuchName, NoPrimaryKey, TooMany, NoMemory}
use Rattle.volt_catalog.specs.Rules as rules
use Rattle.volt_catalog.specs.Rules.{Contents, first_fault, has_columns, repeats_a_name, passes_a_limit}
use Rattle.volt_catalog.proofs.RuleLemmas.{table_kept}
use Rattle.ddl_parse.specs.declared.ddl.CreateTable.{CreateTable}
use Rattle.ddl_parse.specs.declared.ddl.TableItem.{TableItem}
use Rattle.ddl_define.specs.Columns.{columns_of, number_in, numbers_in}
use Rattle.ddl_define.specs.Tables.{key_in, keys_of, only_key, table_from, fault_of_table}
use Rattle.ddl_define.specs.Found.{byte_of, names_in_key, are_known, have_known_keys, table_with, asked, fault_of_unknown}
use Rattle.ddl_define.proofs.NumberLemmas.{byte_of_few}

-- ---- keys

are_known_is : (columns : List Column) (names : List (List ℕ)) → are_known columns names ≡ has_columns columns (numbers_in columns names)
are_known_is columns [] = refl
are_known_is columns (name ∷ names) = ap (λ rest. nat_lt (number_in columns name) (length columns) && rest) (are_known_is columns names)

known_in : (columns : List Column) (key : Option (List (List ℕ))) (rest : List (List (List ℕ)))
    → (has_columns columns (numbers_in columns (names_in_key key)) && list_all (has_columns columns) (map (numbers_in columns) rest))
    ≡ list_all (has_columns columns) (map (numbers_in columns) (cons_option key rest))
known_in columns None rest = refl
known_in columns (Some names) rest = refl

-- names of keys are known item by item
pub known_by_item : (columns : List Column) (items : List TableItem) → have_known_keys columns items ≡ list_all (has_columns columns) (keys_of columns items)
known_by_item columns [] = refl
known_by_item columns (it ∷ items) =
    (λ i. are_known_is columns (names_in_key (key_in it)) i && known_by_item columns items i) ∙ known_in columns (key_in it) (filter_map key_in items)

pub only_key_map : (keys : List (List ℕ)) → only_key (map (map byte_of) keys) ≡ map byte_of (only_key keys)
only_key_map [] = refl
only_key_map (key ∷ []) = refl
only_key_map (key ∷ other ∷ keys) = refl

only_known : (columns : List Column) (keys : List (List ℕ)) → list_all (has_columns columns) keys ≡ true → has_columns columns (only_key keys) ≡ true
only_known columns [] known = refl
only_known columns (key ∷ []) known = grind (arith, known)
only_known columns (key ∷ other ∷ keys) known = refl

bytes_known : (columns : List Column) (key : List ℕ) → has_columns columns key ≡ true → has_columns columns (map byte_of key) ≡ true
bytes_known columns [] known = refl
bytes_known columns (n ∷ key) known =
    let rest : has_columns columns key ≡ true = grind (arith, known) in
    grind (arith, nat_tests, known, bytes_known columns key rest)

bytes_none : (key : List ℕ) → (length (map byte_of key) == 0) ≡ (length key == 0)
bytes_none key = rw (length-map key byte_of) refl

bytes_few : (columns : List Column) (key : List ℕ) → length columns ≤ 255 → has_columns columns key ≡ true → map byte_of key ≡ key
bytes_few columns [] few known = refl
bytes_few columns (n ∷ key) few known =
    let rest : has_columns columns key ≡ true = grind (arith, known) in
    let below : n ≤ 255 = grind (arith, nat_tests, known, few) in
    rw (byte_of_few n below, bytes_few columns key few rest) refl

-- ---- the table

-- whether the names of its keys are known
pub known_is : (text : CreateTable) (items : List TableItem) (columns slice : List Column) (is_known : Bool) → items ≡ text.items → columns ≡ columns_of items → slice ≡ columns
    → is_known ≡ have_known_keys slice items → is_known ≡ list_all (has_columns (columns_of text.items)) (keys_of (columns_of text.items) text.items)
known_is text items columns slice is_known its made sliced test =
    let cols : slice ≡ columns_of text.items = sliced ∙ made ∙ ap columns_of its in
    test ∙ (λ i. have_known_keys (cols i) (its i)) ∙ known_by_item (columns_of text.items) text.items

pub asked_at : (text : CreateTable) (items : List TableItem) (columns slice : List Column) (keys : List (List ℕ)) (key : List ℕ) (table : Table) → items ≡ text.items
    → columns ≡ columns_of text.items → slice ≡ columns → keys ≡ map (map byte_of) (keys_of slice items) → key ≡ only_key keys → table ≡ table_with text columns key → table ≡ asked text
asked_at text items columns slice keys key table its made sliced found only is =
    let cols : slice ≡ columns_of text.items = sliced ∙ made in
    let key_is : key ≡ map byte_of (table_from text).key
    = only ∙ ap only_key (found ∙ (λ i. map (map byte_of) (keys_of (cols i) (its i)))) ∙ only_key_map (keys_of (columns_of text.items) text.items) in
    is ∙ (λ i. table_with text (made i) (key_is i))

pub known_fault : (catalog : Contents) (text : CreateTable) → list_all (has_columns (columns_of text.items)) (keys_of (columns_of text.items) text.items) ≡ true
    → rules.fault_of_table catalog (asked text) ≡ fault_of_table catalog text
known_fault catalog text known =
    let key = (table_from text).key in
    rw (known, bytes_known (columns_of text.items) key (only_known (columns_of text.items) (keys_of (columns_of text.items) text.items) known), bytes_none key) refl

pub asked_is : (catalog : Contents) (text : CreateTable) → list_all (has_columns (columns_of text.items)) (keys_of (columns_of text.items) text.items) ≡ true
    → rules.fault_of_table catalog (asked text) ≡ None → asked text ≡ table_from text
asked_is catalog text known accepted =
    let met = table_kept catalog (asked text) accepted in
    let few : length (columns_of text.items) ≤ 255 = grind (arith, nat_tests, met.fourth_is) in
    ap (table_with text (columns_of text.items)) (bytes_few (columns_of text.items) (table_from text).key few (only_known (columns_of text.items) (keys_of (columns_of text.items) text.items) known))

-- ---- a table in whose keys a name is unknown

pub unknown_fault : (catalog : Contents) (text : CreateTable) → list_all (has_columns (columns_of text.items)) (keys_of (columns_of text.items) text.items) ≡ false
    → fault_of_table catalog text ≡ Some (fault_of_unknown catalog (table_with text (columns_of text.items) []))
unknown_fault catalog text unknown = rw unknown (by (repeats_a_name catalog (table_from text)) (passes_a_limit catalog (columns_of text.items)) (length (table_from text).key == 0))
  where
    by : (repeats many none : Bool) → first_fault ((repeats, DuplicateName) ∷ (true, NoSuchName) ∷ (none, NoPrimaryKey) ∷ (many, TooMany) ∷ []) ≡ Some (cond repeats DuplicateName NoSuchName)
    by true many none = refl
    by false many none = refl

-- ---- what the catalog answers is what the definition means

pub refused_unknown : (catalog : Contents) (text : CreateTable) (items : List TableItem) (columns : List Column) (key : List ℕ) (table : Table) (fault : CatalogFault) → items ≡ text.items
    → columns ≡ columns_of items → key ≡ [] → table ≡ table_with text columns key → list_all (has_columns (columns_of text.items)) (keys_of (columns_of text.items) text.items) ≡ false
    → (fault ≡ NoMemory) ⊎ (fault ≡ fault_of_unknown catalog table) → (fault ≡ NoMemory) ⊎ (fault_of_table catalog text ≡ Some fault)
refused_unknown catalog text items columns key table fault its made keyless is unknown (inl memory) = inl memory
refused_unknown catalog text items columns key table fault its made keyless is unknown (inr refused) =
    let cols : columns ≡ columns_of text.items = made ∙ ap columns_of its in
    let same : table ≡ table_with text (columns_of text.items) [] = is ∙ (λ i. table_with text (cols i) (keyless i)) in
    inr (unknown_fault catalog text unknown ∙ ap (λ f. Some f) (sym (refused ∙ ap (fault_of_unknown catalog) same)))

pub same_fault : (catalog : Contents) (text : CreateTable) (table : Table) → table ≡ asked text → list_all (has_columns (columns_of text.items)) (keys_of (columns_of text.items) text.items) ≡ true
    → fault_of_table catalog text ≡ rules.fault_of_table catalog table
same_fault catalog text table is known = sym (ap (rules.fault_of_table catalog) is ∙ known_fault catalog text known)

pub refused_known : (catalog : Contents) (text : CreateTable) (table : Table) (fault : CatalogFault) → table ≡ asked text → list_all (has_columns (columns_of text.items)) (keys_of (columns_of text.items) text.items) ≡ true
    → (fault ≡ NoMemory) ⊎ (rules.fault_of_table catalog table ≡ Some fault) → (fault ≡ NoMemory) ⊎ (fault_of_table catalog text ≡ Some fault)
refused_known catalog text table fault is known (inl memory) = inl memory
refused_known catalog text table fault is known (inr refused) = inr (same_fault catalog text table is known ∙ refused)

pub table_is : (catalog : Contents) (text : CreateTable) (table : Table) → table ≡ asked text → list_all (has_columns (columns_of text.items)) (keys_of (columns_of text.items) text.items) ≡ true
    → rules.fault_of_table catalog table ≡ None → table ≡ table_from text
table_is catalog text table is known accepted = is ∙ asked_is catalog text known (sym (ap (rules.fault_of_table catalog) is) ∙ accepted)
