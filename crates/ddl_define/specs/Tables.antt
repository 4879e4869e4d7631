-- What the definition of a table gives, and which rules it breaks.
use Rattle.std.specs.Prelude.{ℕ, not, ◌==◌, if◌then◌else◌, List, [], ◌∷◌, length, map, Option, Some, None}
use Rattle.std.specs.List.{list_all, filter_map}
use Rattle.volt_catalog.specs.declared.column.Column.{Column}
use Rattle.volt_catalog.specs.declared.table.Table.{Table}
use Rattle.volt_catalog.specs.declared.fault.CatalogFault.{CatalogFault}
use Rattle.volt_catalog.specs.declared.fault.CatalogFault.TheVariants.{DuplicateName, NoSuchName, NoPrimaryKey, TooMany}
use Rattle.volt_catalog.specs.Rules.{Contents, first_fault, has_columns, repeats_a_name, passes_a_limit}
use Rattle.ddl_parse.specs.declared.ddl.CreateTable.{CreateTable}
use Rattle.ddl_parse.specs.declared.ddl.TableItem.{TableItem}
use Rattle.ddl_parse.specs.declared.ddl.TableItem.TheVariants as item
use Rattle.ddl_define.specs.Columns.{columns_of, numbers_in}

-- the names of the columns of a primary key, where one is written: behind a column, or by itself
abbrev pub key_in : TableItem → Option (List (List ℕ))
key_in (item.Column text) = if text.primary_key then Some (text.name ∷ []) else None
key_in (item.PrimaryKey constraint names) = Some names

-- the primary keys that are written, each as the numbers of its columns
abbrev pub keys_of : List Column → List TableItem → List (List ℕ)
keys_of columns items = map (numbers_in columns) (filter_map key_in items)

-- the primary key, where exactly one is written; else it has no column
abbrev pub only_key : List (List ℕ) → List ℕ
only_key (key ∷ []) = key
only_key keys = []

-- the table that is defined: it isn't partitioned
abbrev pub table_from : CreateTable → Table
table_from text =
    let columns = columns_of text.items in
    record { name = text.name; columns = columns; key = only_key (keys_of columns text.items); part = None }

-- Its name is taken, or two of its columns have one name; a primary key names what is no column; there isn't exactly one
-- primary key, or it has no column; there is too much of something.
abbrev pub fault_of_table : Contents → CreateTable → Option CatalogFault
fault_of_table catalog text =
    let table = table_from text in
    first_fault (
    (repeats_a_name catalog table, DuplicateName)
    ∷ (not (list_all (has_columns table.columns) (keys_of table.columns text.items)), NoSuchName)
    ∷ (length table.key == 0, NoPrimaryKey)
    ∷ (passes_a_limit catalog table.columns, TooMany)
    ∷ [])
