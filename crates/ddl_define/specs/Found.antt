-- What functions inside this crate answer. No public contract cites these.
use Rattle.std.specs.Prelude.{ℕ, min, nat_lt, Bool, if◌then◌else◌, List, [], length, map, Option, Some, None}
use Rattle.std.specs.List.{list_all}
use Rattle.volt_catalog.specs.declared.column.Column.{Column}
use Rattle.volt_catalog.specs.declared.table.Table.{Table}
use Rattle.volt_catalog.specs.declared.fault.CatalogFault.{CatalogFault}
use Rattle.volt_catalog.specs.declared.fault.CatalogFault.TheVariants.{DuplicateName, NoSuchName}
use Rattle.volt_catalog.specs.Rules.{Contents, repeats_a_name}
use Rattle.ddl_parse.specs.declared.ddl.CreateTable.{CreateTable}
use Rattle.ddl_parse.specs.declared.ddl.TableItem.{TableItem}
use Rattle.ddl_define.specs.Columns.{columns_of, number_in, numbers_in}
use Rattle.ddl_define.specs.Tables.{key_in, table_from}

-- The number of a column as a byte. A table with columns of greater numbers is refused.
abbrev pub byte_of : ℕ → ℕ
byte_of number = min number 255

abbrev pub bytes_in : List Column → List (List ℕ) → List ℕ
bytes_in columns names = map byte_of (numbers_in columns names)

-- the names of a primary key, where one is written
abbrev pub names_in_key : Option (List (List ℕ)) → List (List ℕ)
names_in_key None = []
names_in_key (Some names) = names

-- there is a column of each name
abbrev pub are_known : List Column → List (List ℕ) → Bool
are_known columns names = list_all (λ name. nat_lt (number_in columns name) (length columns)) names

-- there is a column of each name of each primary key
abbrev pub have_known_keys : List Column → List TableItem → Bool
have_known_keys columns items = list_all (λ item. are_known columns (names_in_key (key_in item))) items

-- a table that isn't partitioned
abbrev pub table_with : CreateTable → List Column → List ℕ → Table
table_with text columns key = record { name = text.name; columns = columns; key = key; part = None }

-- the table that is defined, as the catalog is asked for it: with bytes as numbers
abbrev pub asked : CreateTable → Table
asked text = table_with text (columns_of text.items) (map byte_of (table_from text).key)

-- why a table is refused in whose keys a name is unknown
abbrev pub fault_of_unknown : Contents → Table → CatalogFault
fault_of_unknown catalog table = if repeats_a_name catalog table then DuplicateName else NoSuchName
