-- Tables and columns that an index or a partitioning names, by their numbers.
use Rattle.std.specs.Prelude.{ℕ, List, [], length, slice_get, unwrap_or, Option, Some, None}
use Rattle.volt_catalog.specs.declared.column.Column.{Column}
use Rattle.volt_catalog.specs.declared.table.Table.{Table}
use Rattle.volt_catalog.specs.declared.table.IndexDef.{IndexDef}
use Rattle.volt_catalog.specs.declared.fault.CatalogFault.{CatalogFault}
use Rattle.volt_catalog.specs.Catalog.{table_of, with_part}
use Rattle.volt_catalog.specs.Rules as rules
use Rattle.volt_catalog.specs.Rules.{Contents}
use Rattle.ddl_parse.specs.declared.ddl.CreateIndex.{CreateIndex}
use Rattle.ddl_parse.specs.declared.ddl.PartitionTable.{PartitionTable}
use Rattle.ddl_define.specs.Columns.{number_in, numbers_in}

-- the number of the table of a name; where there is none, the number behind the last one, which no table has
abbrev pub table_number : Contents → List ℕ → ℕ
table_number catalog name = unwrap_or (table_of catalog name) (length catalog.tables)

abbrev pub columns_in_table : Option Table → List Column
columns_in_table None = []
columns_in_table (Some table) = table.columns

-- the columns of the table of a number; where there is none, no columns
abbrev pub columns_at : Contents → ℕ → List Column
columns_at catalog number = columns_in_table (slice_get catalog.tables number)

-- an index with its table and columns by their numbers
abbrev pub index_from : Contents → CreateIndex → IndexDef
index_from catalog text =
    let table = table_number catalog text.table in
    record { name = text.name; table = table; columns = numbers_in (columns_at catalog table) text.columns; unique = text.unique }

-- the number of a column of the table of a number
abbrev pub column_number : Contents → ℕ → List ℕ → ℕ
column_number catalog table name = number_in (columns_at catalog table) name

-- the catalog with a table partitioned
abbrev pub partitioned : Contents → PartitionTable → Contents
partitioned catalog text =
    let table = table_number catalog text.table in
    with_part catalog table (column_number catalog table text.column)

-- why a table can't be partitioned that no statement of a procedure names
abbrev pub fault_of_unused : Contents → PartitionTable → Option CatalogFault
fault_of_unused catalog text =
    let table = table_number catalog text.table in
    rules.fault_of_partition catalog table (column_number catalog table text.column)
