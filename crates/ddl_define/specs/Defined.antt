-- What a definition makes of what was defined before it, and which rule it breaks first.
use Rattle.std.specs.Prelude.{ℕ, if◌then◌else◌, [], ◌∷◌, ◌++◌, Option, Some}
use Rattle.volt_catalog.specs.declared.fault.CatalogFault.{CatalogFault}
use Rattle.volt_catalog.specs.declared.fault.CatalogFault.TheVariants.{DuplicateName, NoSuchName, NoPrimaryKey, NullablePartitionColumn, KeyLacksPartitionColumn, TooMany, NoMemory}
use Rattle.volt_catalog.specs.Catalog.{empty_catalog, with_table, with_index}
use Rattle.volt_catalog.specs.Rules as rules
use Rattle.ddl_parse.specs.declared.ddl.Ddl.{Ddl}
use Rattle.ddl_parse.specs.declared.ddl.Ddl.TheVariants.{CreateTable, CreateIndex, PartitionTable, CreateProcedure}
use Rattle.ddl_parse.specs.declared.ddl.PartitionTable as parsed
use Rattle.ddl_define.specs.declared.definitions.Definitions.{Definitions}
use Rattle.ddl_define.specs.Names.{index_from, partitioned, fault_of_unused}
use Rattle.ddl_define.specs.Procedures.{procedure_from, is_in_use, fault_of_procedure}
use Rattle.ddl_define.specs.Tables.{table_from, fault_of_table}

-- A table that a statement names is taken as if it were partitioned already.
abbrev pub fault_of_partition : Definitions → parsed.PartitionTable → Option CatalogFault
fault_of_partition definitions text =
    if is_in_use definitions.procedures text.table then Some DuplicateName else fault_of_unused definitions.catalog text

-- nothing is defined
abbrev pub nothing : Definitions
nothing = record { catalog = empty_catalog; procedures = [] }

-- what is defined behind a definition that breaks no rule
abbrev pub defined : Definitions → Ddl → Definitions
defined definitions (CreateTable text) = record definitions { catalog = with_table definitions.catalog (table_from text) }
defined definitions (CreateIndex text) = record definitions { catalog = with_index definitions.catalog (index_from definitions.catalog text) }
defined definitions (PartitionTable text) = record definitions { catalog = partitioned definitions.catalog text }
defined definitions (CreateProcedure text) = record definitions { procedures = definitions.procedures ++ procedure_from text ∷ [] }

-- the first rule that a definition breaks
abbrev pub fault_of : Definitions → Ddl → Option CatalogFault
fault_of definitions (CreateTable text) = fault_of_table definitions.catalog text
fault_of definitions (CreateIndex text) = rules.fault_of_index definitions.catalog (index_from definitions.catalog text)
fault_of definitions (PartitionTable text) = fault_of_partition definitions text
fault_of definitions (CreateProcedure text) = fault_of_procedure definitions.procedures text

-- the number of a fault among all refusals of an input
abbrev pub code_of : CatalogFault → ℕ
code_of DuplicateName = 8
code_of NoSuchName = 9
code_of NoPrimaryKey = 10
code_of NullablePartitionColumn = 11
code_of KeyLacksPartitionColumn = 12
code_of TooMany = 13
code_of NoMemory = 255
