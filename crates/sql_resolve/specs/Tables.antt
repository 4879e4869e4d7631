-- Tables and columns by their names.
use Rattle.std.specs.Prelude.{ℕ, List, position, slice_get, Option, Some, None}
use denote.Ref.{Bor}
use Rattle.volt_value.specs.declared.column.Class.{Class}
use Rattle.volt_value.specs.declared.column.Class.TheVariants as class
use Rattle.volt_value.specs.Columns.{class_of}
use Rattle.volt_catalog.specs.declared.column.Column.{Column}
use Rattle.volt_catalog.specs.declared.table.Table.{Table}
use Rattle.volt_catalog.specs.Names.{same_name}
use Rattle.volt_catalog.specs.Rules.{Contents}
use Rattle.volt_catalog.specs.Catalog.{table_of}

-- a table with its number
abbrev pub numbered : ℕ → Option Table → Option (ℕ × Table)
numbered n None = None
numbered n (Some table) = Some (n, table)

abbrev pub at_number : List Table → Option ℕ → Option (ℕ × Table)
at_number tables None = None
at_number tables (Some n) = numbered n (slice_get tables n)

-- the table of a name, with its number
abbrev pub table_named : Contents → List ℕ → Option (ℕ × Table)
table_named catalog name = at_number catalog.tables (table_of catalog name)

-- what a table that was found is
abbrev pub seen_table : Option (ℕ × Bor Table) → Option (ℕ × Table)
seen_table None = None
seen_table (Some found) = Some (found.0, found.1.now)

-- the number of the column of a name
abbrev pub number_of : List Column → List ℕ → Option ℕ
number_of columns name = position (λ column. same_name name column.name) columns

abbrev pub class_in_column : Option Column → Class
class_in_column None = class.Int
class_in_column (Some column) = class_of column.kind

-- the class of a column of a number
abbrev pub class_at : List Column → ℕ → Class
class_at columns n = class_in_column (slice_get columns n)
