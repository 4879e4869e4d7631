-- The columns that are written in the definition of a table, and columns by their names.
use Rattle.std.specs.Prelude.{ℕ, min, nat_abs, List, [], ◌∷◌, length, map, unwrap_or}
use Rattle.std.specs.List.{flat_map}
use Rattle.volt_value.specs.declared.column.ColType.{ColType}
use Rattle.volt_value.specs.declared.column.ColType.TheVariants as kind
use Rattle.volt_catalog.specs.declared.column.Column.{Column}
use Rattle.ddl_parse.specs.declared.ddl.ColumnText.{ColumnText}
use Rattle.ddl_parse.specs.declared.ddl.TableItem.{TableItem}
use Rattle.ddl_parse.specs.declared.ddl.TableItem.TheVariants as item
use Rattle.ddl_parse.specs.declared.ddl.TypeName.{TypeName}
use Rattle.ddl_parse.specs.declared.ddl.TypeName.TheVariants as written
use Rattle.sql_resolve.specs.Tables.{number_of}

-- the greatest length that the type of a column holds; no column may have it
abbrev pub most_length : ℕ
most_length = 65535

-- The type of a name. A length above the greatest one becomes that one, which is too long as well.
abbrev pub col_type : TypeName → ColType
col_type written.Tinyint = kind.Tiny
col_type written.Smallint = kind.Small
col_type written.Integer = kind.Integer
col_type written.Bigint = kind.Big
col_type (written.Varchar n) = kind.Varchar (min (nat_abs n) most_length)

-- A column is NOT NULL here only where that is written. PRIMARY KEY forbids NULL too, and is found in the table's key.
abbrev pub column_of : ColumnText → Column
column_of text = record { name = text.name; kind = col_type text.kind; not_null = text.not_null }

abbrev pub columns_in : TableItem → List Column
columns_in (item.Column text) = column_of text ∷ []
columns_in (item.PrimaryKey constraint names) = []

-- the columns, in the order in which they are written
abbrev pub columns_of : List TableItem → List Column
columns_of items = flat_map columns_in items

-- the number of the column of a name; where there is none, the number behind the last one, which no column has
abbrev pub number_in : List Column → List ℕ → ℕ
number_in columns name = unwrap_or (number_of columns name) (length columns)

abbrev pub numbers_in : List Column → List (List ℕ) → List ℕ
numbers_in columns names = map (number_in columns) names
