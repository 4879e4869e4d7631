-- The tables of a FROM.
use Rattle.std.specs.Prelude.{ℕ, Bool, ◌||◌, if◌then◌else◌, List, is_some, Option, Some, None}
use Rattle.volt_catalog.specs.declared.table.Table.{Table}
use Rattle.volt_catalog.specs.Names.{same_name}
use Rattle.volt_catalog.specs.Rules.{Contents}
use Rattle.expr_parse.specs.declared.expression.Expr.{Expr}
use Rattle.sql_parse.specs.declared.statement.SecondTable.{SecondTable}
use Rattle.sql_parse.specs.declared.statement.SecondTable.TheVariants.{Listed, Joined}
use Rattle.sql_parse.specs.declared.statement.TableName.{TableName}
use Rattle.sql_check.specs.declared.from.Source.{Source}
use Rattle.sql_check.specs.declared.from.Sources.{Sources}
use Rattle.sql_resolve.specs.Named.{Named, Tables, tables, named, named_by}
use Rattle.sql_resolve.specs.Tables.{table_named}

-- a table with its number and the name that it goes by
pub record FromTable : Type 0 where
  pub number : ℕ
  pub named : Named

pub record FromTables : Type 0 where
  pub left : FromTable
  pub right : Option FromTable

abbrev pub known_by : List ℕ → Option (List ℕ) → List ℕ
known_by table None = table
known_by table (Some alias) = alias

-- the name that a table goes by: the one behind AS, and else its own
abbrev pub known_as : TableName → List ℕ
known_as name = known_by name.table name.alias

abbrev pub from_found : List ℕ → Option (ℕ × Table) → Option FromTable
from_found name None = None
from_found name (Some found) = Some (record { number = found.0; named = named name found.1 })

abbrev pub from_table : Contents → TableName → Option FromTable
from_table catalog name = from_found (known_as name) (table_named catalog name.table)

abbrev pub second_name : SecondTable → TableName
second_name (Listed table) = table
second_name (Joined table on) = table

-- ON, where it is written
abbrev pub on_of : Option SecondTable → Option Expr
on_of None = None
on_of (Some (Listed table)) = None
on_of (Some (Joined table on)) = Some on

-- both tables, which go by different names
abbrev pub with_right : FromTable → Option FromTable → Option FromTables
with_right left None = None
with_right left (Some right) = if same_name left.named.name right.named.name then None else Some (record { left = left; right = Some right })

abbrev pub with_second : Contents → FromTable → Option SecondTable → Option FromTables
with_second catalog left None = Some (record { left = left; right = None })
with_second catalog left (Some second) = with_right left (from_table catalog (second_name second))

abbrev pub with_first : Contents → Option FromTable → Option SecondTable → Option FromTables
with_first catalog None second = None
with_first catalog (Some left) second = with_second catalog left second

-- the tables of a FROM, where each is there and they go by different names
abbrev pub from_tables : Contents → TableName → Option SecondTable → Option FromTables
from_tables catalog first second = with_first catalog (from_table catalog first) second

abbrev pub named_of : Option FromTable → Option Named
named_of None = None
named_of (Some table) = Some table.named

-- the columns that may stand in the expressions
abbrev pub tables_from : FromTables → Tables
tables_from from = tables from.left.named (named_of from.right)

abbrev pub part_in : Option FromTable → Option ℕ
part_in None = None
part_in (Some table) = table.named.table.part

abbrev pub names_partitioned : FromTables → Bool
names_partitioned from = is_some from.left.named.table.part || is_some (part_in from.right)

-- ---- what references to them stand for

abbrev pub seen_source : Source → FromTable
seen_source source = record { number = source.number; named = named_by source.named }

abbrev pub seen_right : Option Source → Option FromTable
seen_right None = None
seen_right (Some source) = Some (seen_source source)

abbrev pub seen_sources : Sources → FromTables
seen_sources sources = record { left = seen_source sources.left; right = seen_right sources.right }

abbrev pub seen_from : Option Sources → Option FromTables
seen_from None = None
seen_from (Some sources) = Some (seen_sources sources)
