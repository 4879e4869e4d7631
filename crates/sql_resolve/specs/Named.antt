-- Tables, and the names that they go by in a statement.
use Rattle.std.specs.Prelude.{ℕ, List, [], Option, Some, None}
use denote.Ref.{Bor}
use Rattle.volt_catalog.specs.declared.column.Column.{Column}
use Rattle.volt_catalog.specs.declared.table.Table.{Table}
use Rattle.sql_resolve.specs.declared.bound.Bound.{Bound}
use Rattle.sql_resolve.specs.declared.names.NamedTable.{NamedTable}
use Rattle.sql_resolve.specs.declared.names.Names.TheInside.{Inside}

pub record Named : Type 0 where
  pub name : List ℕ
  pub table : Table

-- what may be named in an expression: the columns of the first table of a FROM and of its second one, and in a
-- program what it bound before
pub record Tables : Type 0 where
  pub left : Option Named
  pub right : Option Named
  pub program : Option Bound

abbrev pub no_tables : Tables
no_tables = record { left = None; right = None; program = None }

abbrev pub tables : Named → Option Named → Tables
tables left right = record { left = Some left; right = right; program = None }

-- the same in a program that has bound this, or in none
abbrev pub in_program : Option Bound → Tables → Tables
in_program program tables = record tables { program = program }

abbrev pub named : List ℕ → Table → Named
named name table = record { name = name; table = table }

abbrev pub columns_of : Option Named → List Column
columns_of None = []
columns_of (Some named) = named.table.columns

-- the columns of the primary key
abbrev pub key_of : Option Named → List ℕ
key_of None = []
key_of (Some named) = named.table.key

-- what a reference to them stands for
abbrev pub named_by : NamedTable → Named
named_by table = named table.name.now table.table.now

abbrev pub named_in : Option NamedTable → Option Named
named_in None = None
named_in (Some table) = Some (named_by table)

abbrev pub bound_in : Option (Bor Bound) → Option Bound
bound_in None = None
bound_in (Some bound) = Some bound.now

abbrev pub tables_of : Inside → Tables
tables_of names = record { left = named_in names.left; right = named_in names.right; program = bound_in names.program }
