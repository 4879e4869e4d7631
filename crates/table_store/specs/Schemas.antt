-- The tables of a catalog.
use Rattle.std.specs.Prelude.{◌≡◌, ℕ, suc, ◌==◌, ◌||◌, if◌then◌else◌, List, [], ◌∷◌, ◌++◌}
use Rattle.std.specs.List.{list_any}
use Rattle.volt_catalog.specs.declared.column.Column.{Column}
use Rattle.volt_catalog.specs.declared.table.Table as catalog
use Rattle.volt_catalog.specs.declared.table.IndexDef.{IndexDef}
use Rattle.volt_catalog.specs.Rules.{Contents}
use Rattle.row_codec.specs.declared.field.Field.{Field}
use Rattle.table_rows.specs.Table.{Schema, Table, no_rows, IsSchema}
use Rattle.table_store.specs.Steps.{Store}

-- a column of a number takes no NULL where it is written so, or where it is in the primary key
unfoldable pub field_at : ℕ → List ℕ → Column → Field
field_at number key column = record { kind = column.kind; not_null = column.not_null || list_any (λ other. other == number) key }

abbrev pub fields_from : ℕ → List ℕ → List Column → List Field
fields_from number key [] = []
fields_from number key (column ∷ columns) = field_at number key column ∷ fields_from (suc number) key columns

-- the key of an index: its columns, and where rows may agree in these, then those of the primary key
abbrev pub index_key : List ℕ → IndexDef → List ℕ
index_key key index = if index.unique then index.columns else index.columns ++ key

-- the keys of the indexes of a table
abbrev pub index_keys : ℕ → List ℕ → List IndexDef → List (List ℕ)
index_keys number key [] = []
index_keys number key (index ∷ indexes) = if index.table == number then index_key key index ∷ index_keys number key indexes else index_keys number key indexes

-- a table's columns and keys: the primary key, and then that of each of its indexes, in order of definition
abbrev pub schema_of : ℕ → catalog.Table → List IndexDef → Schema
schema_of number table indexes = record { fields = fields_from 0 table.key table.columns; keys = table.key ∷ index_keys number table.key indexes }

-- tables without rows, of which the first has this number
abbrev pub empty_from : ℕ → List catalog.Table → List IndexDef → List Table
empty_from number [] indexes = []
empty_from number (table ∷ tables) indexes = no_rows (schema_of number table indexes) ∷ empty_from (suc number) tables indexes

-- a catalog's tables without rows
abbrev pub empty_tables : Contents → Store
empty_tables contents = record { now = empty_from 0 contents.tables contents.indexes; past = [] }

-- each of them is a schema
abbrev pub AreSchemas : ℕ → List catalog.Table → List IndexDef → Type 0
AreSchemas number [] indexes = Unit {0}
AreSchemas number (table ∷ tables) indexes = IsSchema (schema_of number table indexes) × AreSchemas (suc number) tables indexes
