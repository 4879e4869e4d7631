-- The grammar of statements that define tables, indexes and procedures. Each rule stands below its text.
use Rattle.std.specs.Prelude.{ℕ, Bool, true, false, List, Some, None}
use Rattle.sql_grammar.specs.declared.kind.Kind.TheVariants as k
use Rattle.sql_grammar.specs.Grammar.{G, pure, seq, alt, map, skip, listed, is}
use Rattle.ddl_parse.specs.declared.ddl.ColumnText.{ColumnText}
use Rattle.ddl_parse.specs.declared.ddl.CreateIndex.{CreateIndex}
use Rattle.ddl_parse.specs.declared.ddl.CreateTable.{CreateTable}
use Rattle.ddl_parse.specs.declared.ddl.Ddl.{Ddl}
use Rattle.ddl_parse.specs.declared.ddl.Ddl.TheVariants as d
use Rattle.ddl_parse.specs.declared.ddl.PartitionTable.{PartitionTable}
use Rattle.ddl_parse.specs.declared.ddl.TableItem.{TableItem}
use Rattle.ddl_parse.specs.declared.ddl.TableItem.TheVariants as item
use Rattle.expr_parse.specs.Expressions.{name, before}
use Rattle.sql_parse.specs.Statements.{names}
use Rattle.ddl_parse.specs.Types.{type_name, closed}
use Rattle.ddl_parse.specs.Procedures.{procedure}

-- Tables

-- [NOT NULL]
unfoldable pub not_null : G Bool
not_null = alt (skip k.Not (is k.Null true)) (pure false)

-- [PRIMARY KEY]
unfoldable pub primary_key : G Bool
primary_key = alt (skip k.Primary (is k.Key true)) (pure false)

-- name type [NOT NULL] [PRIMARY KEY]
unfoldable pub column_text : G ColumnText
column_text = map (λ p. record { name = p.0; kind = p.1.0; not_null = p.1.1.0; primary_key = p.1.1.1 })
    (seq name (seq type_name (seq not_null primary_key)))

-- KEY "(" names ")"
unfoldable pub key_columns : G (List (List ℕ))
key_columns = skip k.Key (closed names)

-- name PRIMARY KEY "(" names ")"
unfoldable pub named_key : G TableItem
named_key = map (λ p. item.PrimaryKey (Some p.0) p.1) (seq name (skip k.Primary key_columns))

-- item = name type [NOT NULL] [PRIMARY KEY] | [CONSTRAINT name] PRIMARY KEY "(" names ")"
unfoldable pub table_item : G TableItem
table_item = alt (skip k.Constraint named_key) (alt (skip k.Primary (map (λ cs. item.PrimaryKey None cs) key_columns)) (map item.Column column_text))

-- item {"," item}
unfoldable pub table_items : G (List TableItem)
table_items = listed table_item

-- name "(" item {"," item} ")"
unfoldable pub table_text : G CreateTable
table_text = map (λ p. record { name = p.0; items = p.1 }) (seq name (closed table_items))

-- Indexes and partitions

-- name ON name "(" names ")"
unfoldable pub index_text : Bool → G CreateIndex
index_text unique = map (λ p. record { name = p.0; unique = unique; table = p.1.0; columns = p.1.1 })
    (seq name (skip k.On (seq name (closed names))))

-- name ON COLUMN name
unfoldable pub partition_text : G PartitionTable
partition_text = map (λ p. record { table = p.0; column = p.1 }) (seq name (skip k.On (skip k.Column name)))

-- Statements

-- TABLE .. | [UNIQUE] INDEX .. | PROCEDURE .., behind CREATE
unfoldable pub created : G Ddl
created = alt (skip k.Table (map d.CreateTable table_text))
    (alt (skip k.Unique (skip k.Index (map d.CreateIndex (index_text true))))
    (alt (skip k.Index (map d.CreateIndex (index_text false))) (skip k.Procedure (map d.CreateProcedure procedure))))

-- CREATE (TABLE .. | [UNIQUE] INDEX .. | PROCEDURE ..) | PARTITION TABLE ..
unfoldable pub definition : G Ddl
definition = alt (skip k.Create created) (skip k.Partition (skip k.Table (map d.PartitionTable partition_text)))

-- ddl = (table | index | part | proc) ";"
unfoldable pub ddl : G Ddl
ddl = before definition k.Semicolon
