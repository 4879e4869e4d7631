use Rattle.std.proofs.Common.{arith, refl}
use Rattle.table_store.proofs.SchemaLemmas.{catalog_schemas}
use Rattle.table_store.proofs.tables.Tables.new.Goals as goal

pub loop-left-init : goal.loop-left-init
loop-left-init c = record {
  made = rw (c.new-tables.ensures.items, c.tables-left.ensures.tables, c.indexes-indexes.ensures.indexes) refl;
  schemas = rw (c.tables-left.ensures.tables, c.indexes-indexes.ensures.indexes) (catalog_schemas c.args.catalog.now c.tables-left.ensures.rules);
  count = rw c.tables-left.ensures.tables (omega arith);
  few = c.tables-left.ensures.rules.few_tables;
  same = c.indexes-indexes.ensures.indexes;
}
