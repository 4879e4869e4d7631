use Rattle.std.proofs.Common.{rules}
use Rattle.sql_grammar.specs.Grammar.{parse}
use Rattle.ddl_parse.specs.Ddl.{table_items, table_item}
use Rattle.ddl_parse.proofs.tables.table_items.Goals as goal

pub returns : goal.returns
unfolding table_items
returns c = c.comma_list.ensures (parse table_item) (λ alloc old new r post. search rules)
