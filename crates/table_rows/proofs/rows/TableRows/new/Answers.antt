use Rattle.table_rows.proofs.ChangeLemmas.{new_standing, new_table}
use Rattle.table_rows.proofs.rows.TableRows.new.Goals as goal

pub invariant_of-result : goal.invariant_of-result
invariant_of-result c = new_standing c.new.result c.in_ok-indexes_of.field-0.items c.args.layout c.args.keys.items c.new.ensures c.in_ok-indexes_of.ensures c.requires

pub returns : goal.returns
returns c = new_table c.new.result c.in_ok-indexes_of.field-0.items c.args.layout c.args.keys.items c.new.ensures c.in_ok-indexes_of.ensures
