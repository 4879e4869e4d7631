use Rattle.table_rows.proofs.TwinLemmas.{stands_as_table}
use Rattle.table_rows.proofs.rows.TableRows.rules.Goals as goal

pub returns : goal.returns
returns c = let t = c.self.inside in rw (← c.self.view_is) (stands_as_table t.slots t.indexes.items c.rules.ensures c.self.invariant)
