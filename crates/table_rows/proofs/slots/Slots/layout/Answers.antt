use Rattle.table_rows.proofs.SpreadLemmas.{is_spread}
use Rattle.table_rows.proofs.slots.Slots.layout.Goals as goal

pub returns-clause-rules : goal.returns-clause-rules
returns-clause-rules c = let s = c.self.inside in rw (← c.self.view_is) (is_spread s.layout s.pane s.spare c.self.invariant)
