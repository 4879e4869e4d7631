use Rattle.table_rows.proofs.SpreadLemmas.{accept-is, is_spread}
use Rattle.table_rows.proofs.slots.Slots.accept.Goals as goal

pub returns : goal.returns
returns c = record {
  free = let s = c.self.inside in rw (← c.self.view_is) ((is_spread s.layout s.pane s.spare c.self.invariant).free);
  accepted = let s = c.self.inside in rw (← c.self.view_is) (accept-is s.layout s.pane s.spare c.self.invariant);
}
