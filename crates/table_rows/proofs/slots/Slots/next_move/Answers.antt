use Rattle.std.proofs.Common.{None, Some}
use Rattle.table_rows.proofs.MoveLemmas.{next-is}
use Rattle.table_rows.proofs.slots.Slots.next_move.Goals as goal

pub returns-in_err-from-clause-found : goal.returns-in_err-from-clause-found
returns-in_err-from-clause-found c =
    let s = c.self.inside in
    let spare = rw (← c.self.view_is) at c.requires in
    rw (c.from_residual.ensures, ← c.self.view_is) (next-is s.layout s.pane s.spare None spare c.in_err-from.ensures.found)

pub returns-clause-found : goal.returns-clause-found
returns-clause-found c =
    let s = c.self.inside in
    let spare = rw (← c.self.view_is) at c.requires in
    rw (c.number.ensures.value, c.number-2.ensures.value, ← c.self.view_is) (next-is s.layout s.pane s.spare (Some (c.in_ok-from.from, c.in_ok-from.to)) spare c.in_ok-from.ensures.found)
