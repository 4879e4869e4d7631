use Rattle.std.proofs.Common.{length, sym, ap, ◌∙◌}
use Rattle.std.specs.Int.{div_ceil}
use Rattle.table_rows.specs.Table.{Table}
use Rattle.table_rows.proofs.MoveLemmas.{rows_counted}
use Rattle.table_rows.proofs.rows.TableRows.compact.Goals as goal

pub returns-clause-blocks : goal.returns-clause-blocks
returns-clause-blocks c =
    let stand = rw c.as_mut_slice.ensures.value at c.compact.ensures.same in
    rw (← c.self.view_is) (c.blocks-2.ensures ∙ ap (λ n. div_ceil n 64) (sym (rows_counted c.compact.new.slots c.compact.new.indexes stand.standing) ∙ ap (λ (t : Table). length t.rows) stand.same))
