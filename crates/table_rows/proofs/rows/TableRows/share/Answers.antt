use Rattle.table_rows.specs.Standing.{standing_table}
use Rattle.table_rows.proofs.ReadLemmas.{scan_given}
use Rattle.table_rows.proofs.rows.TableRows.share.Goals as goal

pub returns-clause-scan : goal.returns-clause-scan
returns-clause-scan c =
    let stand = rw c.as_mut_slice.ensures.value at c.compact.ensures.same in
    rw (← c.self.view_is)
    (scan_given c.compact.new.slots c.compact.new.indexes (standing_table c.self.inside.slots c.self.inside.indexes.items) c.share.result stand c.in_ok-compact.ensures.packed c.share.ensures.scan c.share.ensures.tuples)
