use Rattle.std.proofs.Common.{◌≡◌, None}
use Rattle.table_rows.specs.Held.{place_sum}
use Rattle.table_rows.specs.Standing.{standing_table, StandFor}
use Rattle.table_rows.proofs.compact.compact.Given as goal

abbrev pub invariant-loop : goal.invariant-loop
invariant-loop l = record {
  same : StandFor l.slots l.indexes (standing_table l.initial.slots l.initial.indexes);
  spare : l.slots.ready ≡ None;
}

abbrev pub decreases-loop : goal.decreases-loop
decreases-loop l = place_sum l.slots.held
