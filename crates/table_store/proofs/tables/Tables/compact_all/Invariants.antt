use Rattle.std.proofs.Common.{◌≡◌}
use Rattle.table_store.proofs.tables.Tables.compact_all.Given as goal

abbrev pub invariant-loop-at : goal.invariant-loop-at
invariant-loop-at l = record { same : l.self ≡ l.initial.self }
