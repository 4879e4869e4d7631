use Rattle.std.proofs.Common.{◌≡◌, ◌+◌, ◌≤◌, length, take}
use Rattle.table_store.specs.Steps.{history}
use Rattle.table_store.proofs.tables.Tables.roll_back.Given as goal

abbrev pub invariant-loop : goal.invariant-loop
invariant-loop l = record {
  rolled : history l.self ≡ take (length l.self.past + 1) (history l.initial.self);
  only : l.mark ≤ length l.initial.self.past → l.mark ≤ length l.self.past;
}

abbrev pub decreases-loop : goal.decreases-loop
decreases-loop l = length l.self.past
