use Rattle.std.proofs.Common.{◌≡◌, ◌-◌, ◌+◌, ◌≤◌, ◌++◌, length, drop}
use Rattle.std.specs.List.{AllByRecursion}
use Rattle.log_records.specs.Records.{CanSpell, RecordFits, records_bytes, placed}
use Rattle.log_records.proofs.writing.put_entries.Given as goal

abbrev pub invariant-loop-at : goal.invariant-loop-at
invariant-loop-at l = record {
  within : l.at ≤ length l.entries.items;
  place : l.position ≡ l.from + (l.at - l.first);
  behind : l.first ≤ l.at;
  each : AllByRecursion CanSpell (drop l.at l.entries.items);
  spelled : l.out.items ++ records_bytes (placed l.position (drop l.at l.entries.items))
      ≡ l.fn.out.items ++ records_bytes (placed l.from (drop l.first l.entries.items));
  fits : AllByRecursion RecordFits (placed l.position (drop l.at l.entries.items)) → AllByRecursion RecordFits (placed l.from (drop l.first l.entries.items));
}

abbrev pub decreases-loop-at : goal.decreases-loop-at
decreases-loop-at l = length l.entries.items - l.at
