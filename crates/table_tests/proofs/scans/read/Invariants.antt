use Rattle.std.proofs.Common.{◌≤◌}
use Rattle.table_tests.proofs.scans.read.Given as goal

abbrev pub invariant-loop-n : goal.invariant-loop-n
invariant-loop-n l = record { count : l.count ≤ l.n; copied : l.copied ≤ l.n }
