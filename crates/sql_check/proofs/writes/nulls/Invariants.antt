use Rattle.std.proofs.Common.{◌≡◌}
use Rattle.sql_check.specs.Writes as spec
use Rattle.sql_check.proofs.writes.nulls.Given as goal

abbrev pub invariant-loop-number : goal.invariant-loop-number
invariant-loop-number l = l.row ≡ spec.nulls l._number
