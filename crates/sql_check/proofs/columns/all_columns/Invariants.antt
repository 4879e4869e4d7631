use Rattle.std.proofs.Common.{◌≡◌}
use Rattle.sql_check.specs.Columns as spec
use Rattle.sql_check.proofs.columns.all_columns.Given as goal

abbrev pub invariant-loop-number : goal.invariant-loop-number
invariant-loop-number l = l.columns ≡ spec.columns_to l.number
