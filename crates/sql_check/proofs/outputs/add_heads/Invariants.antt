use Rattle.std.proofs.Common.{◌≡◌, ◌++◌, drop}
use Rattle.sql_check.specs.Selects as spec
use Rattle.sql_check.proofs.outputs.add_heads.Given as goal

abbrev pub invariant-loop-column : goal.invariant-loop-column
invariant-loop-column l = l.heads ++ spec.heads_of_columns (drop l.column-index l.columns) ≡ l.fn.heads ++ spec.heads_of_columns l.fn.columns
