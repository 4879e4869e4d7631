use Rattle.std.proofs.Common.{◌≡◌, [], drop}
use Rattle.sql_check.specs.Selects as spec
use Rattle.sql_check.proofs.groups.group_columns.Given as goal

abbrev pub invariant-loop-column : goal.invariant-loop-column
invariant-loop-column l = spec.group_columns l.names (drop l.column-index l.columns) l.by l.notes ≡ spec.group_columns l.fn.names l.fn.columns [] l.fn.notes
