use Rattle.std.proofs.Common.{◌≡◌, ◌++◌, drop}
use Rattle.sql_refusals.specs.Selects as spec
use Rattle.sql_refusals.proofs.select.grouped_by.Given as goal

abbrev pub invariant-loop-name : goal.invariant-loop-name
invariant-loop-name l = l.by ++ spec.grouped_by l.names (drop l.name-index l.columns) ≡ spec.grouped_by l.fn.names l.fn.columns
