use Rattle.std.proofs.Common.{◌≡◌, drop}
use Rattle.sql_check.specs.Writes as spec
use Rattle.sql_check.proofs.writes.set_all.Given as goal

abbrev pub invariant-loop-assignment : goal.invariant-loop-assignment
invariant-loop-assignment l = spec.set_all l.names l.table (drop l.assignment-index l.sets) l.row l.notes ≡ spec.set_all l.fn.names l.fn.table l.fn.sets l.fn.row l.fn.notes
