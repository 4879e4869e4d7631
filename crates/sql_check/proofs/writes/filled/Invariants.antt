use Rattle.std.proofs.Common.{◌≡◌, drop}
use Rattle.sql_check.specs.Writes as spec
use Rattle.sql_check.proofs.writes.filled.Given as goal

abbrev pub invariant-loop-value : goal.invariant-loop-value
invariant-loop-value l = spec.filled l.names l.columns l.ahead (drop l.value-index l.values) l.row l.notes
    ≡ spec.filled l.fn.names l.fn.columns l.fn.places l.fn.values l.fn.row l.fn.notes
