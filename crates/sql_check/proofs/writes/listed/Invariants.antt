use Rattle.std.proofs.Common.{◌≡◌, [], drop}
use Rattle.sql_check.specs.Writes as spec
use Rattle.sql_check.proofs.writes.listed.Given as goal

abbrev pub invariant-loop-name : goal.invariant-loop-name
invariant-loop-name l = spec.listed l.columns (drop l.name-index l.names) l.places l.notes ≡ spec.listed l.fn.columns l.fn.names [] l.fn.notes
