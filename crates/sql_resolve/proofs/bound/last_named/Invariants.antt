use Rattle.std.proofs.Common.{◌≡◌, None, drop}
use Rattle.sql_resolve.specs.Bound as bound
use Rattle.sql_resolve.proofs.bound.last_named.Given as goal

abbrev pub invariant-loop-number : goal.invariant-loop-number
invariant-loop-number l = bound.last_named l.name l.found l.number (drop l.number l.rows) ≡ bound.last_named l.fn.name None 0 l.fn.rows
