use Rattle.std.proofs.Common.{◌≡◌, [], drop}
use Rattle.sql_check.specs.Selects as spec
use Rattle.sql_check.proofs.order.ordered.Given as goal

abbrev pub invariant-loop-key : goal.invariant-loop-key
invariant-loop-key l = spec.ordered l.names l.heads l.grouped (drop l.key-index l.keys) l.order l.notes ≡ spec.ordered l.fn.names l.fn.heads l.fn.grouped l.fn.keys [] l.fn.notes
