use Rattle.std.proofs.Common.{◌≡◌, drop}
use Rattle.sql_refusals.proofs.LoopLemmas.{after_values}
use Rattle.sql_refusals.proofs.writes.read_values.Given as goal

abbrev pub invariant-loop-value : goal.invariant-loop-value
invariant-loop-value l = after_values l.search l.names l.columns l.ahead (drop l.value-index l.values)
    ≡ after_values l.fn.search l.fn.names l.fn.columns l.fn.places l.fn.values
