use Rattle.std.proofs.Common.{◌≡◌, drop}
use Rattle.sql_refusals.proofs.LoopLemmas.{after_values_from}
use Rattle.sql_refusals.proofs.writes.read_all_values.Given as goal

abbrev pub invariant-loop-place : goal.invariant-loop-place
invariant-loop-place l = after_values_from l.search l.names l.columns l.place (drop l.place l.values)
    ≡ after_values_from l.fn.search l.fn.names l.fn.columns 0 l.fn.values
