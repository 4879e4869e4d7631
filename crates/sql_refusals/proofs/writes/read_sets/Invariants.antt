use Rattle.std.proofs.Common.{◌≡◌, [], drop}
use Rattle.sql_refusals.proofs.LoopLemmas.{after_sets}
use Rattle.sql_refusals.proofs.writes.read_sets.Given as goal

abbrev pub invariant-loop-set : goal.invariant-loop-set
invariant-loop-set l = after_sets l.search l.names l.table l.earlier (drop l.set-index l.sets)
    ≡ after_sets l.fn.search l.fn.names l.fn.table [] l.fn.sets
