use Rattle.std.proofs.Common.{◌≡◌, [], drop}
use Rattle.sql_refusals.specs.Writes as spec
use Rattle.sql_refusals.proofs.LoopLemmas.{after_targets}
use Rattle.sql_refusals.proofs.writes.read_targets.Given as goal

abbrev pub invariant-loop-name : goal.invariant-loop-name
invariant-loop-name l = record {
  noted : after_targets l.search l.columns l.places (drop l.name-index l.names) ≡ after_targets l.fn.search l.fn.columns [] l.fn.names;
  placed : spec.places l.columns l.places (drop l.name-index l.names) ≡ spec.places l.fn.columns [] l.fn.names;
}
