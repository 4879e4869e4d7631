use Rattle.std.proofs.Common.{◌≡◌, drop, map}
use Rattle.sql_complaints.proofs.SearchLemmas.{each_noted}
use Rattle.sql_refusals.specs.Selects as spec
use Rattle.sql_refusals.proofs.select.read_listed.Given as goal

abbrev pub invariant-loop-output : goal.invariant-loop-output
invariant-loop-output l = each_noted l.search (map (λ o. spec.output l.names l.grouped l.by o.value) (drop l.output-index l.outputs))
    ≡ each_noted l.fn.search (map (λ o. spec.output l.fn.names l.fn.grouped l.fn.by o.value) l.fn.outputs)
