use Rattle.std.proofs.Common.{◌≡◌, drop, map}
use Rattle.sql_complaints.proofs.SearchLemmas.{each_noted}
use Rattle.sql_refusals.specs.Selects as spec
use Rattle.sql_refusals.proofs.select.read_orders.Given as goal

abbrev pub invariant-loop-key : goal.invariant-loop-key
invariant-loop-key l = each_noted l.search (map (spec.sorted l.names l.heads l.grouped) (drop l.key-index l.keys))
    ≡ each_noted l.fn.search (map (spec.sorted l.fn.names l.fn.heads l.fn.grouped) l.fn.keys)
