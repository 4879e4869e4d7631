use Rattle.std.proofs.Common.{◌≡◌, drop, map}
use Rattle.sql_complaints.proofs.SearchLemmas.{each_noted}
use Rattle.sql_refusals.specs.Selects as spec
use Rattle.sql_refusals.proofs.select.read_groups.Given as goal

abbrev pub invariant-loop-name : goal.invariant-loop-name
invariant-loop-name l = each_noted l.search (map (spec.grouped l.names) (drop l.name-index l.columns)) ≡ each_noted l.fn.search (map (spec.grouped l.fn.names) l.fn.columns)
