use Rattle.std.proofs.Common.{◌≡◌, drop, map}
use Rattle.sql_complaints.specs.declared.complaints.Wanted.TheVariants.{Value}
use Rattle.sql_complaints.specs.Expressions as spec
use Rattle.sql_complaints.proofs.SearchLemmas.{each_noted}
use Rattle.sql_complaints.proofs.expressions.+read.Given as goal

abbrev pub invariant-read_all-loop-item : goal.invariant-read_all-loop-item
invariant-read_all-loop-item l = each_noted l.search (map (spec.complaints l.part l.names (Value l.class)) (drop l.item-index l.items))
    ≡ each_noted l.fn.search (map (spec.complaints l.fn.part l.fn.names (Value l.fn.class)) l.fn.items)
