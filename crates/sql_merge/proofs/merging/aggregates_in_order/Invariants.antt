use Rattle.std.proofs.Common.{◌≡◌, ◌++◌, map, drop}
use Rattle.std.specs.List.{enumerate_from}
use Rattle.sql_plan.specs.declared.select.GroupOutput.TheVariants as output
use Rattle.sql_meaning.specs.Selects.{aggregates_in_order}
use Rattle.sql_merge.proofs.merging.aggregates_in_order.Given as goal

abbrev pub invariant-loop-place : goal.invariant-loop-place
invariant-loop-place l = l.outputs.items ++ map (λ a. output.Aggregate a.0) (enumerate_from l.place (drop l.place l.aggregates)) ≡ aggregates_in_order l.fn.aggregates
