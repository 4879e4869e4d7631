use Rattle.std.proofs.Common.{◌≡◌, drop, map}
use Rattle.sql_check.specs.Distribution as spec
use Rattle.sql_check.proofs.distribution.+plain.Given as goal

abbrev pub invariant-are_plain_conditions-loop-condition : goal.invariant-are_plain_conditions-loop-condition
invariant-are_plain_conditions-loop-condition l = spec.all_plain (map (spec.part_of l.left l.right) (drop l.condition-index l.conditions)) ≡ spec.all_plain (map (spec.part_of l.fn.left l.fn.right) l.fn.conditions)
