use Rattle.std.proofs.Common.{◌≡◌, drop, map}
use Rattle.sql_check.specs.Distribution as spec
use Rattle.sql_check.proofs.distribution.+tells.Given as goal

abbrev pub invariant-all_tell-loop-condition : goal.invariant-all_tell-loop-condition
invariant-all_tell-loop-condition l = spec.all_tell (map (spec.part_of l.left l.right) (drop l.condition-index l.conditions)) l.so_far ≡ spec.all_tell (map (spec.part_of l.fn.left l.fn.right) l.fn.conditions) l.fn.so_far
