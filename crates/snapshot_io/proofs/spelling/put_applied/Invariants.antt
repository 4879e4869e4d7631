use Rattle.std.proofs.Common.{◌≡◌, ◌++◌, flat_map, length}
use Rattle.std.specs.List.{AllByRecursion}
use Rattle.snapshot_io.specs.Base.{applied_bytes, all_applied_bytes, AppliedFits}
use Rattle.snapshot_io.proofs.spelling.put_applied.Given as goal

abbrev pub invariant-loop-left : goal.invariant-loop-left
invariant-loop-left l = record {
  spelled : l.out.items ++ flat_map applied_bytes l.left ≡ l.fn.out.items ++ all_applied_bytes l.applied;
  fits : AllByRecursion AppliedFits l.left → AllByRecursion AppliedFits l.applied;
}

abbrev pub decreases-loop-left : goal.decreases-loop-left
decreases-loop-left l = length l.left
