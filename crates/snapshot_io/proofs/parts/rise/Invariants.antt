use Rattle.std.proofs.Common.{◌≡◌, length}
use Rattle.snapshot_io.specs.Base.{rise_above}
use Rattle.snapshot_io.proofs.parts.rise.Given as goal

abbrev pub invariant-loop-left : goal.invariant-loop-left
invariant-loop-left l = rise_above 0 l.replies ≡ rise_above l.before l.left

abbrev pub decreases-loop-left : goal.decreases-loop-left
decreases-loop-left l = length l.left
