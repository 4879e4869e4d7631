use Rattle.std.proofs.Common.{◌≡◌, drop}
use Rattle.volt_disk.specs.Stored.{scattered_all}
use Rattle.volt_disk.specs.Undo.{ranges}
use Rattle.volt_disk.proofs.stored.scatter_all.Given as goal

abbrev pub invariant-loop-range : goal.invariant-loop-range
invariant-loop-range l =
    scattered_all (ranges (drop l.range-index l.replaced.items)) (l.bytes.items, l.state) ≡ scattered_all (ranges l.replaced.items) (l.initial.bytes.items, l.x)
