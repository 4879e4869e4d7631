use Rattle.std.proofs.Common.{◌≡◌, ◌+◌, ◌-◌}
use Rattle.volt_disk.specs.Stored.{scattered}
use Rattle.volt_disk.proofs.stored.scatter.Given as goal

abbrev pub invariant-loop-i : goal.invariant-loop-i
invariant-loop-i l =
    scattered (l.len - l.i) (l.at + l.i) (l.bytes.items, l.state) ≡ scattered l.len l.at (l.initial.bytes.items, l.x)
