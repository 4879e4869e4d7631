use Rattle.std.proofs.Common.{◌≡◌, ◌++◌, drop}
use Rattle.std.specs.List.{flat_map}
use Rattle.volt_report.specs.Spelling.{applied_line}
use Rattle.volt_report.proofs.printing.print_serial.Given as goal

-- the lines so far, and then those of the calls that are left, are all of them
abbrev pub invariant-loop-applied : goal.invariant-loop-applied
invariant-loop-applied l =
    l.into.items ++ flat_map applied_line (drop l.applied-index l.serial) ≡ l.initial.into.items ++ flat_map applied_line l.serial
