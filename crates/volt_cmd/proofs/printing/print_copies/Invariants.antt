use Rattle.std.proofs.Common.{◌≡◌, ◌++◌, List, map, drop, codes}
use Rattle.std.specs.List.{AllByRecursion, flat_map}
use Rattle.volt_report.specs.Report.{CopyLine}
use Rattle.volt_report.specs.Spelling.{copy_text}
use Rattle.soundness.specs.Tied.{copy_shown}
use Rattle.volt_cmd.specs.Prints.{AreLines}
use Rattle.volt_cmd.proofs.printing.print_copies.Given as goal

-- the lines so far, and then those of the copies that are left, are all of them
abbrev pub invariant-loop-copy : goal.invariant-loop-copy
invariant-loop-copy l =
    (shown : List CopyLine) → map copy_shown shown ≡ l.copies → AllByRecursion (λ c. AreLines c.rows) shown
    → l.into.items ++ flat_map (copy_text (codes "copy")) (drop l.copy-index shown) ≡ l.initial.into.items ++ flat_map (copy_text (codes "copy")) shown
