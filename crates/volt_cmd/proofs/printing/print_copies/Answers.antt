use Rattle.std.proofs.Common.{codes}
use Rattle.volt_report.specs.Spelling.{copy_text}
use Rattle.soundness.specs.Tied.{copy_shown}
use Rattle.volt_cmd.specs.Prints.{AreLines}
use Rattle.volt_cmd.proofs.PrintLemmas.{item_more}
use Rattle.volt_cmd.proofs.printing.print_copies.Goals as goal

pub loop-copy-preserved : goal.loop-copy-preserved
loop-copy-preserved c = λ shown same lines.
    item_more copy_shown (λ s. AreLines s.rows) (copy_text (codes "copy")) c.loop-copy.copy-index c.args.copies.now c.copy-item.result _ _ _ c.loop-copy-test.true c.copy-item.is c.in_ok-print_copy.ensures shown same lines (c.loop-copy.invariant shown same lines)
