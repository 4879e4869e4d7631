use Rattle.std.proofs.Common.{true, ◌≡◌}
use Rattle.volt_report.specs.Spelling.{call_text}
use Rattle.soundness.specs.Tied.{ended_line}
use Rattle.account_engine.specs.Spelling.{reply_bytes}
use Rattle.account_engine.specs.Answers.{is_given}
use Rattle.volt_cmd.proofs.PrintLemmas.{item_more}
use Rattle.volt_cmd.proofs.printing.print_calls.Goals as goal

pub loop-end-preserved : goal.loop-end-preserved
loop-end-preserved c = λ calls same given.
    item_more (ended_line reply_bytes) (λ line. is_given line.end ≡ true) call_text c.loop-end.end-index c.args.ends.now c.end-item.result _ _ _ c.loop-end-test.true c.end-item.is c.in_ok-print_call.ensures calls same given (c.loop-end.invariant calls same given)
