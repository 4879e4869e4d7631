use Rattle.std.proofs.Common.{◌≡◌, ◌++◌, true, List, map, drop}
use Rattle.std.specs.List.{AllByRecursion, flat_map}
use Rattle.volt_report.specs.Report.{CallLine}
use Rattle.volt_report.specs.Spelling.{call_text}
use Rattle.soundness.specs.Tied.{ended_line}
use Rattle.account_engine.specs.Spelling.{reply_bytes}
use Rattle.account_engine.specs.Answers.{is_given}
use Rattle.volt_cmd.proofs.printing.print_calls.Given as goal

-- the lines so far, and then those of the calls that are left, are all of them
abbrev pub invariant-loop-end : goal.invariant-loop-end
invariant-loop-end l =
    (calls : List CallLine) → map (ended_line reply_bytes) calls ≡ l.ends → AllByRecursion (λ line. is_given line.end ≡ true) calls
    → l.into.items ++ flat_map call_text (drop l.end-index calls) ≡ l.initial.into.items ++ flat_map call_text calls
