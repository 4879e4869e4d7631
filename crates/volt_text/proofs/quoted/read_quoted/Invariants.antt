use Rattle.std.proofs.Common.{length, ◌-◌}
use Rattle.volt_text.proofs.QuotedTexts.{IsScanned}
use Rattle.volt_text.proofs.quoted.read_quoted.Given as goal

abbrev pub invariant-loop-at : goal.invariant-loop-at
invariant-loop-at l = IsScanned l.text l.at l.is_plain

abbrev pub decreases-loop-at : goal.decreases-loop-at
decreases-loop-at l = length l.text - l.at
