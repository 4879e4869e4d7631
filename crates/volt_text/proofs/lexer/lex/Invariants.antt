use Rattle.std.proofs.Common.{◌-◌, length}
use Rattle.volt_text.proofs.Cuts.{IsRead}
use Rattle.volt_text.proofs.lexer.lex.Given as goal

abbrev pub invariant-loop-at : goal.invariant-loop-at
invariant-loop-at l = IsRead l.bytes l.at l.tokens.items

abbrev pub decreases-loop-at : goal.decreases-loop-at
decreases-loop-at l = length l.bytes - l.at
