use Rattle.std.proofs.Common.{arith}
use Rattle.std.proofs.lemmas.Grind.{common_steps}
use Rattle.account_engine.proofs.Prints.{text-nothing, text-integer}
use Rattle.account_engine.proofs.reply.Answer.print.Goals as goal

pub returns-in_ok-extend_from_slice-in-Nothing : goal.returns-in_ok-extend_from_slice-in-Nothing
returns-in_ok-extend_from_slice-in-Nothing c = rw (c.in-Nothing.is, text-nothing) (grind (arith, common_steps))

pub returns-in_ok-push-in-Integer : goal.returns-in_ok-push-in-Integer
returns-in_ok-push-in-Integer c = rw (c.in-Integer.is, text-integer c.in-Integer.integer) (grind (arith, common_steps))
