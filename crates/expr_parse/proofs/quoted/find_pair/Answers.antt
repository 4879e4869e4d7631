use Rattle.std.proofs.Common.{arith}
use Rattle.expr_parse.proofs.Halves.{none}
use Rattle.expr_parse.proofs.quoted.find_pair.Goals as goal

pub returns : goal.returns
returns c = none c.args.text.now c.loop-at.at (omega arith) c.loop-at.invariant.so_far
