use Rattle.std.proofs.Common.{◌≡◌}
use Rattle.proc_lang.specs.Bodies.{variables_to}
use Rattle.proc_lang.proofs.body.variables_to.Given as goal

abbrev pub invariant-loop-number : goal.invariant-loop-number
invariant-loop-number l = l.variables ≡ variables_to l.number
