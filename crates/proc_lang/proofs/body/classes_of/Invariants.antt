use Rattle.std.proofs.Common.{◌≡◌, ◌++◌, drop}
use Rattle.proc_lang.specs.Bodies.{classes_of}
use Rattle.proc_lang.proofs.body.classes_of.Given as goal

abbrev pub invariant-loop-head : goal.invariant-loop-head
invariant-loop-head l = l.classes ++ classes_of (drop l.head-index l.heads) ≡ classes_of l.fn.heads
