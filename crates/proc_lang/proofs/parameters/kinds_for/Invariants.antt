use Rattle.std.proofs.Common.{◌≡◌, ◌++◌, drop, map}
use Rattle.proc_lang.specs.Parameters.{kind_for}
use Rattle.proc_lang.proofs.parameters.kinds_for.Given as goal

abbrev pub invariant-loop-class : goal.invariant-loop-class
invariant-loop-class l = l.kinds.items ++ map kind_for (drop l.class-index l.classes) ≡ map kind_for l.fn.classes
