use Rattle.std.proofs.Common.{◌≡◌, ◌++◌, drop}
use Rattle.proc_lang.specs.Parameters.{kinds_of}
use Rattle.proc_lang.proofs.parameters.kinds_of.Given as goal

abbrev pub invariant-loop-parameter : goal.invariant-loop-parameter
invariant-loop-parameter l = l.kinds.items ++ kinds_of (drop l.parameter-index l.parameters) ≡ kinds_of l.fn.parameters
