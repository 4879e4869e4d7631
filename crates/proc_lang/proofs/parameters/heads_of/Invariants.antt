use Rattle.std.proofs.Common.{◌≡◌, ◌++◌, drop}
use Rattle.proc_lang.specs.Parameters.{heads_of}
use Rattle.proc_lang.proofs.parameters.heads_of.Given as goal

abbrev pub invariant-loop-parameter : goal.invariant-loop-parameter
invariant-loop-parameter l = l.heads ++ heads_of (drop l.parameter-index l.parameters) ≡ heads_of l.fn.parameters
