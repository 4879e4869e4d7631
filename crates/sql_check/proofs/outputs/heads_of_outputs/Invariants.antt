use Rattle.std.proofs.Common.{◌≡◌, ◌+◌, ◌++◌, drop}
use Rattle.sql_check.specs.Selects as spec
use Rattle.sql_check.proofs.outputs.heads_of_outputs.Given as goal

abbrev pub invariant-loop-place : goal.invariant-loop-place
invariant-loop-place l = l.heads ++ spec.heads_from l.names (l.place + 1) (drop l.place l.outputs) ≡ spec.heads_from l.fn.names 1 l.fn.outputs
