use Rattle.std.proofs.Common.{◌≡◌, drop}
use Rattle.sql_check.specs.Selects as spec
use Rattle.sql_check.proofs.groups.group_outputs.Given as goal

abbrev pub invariant-loop-output : goal.invariant-loop-output
invariant-loop-output l = spec.group_outputs l.names l.by (drop l.output-index l.outputs) l.grouping l.notes ≡ spec.group_outputs l.fn.names l.fn.by l.fn.outputs spec.no_outputs l.fn.notes
