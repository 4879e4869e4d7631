use Rattle.std.proofs.Common.{◌≡◌, ◌++◌, drop}
use Rattle.sql_check.specs.Selects as spec
use Rattle.sql_check.proofs.outputs.row_outputs.Given as goal

abbrev pub invariant-loop-output : goal.invariant-loop-output
invariant-loop-output l = record {
  noted : (spec.row_outputs l.names (drop l.output-index l.outputs) l.notes).0 ≡ (spec.row_outputs l.fn.names l.fn.outputs l.fn.notes).0;
  made : l.values ++ (spec.row_outputs l.names (drop l.output-index l.outputs) l.notes).1 ≡ (spec.row_outputs l.fn.names l.fn.outputs l.fn.notes).1;
}
