use Rattle.std.proofs.Common.{◌≡◌, ◌++◌, drop}
use Rattle.proc_lang.specs.Values as spec
use Rattle.proc_lang.proofs.values.values.Given as goal

abbrev pub invariant-loop-e : goal.invariant-loop-e
invariant-loop-e l = record {
  noted : (spec.values_in l.names (drop l.e-index l.expressions) l.notes).0 ≡ (spec.values_in l.fn.names l.fn.expressions l.fn.notes).0;
  made : l.values ++ (spec.values_in l.names (drop l.e-index l.expressions) l.notes).1 ≡ (spec.values_in l.fn.names l.fn.expressions l.fn.notes).1;
}
