use Rattle.std.proofs.Common.{◌≡◌, ◌++◌, drop, map}
use Rattle.proc_lang.specs.Steps as spec
use Rattle.proc_lang.proofs.steps.+step.Given as goal

abbrev pub invariant-steps-loop-text : goal.invariant-steps-loop-text
invariant-steps-loop-text l = record {
  known : (spec.all_made (map (spec.made l.catalog l.single) (drop l.text-index l.texts)) l.draft).0 ≡ (spec.all_made (map (spec.made l.fn.catalog l.fn.single) l.fn.texts) l.fn.draft).0;
  made : l.made ++ (spec.all_made (map (spec.made l.catalog l.single) (drop l.text-index l.texts)) l.draft).1 ≡ (spec.all_made (map (spec.made l.fn.catalog l.fn.single) l.fn.texts) l.fn.draft).1;
}
