use Rattle.std.proofs.Common.{◌≡◌, ◌++◌, drop, map}
use Rattle.proc_lang.specs.Bodies.{classes_of}
use Rattle.proc_lang.proofs.body.result_classes.Given as goal

abbrev pub invariant-loop-made : goal.invariant-loop-made
invariant-loop-made l = l.classes ++ map (λ made. classes_of made.1) (drop l.made-index l.results) ≡ map (λ made. classes_of made.1) l.fn.results
