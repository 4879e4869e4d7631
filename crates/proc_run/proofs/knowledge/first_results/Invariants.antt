use Rattle.std.proofs.Common.{◌≡◌, ◌++◌, [], map, drop}
use Rattle.proc_run.proofs.knowledge.first_results.Given as goal

abbrev pub invariant-loop-classes : goal.invariant-loop-classes
invariant-loop-classes l = l.made.items ++ map (λ classes. []) (drop l._classes-index l.results) ≡ map (λ classes. []) l.fn.results
