use Rattle.std.proofs.Common.{◌≡◌, ◌++◌}
use Rattle.sql_meaning.specs.Programs.{nulls}
use Rattle.proc_run.proofs.knowledge.add_nulls.Given as goal

abbrev pub invariant-loop-number : goal.invariant-loop-number
invariant-loop-number l = l.values.items ≡ l.fn.values.items ++ nulls l._number
