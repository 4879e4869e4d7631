use Rattle.std.proofs.Common.{◌≡◌, ◌++◌, drop}
use Rattle.proc_run.proofs.shared.copied.Given as goal

abbrev pub invariant-loop-row : goal.invariant-loop-row
invariant-loop-row l = l.copies ++ drop l.row-index l.rows ≡ l.fn.rows
