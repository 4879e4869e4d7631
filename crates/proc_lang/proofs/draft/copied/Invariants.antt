use Rattle.std.proofs.Common.{◌≡◌, ◌++◌, drop}
use Rattle.proc_lang.proofs.draft.copied.Given as goal

abbrev pub invariant-loop-head : goal.invariant-loop-head
invariant-loop-head l = l.copy ++ drop l.head-index l.heads ≡ l.fn.heads
