use Rattle.std.proofs.Common.{◌≡◌, ◌++◌, drop}
use Rattle.sql_merge.proofs.gathered.copies.Given as goal

abbrev pub invariant-loop-one : goal.invariant-loop-one
invariant-loop-one l = l.copies ++ drop l.one-index l.gathered ≡ l.fn.gathered
