use Rattle.std.proofs.Common.{◌≡◌, ◌++◌, drop}
use Rattle.sql_meaning.specs.Parts as joining
use Rattle.sql_merge.proofs.gathered.all_joined.Given as goal

abbrev pub invariant-loop-place : goal.invariant-loop-place
invariant-loop-place l = l.all ++ joining.all_joined (drop l.place l.aggregates) (drop l.place l.a) (drop l.place l.b) ≡ joining.all_joined l.fn.aggregates l.fn.a l.fn.b
