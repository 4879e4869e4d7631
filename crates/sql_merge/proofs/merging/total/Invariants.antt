use Rattle.std.proofs.Common.{◌≡◌, ◌+◌, fold, drop}
use Rattle.std.specs.List.{sum_by}
use Rattle.sql_meaning.specs.Parts.{count_in}
use Rattle.sql_merge.proofs.merging.total.Given as goal

abbrev pub invariant-loop-part : goal.invariant-loop-part
invariant-loop-part l = fold (λ sum part. sum + count_in part) l.sum (drop l.part-index l.parts) ≡ sum_by count_in l.fn.parts
