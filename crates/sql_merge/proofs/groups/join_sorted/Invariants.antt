use Rattle.std.proofs.Common.{◌≡◌, ◌++◌, drop}
use Rattle.sql_plan.specs.Rows.{row_cmp}
use Rattle.sql_meaning.specs.Parts.{all_joined}
use Rattle.sql_merge.specs.Joined.{joined_from, joined_sorted}
use Rattle.sql_merge.proofs.groups.join_sorted.Given as goal

abbrev pub invariant-loop-next : goal.invariant-loop-next
invariant-loop-next l = l.groups.done.items ++ joined_from row_cmp (all_joined l.aggregates) l.groups.last (drop l.next-index l.rest) ≡ joined_sorted row_cmp (all_joined l.fn.aggregates) l.fn.sorted
