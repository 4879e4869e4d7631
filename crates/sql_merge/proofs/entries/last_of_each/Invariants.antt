use Rattle.std.proofs.Common.{◌≡◌, ◌++◌, drop}
use Rattle.sql_meaning.specs.Maps.{latest as later}
use Rattle.sql_merge.specs.Joined.{joined_from, joined_sorted}
use Rattle.sql_merge.proofs.entries.last_of_each.Given as goal

abbrev pub invariant-loop-next : goal.invariant-loop-next
invariant-loop-next g l = l.kept.done.items ++ joined_from g.K.Ord.cmp later l.kept.last (drop l.next-index l.rest) ≡ joined_sorted g.K.Ord.cmp later l.fn.sorted
