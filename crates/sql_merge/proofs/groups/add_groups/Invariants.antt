use Rattle.std.proofs.Common.{◌≡◌, ◌++◌, map, drop}
use Rattle.sql_merge.proofs.groups.add_groups.Given as goal

abbrev pub invariant-loop-group : goal.invariant-loop-group
invariant-loop-group l = l.entries.items ++ map (λ g. (g.key, g.gathered)) (drop l.group-index l.groups) ≡ l.fn.entries.items ++ map (λ g. (g.key, g.gathered)) l.fn.groups
