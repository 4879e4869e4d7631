use Rattle.std.proofs.Common.{◌≡◌, ◌++◌, map, drop}
use Rattle.sql_merge.specs.Seen.{pair_of}
use Rattle.sql_merge.proofs.rows.add_rows.Given as goal

abbrev pub invariant-loop-row : goal.invariant-loop-row
invariant-loop-row l = l.entries.items ++ map pair_of (drop l.row-index l.rows) ≡ l.fn.entries.items ++ map pair_of l.fn.rows
