use Rattle.std.proofs.Common.{◌≡◌, map, drop}
use Rattle.sql_meaning.specs.Judged.{collected}
use Rattle.sql_meaning.specs.Selects.{group_row}
use Rattle.sql_merge.specs.Joined.{collected_behind}
use Rattle.sql_merge.specs.Seen.{pair_of}
use Rattle.sql_merge.proofs.outputs.group_rows.Given as goal

abbrev pub invariant-loop-group : goal.invariant-loop-group
invariant-loop-group l = collected_behind (map pair_of l.rows.items) (map (group_row l.outputs l.order) (drop l.group-index l.groups)) ≡ collected (map (group_row l.fn.outputs l.fn.order) l.fn.groups)
