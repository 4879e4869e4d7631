use Rattle.std.proofs.Common.{◌≡◌, map, drop}
use Rattle.sql_meaning.specs.Groups.{value_of}
use Rattle.sql_meaning.specs.Judged.{collected}
use Rattle.sql_merge.specs.Joined.{collected_behind}
use Rattle.sql_merge.proofs.gathered.values_of.Given as goal

abbrev pub invariant-loop-one : goal.invariant-loop-one
invariant-loop-one l = collected_behind l.values.items (map value_of (drop l.one-index l.gathered)) ≡ collected (map value_of l.fn.gathered)
