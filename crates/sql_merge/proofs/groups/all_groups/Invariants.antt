use Rattle.std.proofs.Common.{◌≡◌, ◌++◌, drop}
use Rattle.std.specs.List.{flat_map}
use Rattle.sql_meaning.specs.Parts.{groups_in}
use Rattle.sql_merge.proofs.groups.all_groups.Given as goal

abbrev pub invariant-loop-part : goal.invariant-loop-part
invariant-loop-part l = l.entries.items ++ flat_map groups_in (drop l.part-index l.parts) ≡ flat_map groups_in l.fn.parts
