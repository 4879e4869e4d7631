use Rattle.std.proofs.Common.{◌≡◌, ◌++◌, flat_map, length}
use Rattle.std.specs.Int.{w64, to_be_bytes}
use Rattle.log_records.specs.Manifest.{files_bytes}
use Rattle.log_records.proofs.manifest.put_files.Given as goal

abbrev pub invariant-loop-left : goal.invariant-loop-left
invariant-loop-left l = l.out.items ++ flat_map (to_be_bytes w64) l.left ≡ l.fn.out.items ++ files_bytes l.files

abbrev pub decreases-loop-left : goal.decreases-loop-left
decreases-loop-left l = length l.left
