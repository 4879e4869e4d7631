use Rattle.std.proofs.Common.{◌≡◌}
use Rattle.std.specs.Int.{w64}
use Rattle.volt_base.specs.Reading.{number_at}
use Rattle.snapshot_io.specs.Reading.{many_at}
use Rattle.snapshot_io.proofs.Many.{put_before}
use Rattle.log_records.proofs.manifest.read_so_many_files.Given as goal

abbrev pub invariant-loop-left : goal.invariant-loop-left
invariant-loop-left l = many_at (number_at w64) l.count l.bytes ≡ put_before l.files.items (many_at (number_at w64) l.left l.rest)

abbrev pub decreases-loop-left : goal.decreases-loop-left
decreases-loop-left l = l.left
