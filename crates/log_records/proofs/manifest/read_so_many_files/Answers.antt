use Rattle.std.proofs.Common.{◌≡◌, ◌++◌, ◌∷◌, [], rules}
use Rattle.std.specs.Int.{w64}
use Rattle.volt_base.specs.Reading.{number_at}
use Rattle.snapshot_io.proofs.Many.{many_more}
use Rattle.log_records.proofs.manifest.read_so_many_files.Goals as goal

pub loop-left-preserved : goal.loop-left-preserved
loop-left-preserved c =
    let pushed : c.push.new.self.items ≡ c.loop-left.files.items ++ c.in_ok-file.file ∷ [] = search rules in
    many_more (number_at w64) c.loop-left.left c.loop-left.rest.now c.in_ok-file.behind.now c.in_ok-file.file c.loop-left.files.items _ _ c.loop-left-test.true
    c.in_ok-file.ensures pushed c.loop-left.invariant
