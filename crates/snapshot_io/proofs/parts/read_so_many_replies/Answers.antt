use Rattle.std.proofs.Common.{◌≡◌, ◌++◌, ◌∷◌, [], rules}
use Rattle.snapshot_io.specs.Reading.{reply_at}
use Rattle.snapshot_io.proofs.Many.{many_more}
use Rattle.snapshot_io.proofs.parts.read_so_many_replies.Goals as goal

pub loop-left-preserved : goal.loop-left-preserved
loop-left-preserved c =
    let pushed : c.push.new.self.items ≡ c.loop-left.replies.items ++ c.in_ok-one.one ∷ [] = search rules in
    many_more reply_at c.loop-left.left c.loop-left.rest.now c.in_ok-one.behind.now c.in_ok-one.one c.loop-left.replies.items _ _ c.loop-left-test.true
    c.in_ok-one.ensures pushed c.loop-left.invariant
