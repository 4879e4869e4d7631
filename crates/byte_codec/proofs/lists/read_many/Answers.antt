use Rattle.std.proofs.Common.{◌≡◌, ◌++◌, ◌∷◌, [], rules}
use Rattle.byte_codec.proofs.ManyReaders.{many_more}
use Rattle.byte_codec.proofs.lists.read_many.Goals as goal

pub loop-left-preserved : goal.loop-left-preserved
loop-left-preserved g c =
    let pushed : c.push.new.self.items ≡ c.loop-left.items.items ++ c.in_ok-one.one ∷ [] = search rules in
    many_more g.F.Form.read_at c.loop-left.left c.loop-left.rest.now c.in_ok-one.behind.now c.in_ok-one.one c.loop-left.items.items _ _ c.loop-left-test.true
    c.in_ok-one.ensures pushed c.loop-left.invariant
