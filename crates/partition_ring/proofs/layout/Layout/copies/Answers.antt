use Rattle.std.proofs.Common.{◌+◌, ◌*◌, [], arith}
use Rattle.partition_ring.specs.Placement.{slots_of_part, standing, with_copies}
use Rattle.partition_ring.proofs.CopyLemmas.{slot_put}
use Rattle.partition_ring.proofs.layout.Layout.copies.Goals as goal

pub loop-copy-preserved : goal.loop-copy-preserved
loop-copy-preserved c =
    let layout = c.args.self.now in
    let whole = with_copies [] (standing layout.hosts c.args.members.now (slots_of_part layout.k c.args.part)) in
    slot_put layout.hosts c.args.members.now c.loop-copy.ordered.keys c.put_copy.new.ordered.keys whole
    (c.args.part * (layout.k + 1)) c.loop-copy.copy (layout.k + 1) (omega arith) c.in_ok-put_copy.ensures c.loop-copy.invariant
