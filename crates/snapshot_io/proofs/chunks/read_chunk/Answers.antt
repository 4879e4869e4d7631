use Rattle.std.proofs.Common.{arith}
use Rattle.snapshot_io.proofs.ChunkLemmas.{rest_shorter}
use Rattle.snapshot_io.proofs.chunks.read_chunk.Goals as goal

pub slice_bounds-of-count : goal.slice_bounds-of-count
slice_bounds-of-count c =
    let less = rest_shorter c.args.bytes.now c.in_ok-rest.rest.now (λ i. omega (arith, c.type_inv.bytes i)) c.in_ok-rest.ensures in
    omega arith
