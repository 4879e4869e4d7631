use Rattle.std.proofs.Common.{◌≡◌, length}
use Rattle.snapshot_io.specs.Chunks.{AreBytes}
use Rattle.snapshot_io.specs.Reading.{chunks_of}
use Rattle.snapshot_io.proofs.ChunkLemmas.{chunks_before}
use Rattle.snapshot_io.proofs.chunks.read_chunks.Given as goal

abbrev pub invariant-loop-rest : goal.invariant-loop-rest
invariant-loop-rest l = record {
  are_bytes : AreBytes l.rest;
  read : chunks_of l.bytes ≡ chunks_before l.chunks.items (chunks_of l.rest);
}

abbrev pub decreases-loop-rest : goal.decreases-loop-rest
decreases-loop-rest l = length l.rest
