use Rattle.std.proofs.Common.{◌≡◌, ◌++◌, ◌∷◌, [], true, false, ap, ◌∙◌, append-nil, Some, List, ℕ, rules}
use Rattle.snapshot_io.specs.Base.{end_mark}
use Rattle.snapshot_io.specs.Reading.{behind_these, none_left}
use Rattle.snapshot_io.proofs.ChunkLemmas.{chunks_before, chunk_exact, chunks_next, chunks_end, chunk_shorter, before_more}
use Rattle.snapshot_io.proofs.chunks.read_chunks.Goals as goal

pub loop-rest-smaller : goal.loop-rest-smaller
loop-rest-smaller c = chunk_shorter c.loop-rest.rest.now (c.in_ok-chunk.chunk, c.in_ok-chunk.behind.now) c.loop-rest.invariant.are_bytes c.in_ok-chunk.ensures

pub loop-rest-preserved : goal.loop-rest-preserved
loop-rest-preserved c =
    let rest = c.loop-rest.rest.now in
    let going : none_left (behind_these end_mark rest) ≡ false = search rules in
    let pushed : c.push.new.self.items ≡ c.loop-rest.chunks.items ++ c.in_ok-chunk.chunk ∷ [] = search rules in
    let next = chunks_next rest c.in_ok-chunk.chunk c.in_ok-chunk.behind.now c.loop-rest.invariant.are_bytes going c.in_ok-chunk.ensures in
    record {
      are_bytes = (chunk_exact.takes rest (c.in_ok-chunk.chunk, c.in_ok-chunk.behind.now) c.loop-rest.invariant.are_bytes c.in_ok-chunk.ensures).0.rest_fits;
      read = before_more c.loop-rest.chunks.items c.push.new.self.items c.in_ok-chunk.chunk _ _ pushed
          (c.loop-rest.invariant.read ∙ ap (chunks_before c.loop-rest.chunks.items) next);
    }

pub returns : goal.returns
returns c =
    let ended : none_left (behind_these end_mark c.loop-rest.rest.now) ≡ true = search rules in
    c.loop-rest.invariant.read ∙ ap (chunks_before c.loop-rest.chunks.items) (chunks_end c.loop-rest.rest.now ended) ∙ ap (λ (cs : List (List ℕ)). Some cs) (append-nil c.loop-rest.chunks.items)
