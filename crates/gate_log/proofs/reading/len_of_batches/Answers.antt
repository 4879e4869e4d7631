use Rattle.std.proofs.Common.{sym, arith}
use Rattle.gate_log.proofs.Batches.{first_batch-shorter}
use Rattle.gate_log.proofs.ReadBatches.{IsRead-more, IsRead-all, IsRead-len, IsRead-whole}
use Rattle.gate_log.proofs.reading.len_of_batches.Goals as goal

pub loop-behind-smaller : goal.loop-behind-smaller
loop-behind-smaller c = first_batch-shorter c.loop-behind.rest.now _ (sym c.in-Some.ensures)

pub loop-behind-preserved : goal.loop-behind-preserved
loop-behind-preserved c =
    IsRead-more c.args.bytes.now c.loop-behind.rest.now _ c.in-Some.behind.now (λ i. omega (arith, c.type_inv.bytes i)) c.loop-behind.invariant (sym c.in-Some.ensures)

pub returns : goal.returns
returns c =
    let read = c.loop-behind.invariant in
    let none = sym c.in_default.ensures in
    record {
      within = omega arith;
      whole = IsRead-whole c.args.bytes.now c.loop-behind.rest.now read none;
      len = IsRead-len c.args.bytes.now c.loop-behind.rest.now read none;
      fits = rw (IsRead-all c.args.bytes.now c.loop-behind.rest.now read none) read.2;
    }
