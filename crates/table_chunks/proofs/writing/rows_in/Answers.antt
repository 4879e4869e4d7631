use Rattle.std.proofs.Common.{◌<◌, length, arith}
use Rattle.table_chunks.proofs.ChunkLemmas.{slot_given, rows_more}
use Rattle.table_chunks.proofs.writing.rows_in.Goals as goal

pub push_row-requires : goal.push_row-requires
push_row-requires c = slot_given c.args.layout.now c.args.block.now.slots c.loop-i.i _ c.requires c.get.ensures.tuple

pub loop-i-preserved : goal.loop-i-preserved
loop-i-preserved c =
    let slots = c.args.block.now.slots in
    let within : c.loop-i.i < length slots = let whole = c.width-width.ensures.places in let test = c.loop-i-test.true in omega arith in
    record { rows = rows_more c.args.layout.now slots c.loop-i.i _ _ _ within c.get.ensures.tuple c.loop-i.invariant.rows c.in_ok-push_row.ensures }
