use Rattle.std.proofs.Common.{arith}
use Rattle.pane_index.proofs.SlotLemmas.{first_free_in, held_more, block_got}
use Rattle.pane_index.proofs.rows.first_free.Goals as goal

pub returns-in-Some : goal.returns-in-Some
returns-in-Some c =
    let cow = c.args.cow.now in
    let n = c.loop-n.n in
    let block = c.block.result.now in
    first_free_in cow.width cow.blocks c.requires.are_blocks n (omega arith) block (block_got cow.blocks n block c.block.ensures) c.args.from c.args.to c.in-Some.i _
    c.loop-n.invariant (omega arith) (omega arith) c.in-Some.ensures (omega arith)

pub loop-n-preserved : goal.loop-n-preserved
loop-n-preserved c =
    let cow = c.args.cow.now in
    let n = c.loop-n.n in
    let block = c.block.result.now in
    held_more cow.width cow.blocks c.requires.are_blocks n (omega arith) block (block_got cow.blocks n block c.block.ensures) c.args.from c.loop-n.invariant c.in_default.ensures
