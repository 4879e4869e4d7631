use Rattle.std.proofs.Common.{◌+◌, ◌*◌, ◌%◌, length, arith}
use Rattle.pane_index.specs.Blocks.{all_slots}
use Rattle.pane_index.proofs.CountLemmas.{IsFree-part}
use Rattle.pane_index.proofs.SlotLemmas.{length-all_slots, next_held_in, free_more, block_got}
use Rattle.pane_index.proofs.rows.next_held.Goals as goal

pub returns-in-Some : goal.returns-in-Some
returns-in-Some c =
    let cow = c.args.cow.now in
    let n = c.loop-n.n in
    let block = c.block.result.now in
    next_held_in cow.width cow.blocks c.requires.are_blocks n (omega arith) block (block_got cow.blocks n block c.block.ensures) c.args.from (c.loop-n.at % 64) c.in-Some.i _
    c.loop-n.invariant.free c.loop-n.invariant.not_before c.in-Some.ensures (omega arith)

pub loop-n-preserved : goal.loop-n-preserved
loop-n-preserved c =
    let cow = c.args.cow.now in
    let n = c.loop-n.n in
    let block = c.block.result.now in
    let free = free_more cow.width cow.blocks c.requires.are_blocks n (omega arith) block (block_got cow.blocks n block c.block.ensures) c.args.from (c.loop-n.at % 64) c.loop-n.invariant.free c.in_default.ensures in
    record {
      free = IsFree-part (all_slots cow.blocks) c.args.from c.args.from (64 * (n + 1) + 0) (64 * (n + 1)) free (omega arith) (omega arith);
      not_before = omega arith;
    }

pub returns : goal.returns
returns c =
    let cow = c.args.cow.now in
    let len = length-all_slots cow.width cow.blocks c.requires.are_blocks in
    IsFree-part (all_slots cow.blocks) c.args.from c.args.from (length (all_slots cow.blocks)) (64 * c.loop-n.n + c.loop-n.at % 64) c.loop-n.invariant.free (omega arith) (omega arith)
