use Rattle.std.proofs.Common.{◌+◌, ◌-◌, ◌*◌, arith}
use Rattle.pane_index.specs.Blocks.{all_slots}
use Rattle.pane_index.proofs.CountLemmas.{IsFree-part}
use Rattle.pane_index.proofs.SlotLemmas.{last_held_in, free_less, block_got}
use Rattle.pane_index.proofs.rows.last_held.Goals as goal

pub returns-in-Some : goal.returns-in-Some
returns-in-Some c =
    let cow = c.args.cow.now in
    let to = c.args.to in
    let n = c.loop-n.n - 1 in
    let block = c.block.result.now in
    let behind = IsFree-part (all_slots cow.blocks) (64 * c.loop-n.n) (64 * (n + 1)) (64 * to) (64 * to) c.loop-n.invariant (omega arith) (omega arith) in
    last_held_in cow.width cow.blocks c.requires.are_blocks n (omega arith) block (block_got cow.blocks n block c.block.ensures) to c.in-Some.i _
    behind (omega arith) c.in-Some.ensures (omega arith)

pub loop-n-preserved : goal.loop-n-preserved
loop-n-preserved c =
    let cow = c.args.cow.now in
    let to = c.args.to in
    let n = c.loop-n.n - 1 in
    let block = c.block.result.now in
    let behind = IsFree-part (all_slots cow.blocks) (64 * c.loop-n.n) (64 * (n + 1)) (64 * to) (64 * to) c.loop-n.invariant (omega arith) (omega arith) in
    free_less cow.width cow.blocks c.requires.are_blocks n (omega arith) block (block_got cow.blocks n block c.block.ensures) to behind c.in_default.ensures
