use Rattle.std.proofs.Common.{◌/◌, ◌%◌, sym, ◌∙◌, arith}
use Rattle.std.proofs.lemmas.Option.{IfSome_then}
use Rattle.pane_index.proofs.SlotLemmas.{slot_at-all_slots, slot_at-behind, block_is, block_got}
use Rattle.pane_index.proofs.rows.get.Goals as goal

pub returns-then-n-len-clause-tuple : goal.returns-then-n-len-clause-tuple
returns-then-n-len-clause-tuple c =
    let cow = c.args.cow.now in
    let p = c.args.p in
    let block = c.block.result.now in
    c.get.ensures.tuple
    ∙ sym (slot_at-all_slots cow.width cow.blocks (p / 64) (p % 64) p block c.requires (omega arith) (omega arith) (omega arith) (block_got cow.blocks (p / 64) block c.block.ensures))

pub returns-then-n-len-clause-width : goal.returns-then-n-len-clause-width
returns-then-n-len-clause-width c =
    let cow = c.args.cow.now in
    let n = c.args.p / 64 in
    let block = c.block.result.now in
    let is = block_is cow.width cow.blocks c.requires n (omega arith) block (block_got cow.blocks n block c.block.ensures) in
    IfSome_then c.get.result c.get.ensures.width (λ t len. len ∙ is.width_is)

pub returns-else-n-len-clause-tuple : goal.returns-else-n-len-clause-tuple
returns-else-n-len-clause-tuple c =
    let cow = c.args.cow.now in
    sym (slot_at-behind cow.width cow.blocks c.args.p c.requires (omega arith))
