use Rattle.std.proofs.Common.{◌/◌, ◌<◌, length, sym, subst, arith}
use Rattle.cow_scan.specs.Cow.{Cow}
use Rattle.pane_index.specs.Blocks.{all_slots}
use Rattle.pane_index.proofs.SlotLemmas.{block_of_place, within_from_held}
use Rattle.pane_index.proofs.rows.shift.Goals as goal

pub own-requires : goal.own-requires
own-requires g c =
    let cow = c.args.cow.now in
    let within = within_from_held (all_slots cow.blocks) c.args.from c.requires.from_place in
    block_of_place cow.width cow.blocks c.args.to c.requires.are_blocks (omega arith)

pub own-requires-2 : goal.own-requires-2
own-requires-2 g c =
    let cow = c.args.cow.now in
    let within = within_from_held (all_slots cow.blocks) c.args.from c.requires.from_place in
    let block = block_of_place cow.width cow.blocks c.args.from c.requires.are_blocks within in
    subst (λ (x : Cow). c.args.from / 64 < length x.blocks) (sym c.in_ok-own.ensures.owned) block
