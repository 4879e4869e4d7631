use Rattle.std.proofs.Common.{◌/◌, Some, refl, ◌∙◌, sym}
use Rattle.std.proofs.lemmas.List.{length-set}
use Rattle.pane_index.proofs.SlotLemmas.{block_of_place, block_width, written-slots, written-are}
use Rattle.pane_index.proofs.rows.put_owned.Goals as goal

pub write-requires : goal.write-requires
write-requires g c = block_of_place c.args.cow.now.width c.args.cow.now.blocks c.args.p c.requires.are_blocks c.requires.place

pub put-requires-clause-width : goal.put-requires-clause-width
put-requires-clause-width g c =
    let cow = c.args.cow.now in
    c.requires.width ∙ sym (block_width cow.width cow.blocks c.args.p c.requires.are_blocks c.requires.place c.in-Ok.block.now c.in-Ok.ensures.value)

pub returns-clause-filled : goal.returns-clause-filled
returns-clause-filled g c =
    let cow = c.args.cow.now in
    written-slots cow.width cow.blocks c.args.p c.requires.are_blocks c.requires.place c.in-Ok.block.now c.in-Ok.ensures.value c.put.new.self (Some c.args.tuple.now) c.put.ensures

pub returns-clause-shape : goal.returns-clause-shape
returns-clause-shape g c =
    let cow = c.args.cow.now in
    record {
      width = refl;
      len = length-set cow.blocks (c.args.p / 64) c.put.new.self;
      are_blocks = written-are cow.width cow.blocks c.args.p c.requires.are_blocks c.requires.place c.in-Ok.block.now c.in-Ok.ensures.value c.put.new.self (Some c.args.tuple.now) c.put.ensures;
    }
