use Rattle.std.proofs.Common.{◌/◌, None, refl}
use Rattle.std.proofs.lemmas.List.{length-set}
use Rattle.pane_index.proofs.SlotLemmas.{block_of_place, written-slots, written-are}
use Rattle.pane_index.proofs.rows.clear_owned.Goals as goal

pub write-requires : goal.write-requires
write-requires g c = block_of_place c.args.cow.now.width c.args.cow.now.blocks c.args.p c.requires.are_blocks c.requires.place

pub returns-clause-cleared : goal.returns-clause-cleared
returns-clause-cleared g c =
    let cow = c.args.cow.now in
    written-slots cow.width cow.blocks c.args.p c.requires.are_blocks c.requires.place c.in-Ok.block.now c.in-Ok.ensures.value c.clear.new.self None c.clear.ensures

pub returns-clause-shape : goal.returns-clause-shape
returns-clause-shape g c =
    let cow = c.args.cow.now in
    record {
      width = refl;
      len = length-set cow.blocks (c.args.p / 64) c.clear.new.self;
      are_blocks = written-are cow.width cow.blocks c.args.p c.requires.are_blocks c.requires.place c.in-Ok.block.now c.in-Ok.ensures.value c.clear.new.self None c.clear.ensures;
    }
