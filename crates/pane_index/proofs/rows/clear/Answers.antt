use Rattle.pane_index.proofs.SlotLemmas.{block_of_place}
use Rattle.pane_index.proofs.rows.clear.Goals as goal

pub own-requires : goal.own-requires
own-requires g c = block_of_place c.args.cow.now.width c.args.cow.now.blocks c.args.p c.requires.are_blocks c.requires.place
