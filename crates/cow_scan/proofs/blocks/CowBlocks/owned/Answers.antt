use Rattle.std.proofs.Common.{refl}
use Rattle.cow_scan.proofs.CowLemmas.{seen-lent, block_read}
use Rattle.cow_scan.proofs.blocks.CowBlocks.owned.Goals as goal

pub returns : goal.returns
returns c =
    let states = c.self.inside.states.items in
    let state = c.index_mut.result.now in
    let owned = rw (← c.self.view_is) at c.requires.owned in
    let within = rw (← c.self.view_is) at c.requires.within in
    rw (← c.self.view_is)
    ((refl, λ w. seen-lent c.self.inside.width c.args.n states w owned), record { writes_back = tt; value = block_read states c.args.n state within c.index_mut.ensures.value _ c.owned.ensures.value })
