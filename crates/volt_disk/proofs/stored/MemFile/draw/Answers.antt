use Rattle.std.proofs.Common.{inl, arith}
use Rattle.volt_disk.proofs.UndoLemmas.{AreWithin-longer}
use Rattle.volt_disk.specs.contracts.stored.MemFile.{the_view}
use Rattle.volt_disk.proofs.DrawLemmas.{drawn-is_torn}
use Rattle.volt_disk.proofs.stored.MemFile.draw.Goals as goal

pub scatter_all-x-requires : goal.scatter_all-x-requires
scatter_all-x-requires c =
    let small = c.self.inside.bytes.small in
    AreWithin-longer _ _ c.self.inside.replaced.items (omega arith) c.self.invariant.2

pub invariant_of-self : goal.invariant_of-self
invariant_of-self c =
    let torn = drawn-is_torn c.args.x (the_view c.self.inside).file c.self.invariant.0 c.self.invariant.1 in
    let low = torn.no_shorter in
    let high = torn.no_longer in
    rw (c.clear.ensures.items, c.scatter_all-x.ensures.bytes, c.cut_by_draw-x.ensures.bytes, c.cut_by_draw-x.ensures.state) (low, high, tt)

pub returns-clause-image : goal.returns-clause-image
returns-clause-image c =
    rw (← c.self.view_is) (inl (drawn-is_torn c.args.x (the_view c.self.inside).file c.self.invariant.0 c.self.invariant.1))
