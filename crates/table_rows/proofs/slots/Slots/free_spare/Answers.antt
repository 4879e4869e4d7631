use Rattle.std.proofs.Common.{ap, sym}
use Rattle.table_rows.proofs.SpreadLemmas.{none-ready, again-limit, spare-there, freed-stored, freed-is}
use Rattle.table_rows.proofs.slots.Slots.free_spare.Goals as goal

pub new-requires : goal.new-requires
new-requires c = let s = c.self.inside in again-limit s.layout s.pane s.spare c.in-Some.place c.self.invariant c.in-Some.is

pub take-requires : goal.take-requires
take-requires c = let s = c.self.inside in spare-there s.layout s.pane s.spare c.in-Some.place c.new.result c.self.invariant c.in-Some.is c.new.ensures

pub invariant_of-self-2 : goal.invariant_of-self-2
invariant_of-self-2 c = let s = c.self.inside in freed-stored s.layout s.pane c.take.new.self s.spare c.in-Some.place c.new.result c.self.invariant c.new.ensures c.in_ok-take.ensures.taken

pub returns-clause-freed : goal.returns-clause-freed
returns-clause-freed c =
    let s = c.self.inside in
    rw (← c.self.view_is) (freed-is s.layout s.pane c.take.new.self s.spare c.in-Some.place c.new.result c.in-Some.is c.new.ensures c.in_ok-take.ensures.taken)
