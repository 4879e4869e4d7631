use Rattle.table_rows.proofs.SpreadLemmas.{limit-there, slot-there, take-stored, take-is}
use Rattle.table_rows.proofs.slots.Slots.take.Goals as goal

pub new-requires : goal.new-requires
new-requires c =
    let s = c.self.inside in
    let there = rw (← c.self.view_is) at c.requires in
    limit-there s.layout s.pane s.spare c.args.place c.self.invariant there

pub take-requires : goal.take-requires
take-requires c =
    let s = c.self.inside in
    let there = rw (← c.self.view_is) at c.requires in
    slot-there s.layout s.pane s.spare c.args.place c.new.result there c.new.ensures

pub invariant_of-self-2 : goal.invariant_of-self-2
invariant_of-self-2 c =
    let s = c.self.inside in
    let there = rw (← c.self.view_is) at c.requires in
    take-stored s.layout s.pane c.take.new.self s.spare c.args.place c.new.result c.self.invariant there c.new.ensures c.in_ok-take.ensures.taken

pub returns-clause-taken : goal.returns-clause-taken
returns-clause-taken c =
    let s = c.self.inside in
    let there = rw (← c.self.view_is) at c.requires in
    rw (← c.self.view_is) (take-is s.layout s.pane c.take.new.self s.spare c.args.place c.new.result there c.new.ensures c.in_ok-take.ensures.taken)
