use Rattle.table_rows.proofs.SpreadLemmas.{limit-there, within-there, put-stored, put-is}
use Rattle.table_rows.proofs.slots.Slots.put.Goals as goal

pub new-requires : goal.new-requires
new-requires c =
    let s = c.self.inside in
    let there = rw (← c.self.view_is) at c.requires.held in
    limit-there s.layout s.pane s.spare c.args.place c.self.invariant there

pub put-requires-clause-place : goal.put-requires-clause-place
put-requires-clause-place c =
    let s = c.self.inside in
    let there = rw (← c.self.view_is) at c.requires.held in
    within-there s.layout s.pane s.spare c.args.place c.new.result there c.new.ensures

pub invariant_of-self-2 : goal.invariant_of-self-2
invariant_of-self-2 c =
    let s = c.self.inside in
    let there = rw (← c.self.view_is) at c.requires.held in
    let fits = rw (← c.self.view_is) at c.requires.tuple in
    put-stored s.layout s.pane c.put.new.self s.spare c.args.place c.new.result c.args.tuple.now c.self.invariant there fits c.new.ensures c.in_ok-put.ensures.put

pub returns-clause-put : goal.returns-clause-put
returns-clause-put c =
    let s = c.self.inside in
    let there = rw (← c.self.view_is) at c.requires.held in
    rw (← c.self.view_is) (put-is s.layout s.pane c.put.new.self s.spare c.args.place c.new.result c.args.tuple.now there c.new.ensures c.in_ok-put.ensures.put)
