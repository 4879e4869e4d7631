use Rattle.table_rows.proofs.SpreadLemmas.{limit-there, read-row, read-fits, read-none}
use Rattle.table_rows.proofs.slots.Slots.tuple.Goals as goal

pub new-requires : goal.new-requires
new-requires c =
    let s = c.self.inside in
    let there = rw (← c.self.view_is) at c.requires in
    limit-there s.layout s.pane s.spare c.args.place c.self.invariant there

pub unreachable-requires : goal.unreachable-requires
unreachable-requires c =
    let s = c.self.inside in
    let there = rw (← c.self.view_is) at c.requires in
    read-none s.layout s.pane s.spare c.args.place c.new.result c.get.result there c.new.ensures c.get.ensures.tuple c.in-None.is

pub returns-clause-row : goal.returns-clause-row
returns-clause-row c =
    let s = c.self.inside in
    let there = rw (← c.self.view_is) at c.requires in
    rw (← c.self.view_is) (read-row s.layout s.pane s.spare c.args.place c.new.result c.get.result c.in-Some.tuple there c.new.ensures c.get.ensures.tuple c.in-Some.is)
