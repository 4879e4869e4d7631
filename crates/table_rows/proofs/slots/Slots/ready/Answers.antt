use Rattle.table_rows.proofs.SpreadLemmas.{again-limit, again-within, again-stored, again-is, added-stored, added-is}
use Rattle.table_rows.proofs.slots.Slots.ready.Goals as goal

pub invariant_of-self-in-Some : goal.invariant_of-self-in-Some
invariant_of-self-in-Some c =
    let s = c.self.inside in
    let fits = rw (← c.self.view_is) at c.requires in
    again-stored s.layout s.pane c.put.new.self s.spare c.in-Some.place c.new.result c.args.tuple.now c.self.invariant c.in-Some.is fits c.new.ensures c.in_ok-put-in-Some.ensures.put

pub invariant_of-self-in-None : goal.invariant_of-self-in-None
invariant_of-self-in-None c =
    let s = c.self.inside in
    let fits = rw (← c.self.view_is) at c.requires in
    let added = c.in_ok-add-in-None in
    added-stored s.layout s.pane c.add.new.self s.spare added.field-0 c.number-place.result c.args.tuple.now c.self.invariant c.in-None.is c.number-place.ensures.limit c.number-place.ensures.value fits added.ensures.added added.ensures.held

pub returns-in_ok-put-in-Some-clause-ready : goal.returns-in_ok-put-in-Some-clause-ready
returns-in_ok-put-in-Some-clause-ready c =
    let s = c.self.inside in
    rw (← c.self.view_is) (again-is s.layout s.pane c.put.new.self s.spare c.in-Some.place c.new.result c.args.tuple.now c.self.invariant c.in-Some.is c.new.ensures c.in_ok-put-in-Some.ensures.put)

pub returns-in_ok-add-in-None-clause-ready : goal.returns-in_ok-add-in-None-clause-ready
returns-in_ok-add-in-None-clause-ready c =
    let s = c.self.inside in
    let added = c.in_ok-add-in-None in
    rw (← c.self.view_is) (added-is s.layout s.pane c.add.new.self s.spare added.field-0 c.number-place.result c.args.tuple.now c.in-None.is c.number-place.ensures.value added.ensures.free added.ensures.added added.ensures.held)
