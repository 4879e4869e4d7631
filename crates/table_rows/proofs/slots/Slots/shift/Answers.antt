use Rattle.table_rows.proofs.MoveLemmas.{from-limit, from-there, to-free, shifted-stored, shifted-is}
use Rattle.table_rows.proofs.slots.Slots.shift.Goals as goal

pub new-requires : goal.new-requires
new-requires c =
    let s = c.self.inside in
    let can = rw (← c.self.view_is) at c.requires.can in
    from-limit s.layout s.pane s.spare c.args.from c.args.to c.self.invariant can

pub shift-requires-clause-held : goal.shift-requires-clause-held
shift-requires-clause-held c =
    let s = c.self.inside in
    let can = rw (← c.self.view_is) at c.requires.can in
    from-there s.layout s.pane s.spare c.args.from c.args.to c.new.result can c.new.ensures

pub shift-requires-clause-free : goal.shift-requires-clause-free
shift-requires-clause-free c =
    let s = c.self.inside in
    let spare = rw (← c.self.view_is) at c.requires.spare in
    let can = rw (← c.self.view_is) at c.requires.can in
    to-free s.layout s.pane s.spare c.args.from c.args.to c.new-2.result spare can c.new-2.ensures

pub invariant_of-self-2 : goal.invariant_of-self-2
invariant_of-self-2 c =
    let s = c.self.inside in
    let spare = rw (← c.self.view_is) at c.requires.spare in
    let can = rw (← c.self.view_is) at c.requires.can in
    shifted-stored s.layout s.pane c.shift.new.self s.spare c.args.from c.args.to c.new.result c.new-2.result c.self.invariant spare can c.new.ensures c.new-2.ensures c.in_ok-shift.ensures.moved

pub returns-clause-moved : goal.returns-clause-moved
returns-clause-moved c =
    let s = c.self.inside in
    let spare = rw (← c.self.view_is) at c.requires.spare in
    let can = rw (← c.self.view_is) at c.requires.can in
    rw (← c.self.view_is) (shifted-is s.layout s.pane c.shift.new.self s.spare c.args.from c.args.to c.new.result c.new-2.result spare can c.new.ensures c.new-2.ensures c.in_ok-shift.ensures.moved)
