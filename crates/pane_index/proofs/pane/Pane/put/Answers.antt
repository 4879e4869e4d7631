use Rattle.std.proofs.Common.{arith}
use Rattle.pane_index.proofs.PaneLemmas.{count_within, free_read, IsPane-fill}
use Rattle.pane_index.proofs.pane.Pane.put.Goals as goal

pub overflow_add-self : goal.overflow_add-self
overflow_add-self c = omega (arith, count_within _ _ _ _ _ c.self.invariant, c.self.invariant.limit)

pub invariant_of-self-then-was_free : goal.invariant_of-self-then-was_free
invariant_of-self-then-was_free c =
    let filled = c.in_ok-fill.ensures in
    let place = rw (← c.self.view_is) at c.requires.place in
    let within = rw (← c.number-p.ensures.value) at place in
    let free = free_read c.get.result _ c.if-was_free.ensures c.get.ensures.tuple in
    IsPane-fill _ _ _ _ _ c.self.invariant c.fill.new.cow c.number-p.result _ _ c.args.tuple.now within free filled.filled filled.shape c.max-self-inside.ensures c.self.invariant.next_within
