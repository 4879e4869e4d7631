use Rattle.std.proofs.Common.{Ok, ap, arith}
use Rattle.table_store.proofs.RollLemmas.{rolled_step, fewer}
use Rattle.table_store.proofs.tables.Tables.roll_back.Goals as goal

pub loop-preserved : goal.loop-preserved
loop-preserved c =
    let one = c.in_ok-undo_newest.ensures.undone (ap Ok c.if-branch.true) in
    let within = c.in_ok-undo_newest.ensures.within (ap Ok c.if-branch.true) in
    let less = fewer c.loop.self c.undo_newest.new.self one in
    record {
      rolled = rolled_step c.args.self.now c.loop.self c.undo_newest.new.self c.loop.invariant.rolled one;
      only = λ le. omega arith;
    }
