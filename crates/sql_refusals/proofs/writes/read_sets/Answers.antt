use Rattle.sql_refusals.proofs.LoopLemmas.{sets_done}
use Rattle.sql_refusals.proofs.writes.read_sets.Goals as goal

pub returns : goal.returns
returns c =
    sets_done c.loop-set.search c.args.search.now c.args.names.now c.args.table.now c.loop-set.earlier c.args.sets.now c.loop-set.set-index c.loop-set-test.false c.loop-set.invariant
