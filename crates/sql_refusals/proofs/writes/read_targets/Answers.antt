use Rattle.sql_refusals.proofs.LoopLemmas.{targets_done}
use Rattle.sql_refusals.proofs.writes.read_targets.Goals as goal

pub returns-clause-read : goal.returns-clause-read
returns-clause-read c = targets_done c.loop-name.search c.args.search.now c.args.columns.now c.loop-name.places c.args.names.now c.loop-name.name-index c.loop-name-test.false c.loop-name.invariant.noted
