use Rattle.sql_refusals.proofs.LoopLemmas.{values_from_done}
use Rattle.sql_refusals.proofs.writes.read_all_values.Goals as goal

pub returns : goal.returns
returns c = values_from_done c.loop-place.search c.args.search.now c.args.names.now c.args.columns.now c.args.values.now c.loop-place.place c.loop-place-test.false c.loop-place.invariant
