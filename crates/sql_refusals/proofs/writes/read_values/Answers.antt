use Rattle.sql_refusals.proofs.LoopLemmas.{values_done}
use Rattle.sql_refusals.proofs.writes.read_values.Goals as goal

pub returns : goal.returns
returns c =
    values_done c.loop-value.search c.args.search.now c.args.names.now c.args.columns.now c.loop-value.ahead.now c.args.places.now c.args.values.now c.loop-value.value-index c.loop-value-test.false c.loop-value.invariant
