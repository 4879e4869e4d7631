use Rattle.sql_complaints.proofs.SearchLemmas.{each_done}
use Rattle.sql_refusals.specs.Selects as spec
use Rattle.sql_refusals.proofs.select.read_orders.Goals as goal

pub returns : goal.returns
returns c =
    each_done (spec.sorted c.args.names.now c.args.heads.now c.args.grouped) c.loop-key.search c.args.search.now c.args.keys.now c.loop-key.key-index c.loop-key-test.false c.loop-key.invariant
