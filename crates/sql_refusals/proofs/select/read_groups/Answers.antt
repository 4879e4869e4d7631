use Rattle.sql_complaints.proofs.SearchLemmas.{each_done}
use Rattle.sql_refusals.specs.Selects as spec
use Rattle.sql_refusals.proofs.select.read_groups.Goals as goal

pub returns : goal.returns
returns c =
    each_done (spec.grouped c.args.names.now) c.loop-name.search c.args.search.now c.args.columns.now c.loop-name.name-index c.loop-name-test.false c.loop-name.invariant
