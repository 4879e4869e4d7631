use Rattle.sql_complaints.proofs.SearchLemmas.{each_done}
use Rattle.sql_refusals.specs.Selects as spec
use Rattle.sql_refusals.proofs.select.read_listed.Goals as goal

pub returns : goal.returns
returns c =
    each_done (λ o. spec.output c.args.names.now c.args.grouped c.args.by.now o.value) c.loop-output.search c.args.search.now c.args.outputs.now c.loop-output.output-index c.loop-output-test.false c.loop-output.invariant
