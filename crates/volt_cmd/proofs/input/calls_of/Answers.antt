use Rattle.volt_cmd.proofs.InputLemmas.{asked_of_text}
use Rattle.volt_cmd.proofs.input.calls_of.Goals as goal

pub returns-in-Ok-clause-asked : goal.returns-in-Ok-clause-asked
returns-in-Ok-clause-asked c = asked_of_text c.args.text.now c.in-Ok.calls.items c.calls_within_bounds.ensures.few c.calls_within_bounds.ensures.bigints c.in-Ok.ensures.ok
