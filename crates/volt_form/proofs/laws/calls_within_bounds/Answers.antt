use Rattle.volt_form.proofs.BoundLemmas.{text_few, text_bigints}
use Rattle.volt_form.proofs.laws.calls_within_bounds.Goals as goal

pub returns-clause-few : goal.returns-clause-few
returns-clause-few c = text_few

pub returns-clause-bigints : goal.returns-clause-bigints
returns-clause-bigints c = text_bigints
