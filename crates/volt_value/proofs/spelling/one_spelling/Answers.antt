use Rattle.volt_value.proofs.ValueLemmas.{one}
use Rattle.volt_value.proofs.spelling.one_spelling.Goals as goal

pub returns : goal.returns
returns c = one
