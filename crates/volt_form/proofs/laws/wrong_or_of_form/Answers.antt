use Rattle.volt_form.proofs.FormLemmas.{wrong_text}
use Rattle.volt_form.proofs.laws.wrong_or_of_form.Goals as goal

pub returns : goal.returns
returns c = wrong_text
