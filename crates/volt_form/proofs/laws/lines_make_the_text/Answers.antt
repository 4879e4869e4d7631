use Rattle.volt_form.proofs.LineLemmas.{text_of-lines, ended_no_lf, rest_no_lf}
use Rattle.volt_form.proofs.laws.lines_make_the_text.Goals as goal

pub returns-clause-joined : goal.returns-clause-joined
returns-clause-joined c = text_of-lines

pub returns-clause-ended : goal.returns-clause-ended
returns-clause-ended c = ended_no_lf

pub returns-clause-rest : goal.returns-clause-rest
returns-clause-rest c = rest_no_lf
