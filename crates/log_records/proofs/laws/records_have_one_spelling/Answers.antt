use Rattle.log_records.proofs.RecordLemmas.{records_again, records_take}
use Rattle.log_records.proofs.laws.records_have_one_spelling.Goals as goal

pub returns-clause-again : goal.returns-clause-again
returns-clause-again c = records_again

pub returns-clause-one : goal.returns-clause-one
returns-clause-one c = records_take
