use Rattle.volt_text.proofs.Total.{reads_some}
use Rattle.volt_text.proofs.Unique.{reads_once}
use Rattle.volt_text.proofs.laws.one_reading.Goals as goal

pub returns-clause-some : goal.returns-clause-some
returns-clause-some c = reads_some

pub returns-clause-only : goal.returns-clause-only
returns-clause-only c = reads_once
