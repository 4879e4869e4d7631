use Rattle.volt_base.proofs.Entries.{one}
use Rattle.volt_base.proofs.spelling.one_spelling.Goals as goal

pub returns : goal.returns
returns c = one
