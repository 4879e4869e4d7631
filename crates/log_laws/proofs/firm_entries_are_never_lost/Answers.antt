use Rattle.log_laws.proofs.Runs.Lasting.{never-lost}
use Rattle.log_laws.proofs.firm_entries_are_never_lost.Goals as goal

pub returns : goal.returns
returns g c = λ input v w p r s. never-lost g.B.AnyDatabase.database input v w p r s
