use Rattle.disk_laws.proofs.Laws.{firm-survives}
use Rattle.disk_laws.proofs.firm_entries_survive.Goals as goal

pub returns : goal.returns
returns g c = λ input v w p r s. firm-survives g.B.AnyDatabase.database input v w p r s
