use Rattle.transaction_laws.proofs.Runs.Laws.{logs-formed}
use Rattle.transaction_laws.proofs.logs_are_well_formed.Goals as goal

pub returns : goal.returns
returns g c = λ input w i r slot. logs-formed g.B.AnyDatabase.database input w r i slot
