use Rattle.transaction_laws.proofs.Runs.Laws.{no-call-twice}
use Rattle.transaction_laws.proofs.no_call_stands_twice.Goals as goal

pub returns : goal.returns
returns g c = λ input w i r slot. no-call-twice g.B.AnyDatabase.database input w r i slot
