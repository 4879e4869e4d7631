use Rattle.transaction_laws.proofs.Runs.Laws.{points-within}
use Rattle.transaction_laws.proofs.points_never_fall.Goals as goal

pub returns : goal.returns
returns g c = λ input w i r slot. points-within g.B.AnyDatabase.database input w r i slot
