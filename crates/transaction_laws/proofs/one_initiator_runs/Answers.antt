use Rattle.transaction_laws.proofs.Runs.Laws.{one-runs}
use Rattle.transaction_laws.proofs.one_initiator_runs.Goals as goal

pub returns : goal.returns
returns g c = λ input w h n r i j. one-runs g.B.AnyDatabase.database input w r h n i j
