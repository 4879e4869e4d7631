use Rattle.transaction_laws.proofs.Runs.Laws.{runs-once}
use Rattle.transaction_laws.proofs.a_call_runs_once.Goals as goal

pub returns : goal.returns
returns g c = λ input w p q r part other apart. runs-once g.B.AnyDatabase.database input w r p q part other apart
