use Rattle.transaction_laws.proofs.Runs.Laws.{goes-on-runs-once}
use Rattle.transaction_laws.proofs.recoveries_run_a_call_once.Goals as goal

pub returns : goal.returns
returns g c = λ input w shown p q r may part other apart. goes-on-runs-once g.B.AnyDatabase.database input w r shown p q may part other apart
