use Rattle.transaction_laws.proofs.Runs.Laws.{goes-on-once}
use Rattle.transaction_laws.proofs.recoveries_apply_no_call_twice.Goals as goal

pub returns : goal.returns
returns g c = λ input w shown p r may part. goes-on-once g.B.AnyDatabase.database input w r shown p may part
