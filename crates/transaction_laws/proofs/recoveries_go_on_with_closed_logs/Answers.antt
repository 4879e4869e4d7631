use Rattle.transaction_laws.proofs.Runs.Laws.{goes-on-closed}
use Rattle.transaction_laws.proofs.recoveries_go_on_with_closed_logs.Goals as goal

pub returns : goal.returns
returns g c = λ input w shown p r may part. goes-on-closed g.B.AnyDatabase.database input w r shown p may part
