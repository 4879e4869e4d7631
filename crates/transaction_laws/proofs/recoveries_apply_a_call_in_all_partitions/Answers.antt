use Rattle.transaction_laws.proofs.Runs.Laws.{goes-on-alike}
use Rattle.transaction_laws.proofs.recoveries_apply_a_call_in_all_partitions.Goals as goal

pub returns : goal.returns
returns g c = λ input w shown p q r may part other. goes-on-alike g.B.AnyDatabase.database input w r shown p q may part other
