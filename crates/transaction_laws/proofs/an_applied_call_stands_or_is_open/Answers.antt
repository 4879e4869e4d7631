use Rattle.transaction_laws.proofs.Runs.Laws.{calls-stand}
use Rattle.transaction_laws.proofs.an_applied_call_stands_or_is_open.Goals as goal

pub returns : goal.returns
returns g c = λ input w p q r part other. calls-stand g.B.AnyDatabase.database input w r p q part other
