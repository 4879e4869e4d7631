use Rattle.transaction_laws.proofs.Runs.Laws.{calls-end-alike}
use Rattle.transaction_laws.proofs.a_call_ends_in_one_way.Goals as goal

pub returns : goal.returns
returns g c = λ input w p q r part other. calls-end-alike g.B.AnyDatabase.database input w r p q part other
