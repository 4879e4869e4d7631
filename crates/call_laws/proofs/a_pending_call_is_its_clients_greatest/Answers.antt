use Rattle.call_laws.proofs.Laws.{pending-greatest}
use Rattle.call_laws.proofs.a_pending_call_is_its_clients_greatest.Goals as goal

pub returns : goal.returns
returns g c = λ input w n p r is. pending-greatest g.B.AnyDatabase.database input w r n p is
