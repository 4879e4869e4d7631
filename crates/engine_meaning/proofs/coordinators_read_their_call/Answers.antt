use Rattle.std.proofs.Common.{Option, ap}
use Rattle.sql_meaning.specs.Calls.{Call}
use Rattle.engine_meaning.specs.Coordinator.{as_step, next_of_body}
use Rattle.engine_meaning.proofs.Again.{call-again}
use Rattle.engine_meaning.proofs.coordinators_read_their_call.Goals as goal

pub returns : goal.returns
returns g = λ plan c fed fits. ap (λ (o : Option Call). as_step (next_of_body plan o fed)) (call-again c fits)
