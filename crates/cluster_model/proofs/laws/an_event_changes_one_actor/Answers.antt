use Rattle.cluster_model.proofs.Steps.{event-one}
use Rattle.cluster_model.proofs.laws.an_event_changes_one_actor.Goals as goal

-- src/laws.rt:23:1
pub returns : goal.returns
returns g c = λ w e o is may. event-one g.B.AnyDatabase.database w e o is may
