use Rattle.cluster_model.proofs.Starts.{starts-rise}
use Rattle.cluster_model.proofs.laws.starts_are_drawn_once.Goals as goal

-- src/laws.rt:52:1
pub returns : goal.returns
returns g c = λ w es. starts-rise g.B.AnyDatabase.database es w
