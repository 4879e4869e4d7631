use Rattle.log_laws.proofs.Runs.Laws.{firm-in}
use Rattle.log_laws.proofs.Runs.Worlds.{logs-agree}
use Rattle.log_laws.proofs.firm_entries_are_everywhere.Goals as goal

pub returns : goal.returns
returns g c = λ input w n d r a. firm-in w (logs-agree g.B.AnyDatabase.database input w r) n d a
