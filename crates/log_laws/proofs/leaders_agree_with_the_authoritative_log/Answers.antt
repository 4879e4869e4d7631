use Rattle.log_laws.proofs.Runs.Lasting.{in-authoritative}
use Rattle.log_laws.proofs.Runs.Worlds.{logs-agree}
use Rattle.log_laws.proofs.leaders_agree_with_the_authoritative_log.Goals as goal

pub returns : goal.returns
returns g c = λ input w l r h. in-authoritative w (logs-agree g.B.AnyDatabase.database input w r) l h
