use Rattle.disk_laws.proofs.Laws.{choice-firm}
use Rattle.disk_laws.proofs.no_choice_lacks_firm_entries.Goals as goal

pub returns : goal.returns
returns g c = λ input w shown p r may. choice-firm g.B.AnyDatabase.database input w shown p r may
