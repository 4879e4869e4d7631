use Rattle.call_laws.proofs.Laws.{all-requests}
use Rattle.call_laws.proofs.requests_are_as_they_were_submitted.Goals as goal

pub returns : goal.returns
returns g c = λ input w r. all-requests g.B.AnyDatabase.database input w r
