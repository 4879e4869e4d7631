use Rattle.log_laws.proofs.Runs.Lasting.{next-leads}
use Rattle.log_laws.proofs.later_leaders_have_what_was_firm.Goals as goal

pub returns : goal.returns
returns g c = λ input v w l m r s h. next-leads g.B.AnyDatabase.database input v w l m r s h
