use Rattle.std.proofs.Common.{refl}
use Rattle.std.specs.Fmt.{digits}
use Rattle.account_engine.proofs.scenario.first_report_is_spelled_so.Goals as goal

pub returns : goal.returns
unfolding digits
returns c = refl
