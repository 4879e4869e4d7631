use Rattle.std.proofs.Common.{refl}
use Rattle.std.specs.Fmt.{digits}
use Rattle.volt_report.proofs.examples.example_faults.Goals as goal

pub returns : goal.returns
unfolding digits
returns c = refl
