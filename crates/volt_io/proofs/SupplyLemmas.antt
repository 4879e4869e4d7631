-- Where a source over memory stands after a read.
use Rattle.std.proofs.Math.Seq.{take-add}
use Rattle.std.proofs.lemmas.Grind.{common_steps}

-- what was given, and then what is given, was given
pub ruleset reads = (common_steps, take-add)
