use Rattle.snapshot_io.proofs.Bases.{base_again, base_takes}
use Rattle.snapshot_io.proofs.laws.one_spelling.Goals as goal

pub returns-clause-again : goal.returns-clause-again
returns-clause-again c = base_again

pub returns-clause-one : goal.returns-clause-one
returns-clause-one c = base_takes
