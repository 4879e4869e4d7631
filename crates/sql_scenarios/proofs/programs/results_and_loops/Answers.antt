use Rattle.sql_meaning.proofs.Meanings.{meanings}
use Rattle.sql_scenarios.proofs.Sums.{sums}
use Rattle.sql_scenarios.proofs.programs.results_and_loops.Goals as goal

pub returns-clause-sum : goal.returns-clause-sum
returns-clause-sum c = sums

pub returns-clause-none : goal.returns-clause-none
returns-clause-none c = simp meanings
