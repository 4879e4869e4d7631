use Rattle.sql_meaning.proofs.Meanings.{meanings}
use Rattle.sql_scenarios.proofs.calls.sums_out_of_range.Goals as goal

pub returns-clause-third : goal.returns-clause-third
returns-clause-third c = simp meanings

pub returns-clause-greatest : goal.returns-clause-greatest
returns-clause-greatest c = simp meanings

pub returns-clause-beyond : goal.returns-clause-beyond
returns-clause-beyond c = simp meanings
