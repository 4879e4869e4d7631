use Rattle.sql_meaning.proofs.Meanings.{meanings}
use Rattle.sql_scenarios.proofs.changes.least_fault_of_changes.Goals as goal

pub returns-clause-least : goal.returns-clause-least
returns-clause-least c = simp meanings

pub returns-clause-one : goal.returns-clause-one
returns-clause-one c = simp meanings

pub returns-clause-fine : goal.returns-clause-fine
returns-clause-fine c = simp meanings
