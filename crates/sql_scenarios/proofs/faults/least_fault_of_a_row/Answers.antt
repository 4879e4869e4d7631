use Rattle.sql_meaning.proofs.Meanings.{meanings}
use Rattle.sql_scenarios.proofs.faults.least_fault_of_a_row.Goals as goal

pub returns-clause-first : goal.returns-clause-first
returns-clause-first c = simp meanings

pub returns-clause-least : goal.returns-clause-least
returns-clause-least c = simp meanings

pub returns-clause-hidden : goal.returns-clause-hidden
returns-clause-hidden c = simp meanings

pub returns-clause-unmet : goal.returns-clause-unmet
returns-clause-unmet c = simp meanings

pub returns-clause-at_each : goal.returns-clause-at_each
returns-clause-at_each c = simp meanings

pub returns-clause-least_number : goal.returns-clause-least_number
returns-clause-least_number c = simp meanings
