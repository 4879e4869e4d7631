use Rattle.sql_meaning.proofs.Meanings.{meanings}
use Rattle.sql_scenarios.proofs.faults.least_fault_over_rows.Goals as goal

pub returns-clause-rows : goal.returns-clause-rows
returns-clause-rows c = simp meanings

pub returns-clause-one : goal.returns-clause-one
returns-clause-one c = simp meanings

pub returns-clause-past_limit : goal.returns-clause-past_limit
returns-clause-past_limit c = simp meanings

pub returns-clause-limit : goal.returns-clause-limit
returns-clause-limit c = simp meanings

pub returns-clause-limit_null : goal.returns-clause-limit_null
returns-clause-limit_null c = simp meanings

pub returns-clause-row_and_limit : goal.returns-clause-row_and_limit
returns-clause-row_and_limit c = simp meanings

pub returns-clause-no_rows : goal.returns-clause-no_rows
returns-clause-no_rows c = simp meanings
