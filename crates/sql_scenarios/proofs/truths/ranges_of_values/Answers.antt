use Rattle.sql_meaning.proofs.Meanings.{meanings}
use Rattle.sql_scenarios.proofs.truths.ranges_of_values.Goals as goal

pub returns-clause-zero : goal.returns-clause-zero
returns-clause-zero c = simp meanings

pub returns-clause-not_zero : goal.returns-clause-not_zero
returns-clause-not_zero c = simp meanings

pub returns-clause-one : goal.returns-clause-one
returns-clause-one c = simp meanings

pub returns-clause-not_one : goal.returns-clause-not_one
returns-clause-not_one c = simp meanings

pub returns-clause-of_null : goal.returns-clause-of_null
returns-clause-of_null c = simp meanings

pub returns-clause-not_of_null : goal.returns-clause-not_of_null
returns-clause-not_of_null c = simp meanings

pub returns-clause-above : goal.returns-clause-above
returns-clause-above c = simp meanings

pub returns-clause-not_above : goal.returns-clause-not_above
returns-clause-not_above c = simp meanings
