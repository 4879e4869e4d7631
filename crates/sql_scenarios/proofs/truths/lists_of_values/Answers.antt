use Rattle.sql_meaning.proofs.Meanings.{meanings}
use Rattle.sql_scenarios.proofs.truths.lists_of_values.Goals as goal

pub returns-clause-one : goal.returns-clause-one
returns-clause-one c = simp meanings

pub returns-clause-not_one : goal.returns-clause-not_one
returns-clause-not_one c = simp meanings

pub returns-clause-of_null : goal.returns-clause-of_null
returns-clause-of_null c = simp meanings

pub returns-clause-not_of_null : goal.returns-clause-not_of_null
returns-clause-not_of_null c = simp meanings

pub returns-clause-among : goal.returns-clause-among
returns-clause-among c = simp meanings

pub returns-clause-not_among : goal.returns-clause-not_among
returns-clause-not_among c = simp meanings

pub returns-clause-among_null : goal.returns-clause-among_null
returns-clause-among_null c = simp meanings

pub returns-clause-not_among_null : goal.returns-clause-not_among_null
returns-clause-not_among_null c = simp meanings
