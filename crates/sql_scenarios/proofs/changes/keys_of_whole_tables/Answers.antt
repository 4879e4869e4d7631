use Rattle.sql_meaning.proofs.Meanings.{meanings}
use Rattle.sql_scenarios.proofs.changes.keys_of_whole_tables.Goals as goal

pub returns-clause-same_key : goal.returns-clause-same_key
returns-clause-same_key c = simp meanings

pub returns-clause-same_code : goal.returns-clause-same_code
returns-clause-same_code c = simp meanings

pub returns-clause-both_null : goal.returns-clause-both_null
returns-clause-both_null c = simp meanings

pub returns-clause-in_order : goal.returns-clause-in_order
returns-clause-in_order c = simp meanings

pub returns-clause-swapped : goal.returns-clause-swapped
returns-clause-swapped c = simp meanings

pub returns-clause-made_equal : goal.returns-clause-made_equal
returns-clause-made_equal c = simp meanings

pub returns-clause-dropped : goal.returns-clause-dropped
returns-clause-dropped c = simp meanings
