use Rattle.sql_meaning.proofs.Meanings.{meanings}
use Rattle.sql_scenarios.proofs.partitions.counts_of_all.Goals as goal

pub returns-clause-added : goal.returns-clause-added
returns-clause-added c = simp meanings

pub returns-clause-made : goal.returns-clause-made
returns-clause-made c = simp meanings

pub returns-clause-once : goal.returns-clause-once
returns-clause-once c = simp meanings

pub returns-clause-made_once : goal.returns-clause-made_once
returns-clause-made_once c = simp meanings

pub returns-clause-one_row : goal.returns-clause-one_row
returns-clause-one_row c = simp meanings

pub returns-clause-taken : goal.returns-clause-taken
returns-clause-taken c = simp meanings
