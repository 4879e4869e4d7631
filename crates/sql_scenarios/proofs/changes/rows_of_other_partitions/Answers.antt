use Rattle.sql_meaning.proofs.Meanings.{meanings}
use Rattle.sql_scenarios.proofs.changes.rows_of_other_partitions.Goals as goal

pub returns-clause-here : goal.returns-clause-here
returns-clause-here c = simp meanings

pub returns-clause-elsewhere : goal.returns-clause-elsewhere
returns-clause-elsewhere c = simp meanings

pub returns-clause-row_first : goal.returns-clause-row_first
returns-clause-row_first c = simp meanings
