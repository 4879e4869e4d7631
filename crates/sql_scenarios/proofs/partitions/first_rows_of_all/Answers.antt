use Rattle.sql_meaning.proofs.Meanings.{meanings}
use Rattle.sql_scenarios.proofs.partitions.first_rows_of_all.Goals as goal

pub returns-clause-parts : goal.returns-clause-parts
returns-clause-parts c = simp meanings

pub returns-clause-whole : goal.returns-clause-whole
returns-clause-whole c = simp meanings
