use Rattle.sql_meaning.proofs.Meanings.{meanings}
use Rattle.sql_scenarios.proofs.truths.texts_by_bytes.Goals as goal

pub returns-clause-less : goal.returns-clause-less
returns-clause-less c = simp meanings

pub returns-clause-between : goal.returns-clause-between
returns-clause-between c = simp meanings

pub returns-clause-among : goal.returns-clause-among
returns-clause-among c = simp meanings
