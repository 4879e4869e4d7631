use Rattle.sql_meaning.proofs.Meanings.{meanings}
use Rattle.sql_scenarios.proofs.changes.rows_that_fit.Goals as goal

pub returns-clause-fits : goal.returns-clause-fits
returns-clause-fits c = simp meanings

pub returns-clause-too_long : goal.returns-clause-too_long
returns-clause-too_long c = simp meanings

pub returns-clause-no_label : goal.returns-clause-no_label
returns-clause-no_label c = simp meanings

pub returns-clause-no_key : goal.returns-clause-no_key
returns-clause-no_key c = simp meanings

pub returns-clause-least : goal.returns-clause-least
returns-clause-least c = simp meanings

pub returns-clause-value_first : goal.returns-clause-value_first
returns-clause-value_first c = simp meanings
