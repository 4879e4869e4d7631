use Rattle.sql_meaning.proofs.Meanings.{meanings}
use Rattle.sql_scenarios.proofs.truths.comparisons_with_null.Goals as goal

pub returns-clause-equal : goal.returns-clause-equal
returns-clause-equal c = simp meanings

pub returns-clause-not_equal : goal.returns-clause-not_equal
returns-clause-not_equal c = simp meanings

pub returns-clause-less : goal.returns-clause-less
returns-clause-less c = simp meanings

pub returns-clause-not_less : goal.returns-clause-not_less
returns-clause-not_less c = simp meanings

pub returns-clause-less_or_equal : goal.returns-clause-less_or_equal
returns-clause-less_or_equal c = simp meanings

pub returns-clause-greater : goal.returns-clause-greater
returns-clause-greater c = simp meanings

pub returns-clause-greater_or_equal : goal.returns-clause-greater_or_equal
returns-clause-greater_or_equal c = simp meanings

pub returns-clause-is_null : goal.returns-clause-is_null
returns-clause-is_null c = simp meanings

pub returns-clause-is_not_null : goal.returns-clause-is_not_null
returns-clause-is_not_null c = simp meanings
