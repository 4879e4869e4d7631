use Rattle.sql_meaning.proofs.Meanings.{meanings}
use Rattle.sql_scenarios.proofs.truths.ands_and_ors.Goals as goal

pub returns-clause-both : goal.returns-clause-both
returns-clause-both c = simp meanings

pub returns-clause-not_both : goal.returns-clause-not_both
returns-clause-not_both c = simp meanings

pub returns-clause-either : goal.returns-clause-either
returns-clause-either c = simp meanings

pub returns-clause-neither : goal.returns-clause-neither
returns-clause-neither c = simp meanings

pub returns-clause-one : goal.returns-clause-one
returns-clause-one c = simp meanings

pub returns-clause-not_one : goal.returns-clause-not_one
returns-clause-not_one c = simp meanings
