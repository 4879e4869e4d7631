use Rattle.sql_meaning.proofs.Meanings.{meanings}
use Rattle.sql_scenarios.proofs.programs.limits_of_programs.Goals as goal

pub returns-clause-steps : goal.returns-clause-steps
returns-clause-steps c = λ go. simp meanings

pub returns-clause-statements : goal.returns-clause-statements
returns-clause-statements c = λ go. simp meanings

pub returns-clause-both : goal.returns-clause-both
returns-clause-both c = λ go. simp meanings
