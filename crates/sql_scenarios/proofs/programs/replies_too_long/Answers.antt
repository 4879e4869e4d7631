use Rattle.sql_scenarios.proofs.programs.replies_too_long.Goals as goal

pub returns-clause-fits : goal.returns-clause-fits
returns-clause-fits c = λ text e. rw e

pub returns-clause-too_long : goal.returns-clause-too_long
returns-clause-too_long c = λ text e. rw e
