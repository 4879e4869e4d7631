use Rattle.sql_meaning.proofs.rules.steps_have_a_limit.Goals as goal

pub returns-clause-last : goal.returns-clause-last
returns-clause-last c = λ known go e. rw e

pub returns-clause-beyond : goal.returns-clause-beyond
returns-clause-beyond c = λ known go e. rw e
