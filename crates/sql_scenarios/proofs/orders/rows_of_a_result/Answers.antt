use Rattle.sql_scenarios.proofs.orders.rows_of_a_result.Goals as goal

pub returns-clause-enough : goal.returns-clause-enough
returns-clause-enough c = λ rows e. rw e

pub returns-clause-too_many : goal.returns-clause-too_many
returns-clause-too_many c = λ rows e. rw e
