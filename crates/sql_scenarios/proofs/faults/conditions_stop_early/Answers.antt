use Rattle.sql_meaning.proofs.Meanings.{meanings}
use Rattle.sql_scenarios.proofs.faults.conditions_stop_early.Goals as goal

pub returns-clause-false_and : goal.returns-clause-false_and
returns-clause-false_and c = simp meanings

pub returns-clause-and_false : goal.returns-clause-and_false
returns-clause-and_false c = simp meanings

pub returns-clause-true_or : goal.returns-clause-true_or
returns-clause-true_or c = simp meanings

pub returns-clause-or_true : goal.returns-clause-or_true
returns-clause-or_true c = simp meanings

pub returns-clause-unknown_and : goal.returns-clause-unknown_and
returns-clause-unknown_and c = simp meanings

pub returns-clause-unknown_or : goal.returns-clause-unknown_or
returns-clause-unknown_or c = simp meanings

pub returns-clause-not_between : goal.returns-clause-not_between
returns-clause-not_between c = simp meanings

pub returns-clause-between : goal.returns-clause-between
returns-clause-between c = simp meanings

pub returns-clause-among : goal.returns-clause-among
returns-clause-among c = simp meanings

pub returns-clause-not_among : goal.returns-clause-not_among
returns-clause-not_among c = simp meanings
