use Rattle.sql_meaning.proofs.rules.dropped_rows_have_no_fault.Goals as goal

pub returns : goal.returns
returns c = λ select row args fault e. rw e
