use Rattle.sql_meaning.proofs.rules.parts_judge_no_sum.Goals as goal

pub returns : goal.returns
returns c = λ select args db rows limit. rw (rows, limit)
