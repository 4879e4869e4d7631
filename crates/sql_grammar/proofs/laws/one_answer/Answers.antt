use Rattle.sql_grammar.proofs.OneAnswer.{one_next, one_tree, one_place, not_both}
use Rattle.sql_grammar.proofs.laws.one_answer.Goals as goal

pub returns-clause-next : goal.returns-clause-next
returns-clause-next g c = λ ts from. one_next g.R.AnyRule.rule ts from

pub returns-clause-tree : goal.returns-clause-tree
returns-clause-tree g c = λ ts from. one_tree g.R.AnyRule.rule ts from

pub returns-clause-place : goal.returns-clause-place
returns-clause-place g c = λ ts from. one_place g.R.AnyRule.rule ts from

pub returns-clause-either : goal.returns-clause-either
returns-clause-either g c = λ ts from. not_both g.R.AnyRule.rule ts from
