use Rattle.sql_grammar.proofs.Readings.{read_is, refused_is}
use Rattle.sql_grammar.proofs.laws.one_token_decides.Goals as goal

pub returns-clause-read : goal.returns-clause-read
returns-clause-read g c = λ passes ts from within. read_is g.R.AnyRule.rule passes ts from within

pub returns-clause-refused : goal.returns-clause-refused
returns-clause-refused g c = λ passes ts from within. refused_is g.R.AnyRule.rule passes ts from within
