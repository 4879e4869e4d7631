use Rattle.sql_grammar.proofs.Prefixes.{prefixes, go_on}
use Rattle.sql_grammar.proofs.laws.prefixes_start.Goals as goal

pub returns-clause-prefixes : goal.returns-clause-prefixes
returns-clause-prefixes g c = prefixes g.R.AnyRule.rule

pub returns-clause-goes_on : goal.returns-clause-goes_on
returns-clause-goes_on g c = go_on g.R.AnyRule.rule
