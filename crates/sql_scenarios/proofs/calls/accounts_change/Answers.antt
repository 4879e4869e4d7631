use Rattle.sql_meaning.proofs.Meanings.{meanings}
use Rattle.sql_scenarios.proofs.calls.accounts_change.Goals as goal

pub returns-clause-account_put : goal.returns-clause-account_put
returns-clause-account_put c = simp meanings

pub returns-clause-put_again : goal.returns-clause-put_again
returns-clause-put_again c = simp meanings

pub returns-clause-put_null : goal.returns-clause-put_null
returns-clause-put_null c = simp meanings

pub returns-clause-account_read : goal.returns-clause-account_read
returns-clause-account_read c = simp meanings

pub returns-clause-account_added : goal.returns-clause-account_added
returns-clause-account_added c = simp meanings
