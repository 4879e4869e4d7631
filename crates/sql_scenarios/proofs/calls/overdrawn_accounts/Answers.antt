use Rattle.sql_meaning.proofs.Meanings.{meanings}
use Rattle.sql_scenarios.proofs.calls.overdrawn_accounts.Goals as goal

pub returns-clause-below_zero : goal.returns-clause-below_zero
returns-clause-below_zero c = simp meanings

pub returns-clause-no_account : goal.returns-clause-no_account
returns-clause-no_account c = simp meanings
