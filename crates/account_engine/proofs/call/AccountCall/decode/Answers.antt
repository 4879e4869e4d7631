use Rattle.std.proofs.Common.{arith}
use Rattle.account_engine.proofs.Spells.{is_read, is_refused}
use Rattle.account_engine.proofs.call.AccountCall.decode.Goals as goal

pub returns-clause-read : goal.returns-clause-read
returns-clause-read c = is_read _ _ (λ i. omega (arith, c.type_inv.body i)) c.call_of.ensures

pub returns-clause-refused : goal.returns-clause-refused
returns-clause-refused c = is_refused _ _ c.call_of.ensures
