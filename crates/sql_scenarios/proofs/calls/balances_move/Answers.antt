use Rattle.std.proofs.Common.{ap}
use Rattle.sql_plan.specs.declared.reply.ProcReply.{ProcReply}
use Rattle.sql_meaning.specs.Calls.{kept}
use Rattle.sql_meaning.specs.Database.{Database}
use Rattle.sql_meaning.specs.Replies.{sized}
use Rattle.sql_meaning.proofs.Meanings.{meanings}
use Rattle.sql_scenarios.specs.Accounts.{two}
use Rattle.sql_scenarios.proofs.Moves.{moves, too_much, no_account}
use Rattle.sql_scenarios.proofs.calls.balances_move.Goals as goal

pub returns-clause-enough : goal.returns-clause-enough
returns-clause-enough c = ap (λ (end : Database × ProcReply). kept two end.0 (sized end.1)) moves

pub returns-clause-read_behind : goal.returns-clause-read_behind
returns-clause-read_behind c = simp meanings

pub returns-clause-too_much : goal.returns-clause-too_much
returns-clause-too_much c = ap (λ (end : Database × ProcReply). kept two end.0 (sized end.1)) too_much

pub returns-clause-no_account : goal.returns-clause-no_account
returns-clause-no_account c = ap (λ (end : Database × ProcReply). kept two end.0 (sized end.1)) no_account
