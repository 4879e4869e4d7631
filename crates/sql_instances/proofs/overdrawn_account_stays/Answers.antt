use Rattle.std.proofs.Common.{ap, codes, negsuc}
use Rattle.sql_meaning.specs.Starter.{plan}
use Rattle.sql_instances.specs.Instances.{one}
use Rattle.sql_plan.specs.declared.reply.Cause.TheVariants as cause
use Rattle.sql_plan.specs.declared.reply.ProcReply.{ProcReply}
use Rattle.sql_meaning.specs.Database.{Database}
use Rattle.sql_scenarios.specs.Accounts.{add}
use Rattle.sql_instances.proofs.overdrawn_account_stays.Goals as goal

pub returns : goal.returns
returns c = c.aborts_change_nothing.ensures (plan 1) one (add 1 (negsuc 10)) (cause.User (codes "below zero")) (ap (λ (end : Database × ProcReply). end.1) c.overdrawn_accounts.ensures.below_zero)
