use Rattle.std.proofs.Common.{[], subst, lit≤}
use Rattle.sql_instances.proofs.Premises.{is_plan, database-none}
use Rattle.sql_meaning.specs.Starter.{catalog, plan}
use Rattle.sql_plan.specs.declared.reply.ProcReply.{ProcReply}
use Rattle.sql_meaning.specs.Database.{Database, IsDatabase}
use Rattle.sql_scenarios.specs.Accounts.{accounts, put}
use Rattle.sql_scenarios.specs.Builders.{int}
use Rattle.sql_instances.proofs.database_behind_a_put.Goals as goal

pub returns : goal.returns
returns c = subst (λ (end : Database × ProcReply). IsDatabase catalog end.0) c.accounts_change.ensures.account_put (c.calls_keep_databases.ensures (plan 1) (accounts []) (put 1 (int 10)) (is_plan 1 (lit≤ tt) (lit≤ tt)) database-none)
