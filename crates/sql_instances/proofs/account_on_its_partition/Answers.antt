use Rattle.std.proofs.Common.{refl, pos, lit≤}
use Rattle.sql_instances.proofs.Premises.{is_plan, database-three}
use Rattle.sql_meaning.specs.Starter.{plan}
use Rattle.sql_instances.specs.Instances.{three}
use Rattle.sql_scenarios.specs.Accounts.{add}
use Rattle.sql_instances.proofs.account_on_its_partition.Goals as goal

pub returns : goal.returns
returns c =
    let law = c.calls_on_one_partition_are_of_its_share.ensures (plan 3) three (add 2 (pos 4)) 2 (is_plan 3 (lit≤ tt) (lit≤ tt)) database-three refl in
    record { alone = law; first = law.others 0 (λ e. absurd (cc)); second = law.others 1 (λ e. absurd (cc)) }
