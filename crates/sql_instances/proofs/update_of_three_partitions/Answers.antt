use Rattle.std.proofs.Common.{[], lit<}
use Rattle.sql_meaning.specs.Starter.{catalog}
use Rattle.sql_scenarios.specs.Accounts.{one_more}
use Rattle.sql_scenarios.specs.Builders.{counted}
use Rattle.sql_instances.specs.Instances.{four, four_more}
use Rattle.sql_meaning.proofs.Accounts.{is_catalog}
use Rattle.sql_instances.proofs.Premises.{database-four, one_more-prepared}
use Rattle.sql_instances.proofs.update_of_three_partitions.Goals as goal

pub returns : goal.returns
returns c =
    let law = c.statements_are_of_their_parts.ensures 3 catalog one_more [] four (lit< tt) is_catalog database-four one_more-prepared (λ e. absurd (cc)) in
    record { parts = law; shares = law.shares (four_more, counted 4) c.counts_of_all.ensures.made }
