use Rattle.std.proofs.Common.{[], ◌∷◌, lit<}
use Rattle.sql_meaning.specs.Starter.{catalog, total_balance}
use Rattle.sql_scenarios.specs.Builders.{ids}
use Rattle.sql_instances.specs.Instances.{three}
use Rattle.sql_meaning.proofs.Accounts.{is_catalog}
use Rattle.sql_instances.proofs.Premises.{database-three, total_balance-prepared}
use Rattle.sql_instances.proofs.total_of_three_partitions.Goals as goal

pub returns : goal.returns
returns c =
    let law = c.statements_are_of_their_parts.ensures 3 catalog total_balance [] three (lit< tt) is_catalog database-three total_balance-prepared (λ e. absurd (cc)) in
    record { parts = law; share = law.shares (three, ids (9223372036854775807 ∷ [])) c.sums_of_all.ensures.whole_greatest }
