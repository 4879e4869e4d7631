use Rattle.std.proofs.Common.{lit<}
use Rattle.sql_meaning.proofs.Accounts.{is_catalog}
use Rattle.sql_instances.proofs.Premises.{database-three}
use Rattle.sql_meaning.specs.Starter.{catalog}
use Rattle.sql_instances.specs.Instances.{three}
use Rattle.sql_instances.proofs.accounts_told_by_their_shares.Goals as goal

pub returns : goal.returns
returns c = λ other is same. c.databases_are_told_by_their_shares.ensures 3 catalog other three (lit< tt) is_catalog is database-three same
