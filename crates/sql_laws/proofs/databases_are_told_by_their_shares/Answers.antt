use Rattle.sql_laws.proofs.Keep.Told.{database-told}
use Rattle.sql_laws.proofs.databases_are_told_by_their_shares.Goals as goal

pub returns : goal.returns
returns c = λ parts catalog a b some rules is_a is_b same. database-told parts some catalog rules a b is_a is_b same
