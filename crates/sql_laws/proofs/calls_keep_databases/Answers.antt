use Rattle.sql_laws.proofs.Calls.{call-database}
use Rattle.sql_laws.proofs.calls_keep_databases.Goals as goal

pub returns : goal.returns
returns c = λ plan db d p is. call-database plan p db d is
