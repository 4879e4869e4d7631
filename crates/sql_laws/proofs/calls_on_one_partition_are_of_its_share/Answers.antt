use Rattle.sql_laws.proofs.Calls.{one_part-call}
use Rattle.sql_laws.proofs.calls_on_one_partition_are_of_its_share.Goals as goal

pub returns : goal.returns
returns c = λ plan db d part p is e. one_part-call plan p db d part is e
