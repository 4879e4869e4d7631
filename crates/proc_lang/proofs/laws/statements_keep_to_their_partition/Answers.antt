use Rattle.proc_lang.proofs.Kept.{statements_keep}
use Rattle.proc_lang.proofs.laws.statements_keep_to_their_partition.Goals as goal

pub returns : goal.returns
returns c = statements_keep
