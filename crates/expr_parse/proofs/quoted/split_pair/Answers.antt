use Rattle.std.proofs.Common.{arith}
use Rattle.expr_parse.proofs.Halves.{lead_after_pair}
use Rattle.expr_parse.proofs.quoted.split_pair.Goals as goal

pub range_from-requires : goal.range_from-requires
range_from-requires c = λ some. (omega arith, lead_after_pair c.args.text.now c.args.at c.utf8.text c.requires.second)
