use Rattle.std.proofs.Common.{rules}
use Rattle.row_codec.proofs.Zeros.{take_zeros}
use Rattle.row_codec.proofs.packing.put_few_zeros.Goals as goal

pub returns : goal.returns
returns c = let e = take_zeros c.args.count c.requires in search (rules, e)
