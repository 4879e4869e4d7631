use Rattle.std.proofs.Common.{◌≡◌, ◌*◌, ◌++◌, replicate}
use Rattle.row_codec.proofs.packing.put_zeros.Given as goal

abbrev pub invariant-loop-block : goal.invariant-loop-block
invariant-loop-block l = l.into.items ≡ l.fn.into.items ++ replicate (64 * l._block) 0
