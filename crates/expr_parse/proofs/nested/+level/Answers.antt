use Rattle.std.proofs.Common.{arith}
use Rattle.expr_parse.proofs.Deeper.{deeper_some, level_opens}
use Rattle.expr_parse.proofs.nested.+level.Goals as goal

pub at_level-requires : goal.at_level-requires
at_level-requires t c = record {
  callable = λ some alloc old l. (omega (arith, c.decreases), tt);
  reads = λ some alloc old new l r read. deeper_some c.args.depth l old.now new.now r some read.2;
}

pub returns : goal.returns
returns t c = rw (level_opens c.args.depth c.args.strength) c.at_level.ensures
