use Rattle.std.proofs.Common.{arith}
use Rattle.expr_parse.proofs.Deeper.{inner_none, inner_some}
use Rattle.expr_parse.proofs.nested.inner_expr.Goals as goal

pub returns-then-depth-eq0 : goal.returns-then-depth-eq0
returns-then-depth-eq0 c = inner_none c.args.depth c.args.tokens.now (omega arith)

pub returns : goal.returns
returns c = inner_some c.args.depth c.args.tokens.now _ _ (omega arith) c.expr.ensures
