use Rattle.std.proofs.Common.{arith}
use Rattle.expr_parse.proofs.Deeper.{deeper_none}
use Rattle.expr_parse.proofs.rules.Rules.inner.Goals as goal

pub returns-then-self-eq0 : goal.returns-then-self-eq0
returns-then-self-eq0 g c = deeper_none c.args.self.now.depth c.args.level c.args.tokens.now (omega arith)
