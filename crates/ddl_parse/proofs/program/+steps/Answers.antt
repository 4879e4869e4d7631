use Rattle.ddl_parse.proofs.MoreSteps.{no_steps, some_steps}
use Rattle.ddl_parse.proofs.program.+steps.Goals as goal

pub returns-then-depth-eq0 : goal.returns-then-depth-eq0
returns-then-depth-eq0 t c = no_steps c.args.depth c.args.tokens.now c.new.result c.if-depth-eq0.true c.new.ensures

pub returns : goal.returns
returns t c = rw (some_steps c.args.depth c.args.tokens.now c.if-depth-eq0.false) c.many.ensures
