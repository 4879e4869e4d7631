use Rattle.std.proofs.Common.{◌≡◌, drop, map}
use Rattle.sql_meaning.specs.Judged.{collected}
use Rattle.sql_meaning.specs.Expressions.{scalar_of}
use Rattle.expr_eval.specs.Collected.{with_more}
use Rattle.expr_eval.proofs.valued.values.Given as goal

abbrev pub invariant-loop-e : goal.invariant-loop-e
invariant-loop-e l =
    with_more l.met (map (λ e. scalar_of e l.row l.args) (drop l.e-index l.expressions)) ≡ collected (map (λ e. scalar_of e l.fn.row l.fn.args) l.fn.expressions)
