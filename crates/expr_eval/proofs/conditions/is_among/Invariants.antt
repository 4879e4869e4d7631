use Rattle.std.proofs.Common.{◌≡◌, drop, map}
use Rattle.expr_parse.specs.declared.expression.Comparison.TheVariants.{Equal}
use Rattle.sql_meaning.specs.Expressions as spec
use Rattle.expr_eval.specs.Shown.{shown}
use Rattle.expr_eval.proofs.conditions.is_among.Given as goal

abbrev pub invariant-loop-item : goal.invariant-loop-item
invariant-loop-item l =
    spec.or_else l.so_far (spec.some_true (map (spec.comparing Equal (shown l.value)) (drop l.item-index l.items)) l.row l.args) ≡ spec.some_true (map (spec.comparing Equal (shown l.fn.value)) l.fn.items) l.fn.row l.fn.args
