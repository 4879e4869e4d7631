use Rattle.std.proofs.Common.{◌≡◌, drop, map}
use Rattle.sql_meaning.specs.Expressions as spec
use Rattle.expr_eval.proofs.conditions.+condition.Given as goal

abbrev pub invariant-all_true-loop-next : goal.invariant-all_true-loop-next
invariant-all_true-loop-next l =
    spec.and_then l.so_far (spec.all_true (map spec.cond_of (drop l.next-index l.conditions)) l.row l.args) ≡ spec.all_true (map spec.cond_of l.fn.conditions) l.fn.row l.fn.args

abbrev pub invariant-some_true-loop-next : goal.invariant-some_true-loop-next
invariant-some_true-loop-next l =
    spec.or_else l.so_far (spec.some_true (map spec.cond_of (drop l.next-index l.conditions)) l.row l.args) ≡ spec.some_true (map spec.cond_of l.fn.conditions) l.fn.row l.fn.args
