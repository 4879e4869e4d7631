use Rattle.std.proofs.Common.{◌≡◌, drop, map}
use Rattle.sql_meaning.specs.Expressions as spec
use Rattle.expr_eval.specs.Shown.{shown, meant}
use Rattle.expr_eval.proofs.scalars.+scalar.Given as goal

abbrev pub invariant-chain-loop-operation : goal.invariant-chain-loop-operation
invariant-chain-loop-operation l =
    spec.chain (shown l.so_far) (map meant (drop l.operation-index l.rest)) l.row l.args ≡ spec.chain (shown l.fn.first) (map meant l.fn.rest) l.fn.row l.fn.args
