use Rattle.std.proofs.Common.{◌≡◌, ◌+◌, ◌++◌, drop, map}
use Rattle.sql_check.specs.Selects as spec
use Rattle.sql_check.proofs.order.with_key.Given as goal

abbrev pub invariant-loop-number : goal.invariant-loop-number
invariant-loop-number l = l.order ++ map (λ n. spec.ascending (l.before + n)) (drop l.number-index l.key) ≡ l.fn.order ++ map (λ n. spec.ascending (l.fn.before + n)) l.fn.key
