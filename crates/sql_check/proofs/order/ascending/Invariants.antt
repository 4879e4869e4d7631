use Rattle.std.proofs.Common.{◌≡◌, map}
use Rattle.std.specs.List.{range_with_len}
use Rattle.sql_check.specs.Selects as spec
use Rattle.sql_check.proofs.order.ascending.Given as goal

abbrev pub invariant-loop-number : goal.invariant-loop-number
invariant-loop-number l = l.order ≡ map spec.ascending (range_with_len 0 l.number)
