use Rattle.std.proofs.Common.{◌≡◌}
use Rattle.cluster_core.specs.Channels.{routes, shown}
use Rattle.cluster_core.proofs.channels.Channels.first.Given as goal

-- no route so far has a message
abbrev pub invariant-loop-route : goal.invariant-loop-route
invariant-loop-route l = routes (shown l.route-iterator) ≡ routes l.self
