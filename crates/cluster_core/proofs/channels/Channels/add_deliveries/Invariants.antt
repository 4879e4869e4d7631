use Rattle.std.proofs.Common.{◌≡◌, ◌++◌, map}
use Rattle.cluster_core.specs.Channels.{delivery, routes, shown}
use Rattle.cluster_core.proofs.channels.Channels.add_deliveries.Given as goal

-- the deliveries so far, and those of the routes that are left, are all of them
abbrev pub invariant-loop-route : goal.invariant-loop-route
invariant-loop-route l = l.into.items ++ map delivery (routes (shown l.route-iterator)) ≡ l.fn.into.items ++ map delivery (routes l.self)
