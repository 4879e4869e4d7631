use Rattle.std.proofs.Common.{◌≡◌, ◌++◌, drop}
use Rattle.one_host_model.specs.World.{due}
use Rattle.cluster_core.proofs.client.Client.new.Given as goal

-- the calls so far, and then those that are left, are all of them
abbrev pub invariant-loop-call : goal.invariant-loop-call
invariant-loop-call l = l.left.items ++ due 1 l.number (drop l.call-index l.calls) ≡ due 1 1 l.calls
