use Rattle.std.proofs.Common.{◌≡◌, ◌++◌, take, drop}
use Rattle.one_host_model.specs.Agent.{client_of, without}
use Rattle.cluster_core.proofs.agent.place_of.Given as goal

-- none of those before is the call
abbrev pub invariant-loop-i : goal.invariant-loop-i
invariant-loop-i l = record {
  same_client : client_of l.call l.pending ≡ client_of l.call (drop l.i l.pending);
  same_rest : without l.call l.pending ≡ take l.i l.pending ++ without l.call (drop l.i l.pending);
}
