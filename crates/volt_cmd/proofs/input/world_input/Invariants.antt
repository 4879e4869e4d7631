use Rattle.std.proofs.Common.{◌≡◌, map, take}
use Rattle.volt_cmd.proofs.InputLemmas.{world_call_of}
use Rattle.volt_cmd.proofs.input.world_input.Given as goal

-- the calls so far
abbrev pub invariant-loop-call : goal.invariant-loop-call
invariant-loop-call l = l.made.items ≡ map world_call_of (take l.call-index l.calls)
