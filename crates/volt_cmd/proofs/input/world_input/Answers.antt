use Rattle.std.proofs.Common.{◌≡◌, ◌∙◌, ap, arith, map}
use Rattle.std.proofs.lemmas.List.{take_all}
use Rattle.std.proofs.lemmas.List.Elements.{All-same}
use Rattle.volt_cmd.proofs.InputLemmas.{world_call_of, all_valid, given_of, all_ones}
use Rattle.volt_cmd.proofs.input.world_input.Goals as goal

pub world_call-requires : goal.world_call-requires
world_call-requires c = all_valid c.args.calls.now c.requires c.loop-call.call-index _ (omega arith) c.account_call.result c.account_call.ensures

pub returns-clause-given : goal.returns-clause-given
returns-clause-given c = λ asked h.
    c.loop-call.invariant ∙ ap (map world_call_of) (take_all c.loop-call.call-index c.args.calls.now (omega arith)) ∙ given_of c.args.calls.now asked h

pub returns-clause-ones : goal.returns-clause-ones
returns-clause-ones c =
    let all : c.loop-call.made.items ≡ map world_call_of c.args.calls.now =
    c.loop-call.invariant ∙ ap (map world_call_of) (take_all c.loop-call.call-index c.args.calls.now (omega arith)) in
    All-same (λ call. call.client ≡ 1) c.loop-call.made.items (map world_call_of c.args.calls.now) all (all_ones c.args.calls.now)
