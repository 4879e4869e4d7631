use Rattle.std.proofs.Common.{◌≡◌, ℕ, ◌+◌, List, [], ◌∷◌, ◌++◌, ap, sym, ◌∙◌, append_assoc, arith}
use Rattle.one_host_model.specs.declared.input.WorldCall.{WorldCall}
use Rattle.one_host_model.specs.declared.state.Due.{Due}
use Rattle.one_host_model.specs.World.{due}
use Rattle.cluster_core.proofs.DueLemmas.{due_next, due_none}
use Rattle.cluster_core.proofs.client.Client.new.Goals as goal

pub loop-call-preserved : goal.loop-call-preserved
loop-call-preserved c =
    let call = c.call-item.result in
    let i = c.loop-call.call-index in
    let d : Due = record { body = call.body; call = c.loop-call.number; part = call.part } in
    let next : c.in_ok-number.number ≡ c.loop-call.number + 1 = grind arith in
    let pushed : c.push_back.new.self.items ≡ c.loop-call.left.items ++ d ∷ [] =
    c.in_ok-push_back.ensures.items ∙ ap (λ (b : List ℕ). c.loop-call.left.items ++ record { body = b; call = c.loop-call.number; part = call.part } ∷ []) c.in_ok-copy.ensures in
    rw (next, pushed, append_assoc) (ap (λ (ds : List Due). c.loop-call.left.items ++ ds) (sym (due_next c.args.calls.now i c.loop-call.number call c.loop-call-test.true c.call-item.is (ap (λ (w : WorldCall). w.client) c.call-item.is ∙ c.requires i call c.loop-call-test.true))) ∙ c.loop-call.invariant)

pub returns : goal.returns
returns c =
    let all : c.loop-call.left.items ≡ due 1 1 c.args.calls.now =
    sym (due_none c.args.calls.now c.loop-call.call-index c.loop-call.number c.loop-call.left.items c.loop-call-test.false) ∙ c.loop-call.invariant in
    grind (arith, all)
