use Rattle.std.proofs.Common.{◌≡◌, ◌++◌, ◌∷◌, [], sym, ap, ◌∙◌, append_assoc, append-nil, rules}
use Rattle.gate_log.specs.Batches.{batches}
use Rattle.gate_log.proofs.Batches.{first_batch-shorter, batches-first, batches-none}
use Rattle.gate_log.proofs.reading.bodies_of.Goals as goal

pub loop-body-smaller : goal.loop-body-smaller
loop-body-smaller c = first_batch-shorter c.loop-body.rest.now _ (sym c.in-Some.ensures)

pub loop-body-preserved : goal.loop-body-preserved
loop-body-preserved c =
    let first = batches-first c.loop-body.rest.now _ (sym c.in-Some.ensures) in
    let pushed : c.loop-body.bodies.items ++ c.in-Some.body.now ∷ [] ≡ c.push.new.self.items = search rules in
    c.loop-body.invariant ∙ (ap (λ l. c.loop-body.bodies.items ++ l) first
    ∙ (sym (append_assoc c.loop-body.bodies.items (c.in-Some.body.now ∷ []) (batches c.in-Some.behind.now)) ∙ ap (λ l. l ++ batches c.in-Some.behind.now) pushed))

pub returns : goal.returns
returns c = sym (c.loop-body.invariant ∙ (ap (λ l. c.loop-body.bodies.items ++ l) (batches-none c.loop-body.rest.now (sym c.in_default.ensures)) ∙ append-nil _))
