use Rattle.std.proofs.Common.{sym, ap, ◌∙◌, rules, arith}
use Rattle.volt_disk.proofs.DrawLemmas.{scattered-more, scattered-none}
use Rattle.volt_disk.proofs.stored.scatter.Goals as goal

pub loop-i-preserved : goal.loop-i-preserved
loop-i-preserved c =
    sym (scattered-more c.args.len c.args.at c.loop-i.i _ c.loop-i.bytes.items c.loop-i.state _ c.loop-i-test.true
    c.next-state.ensures
    (search rules)) ∙ c.loop-i.invariant

pub returns-clause-bytes : goal.returns-clause-bytes
returns-clause-bytes c = ap (λ b. b.0) (sym (scattered-none _ _ _ (omega arith)) ∙ c.loop-i.invariant)

pub returns-clause-state : goal.returns-clause-state
returns-clause-state c = ap (λ b. b.1) (sym (scattered-none _ _ _ (omega arith)) ∙ c.loop-i.invariant)
