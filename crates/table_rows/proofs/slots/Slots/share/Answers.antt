use Rattle.std.proofs.Common.{IfOk, ap, ◌∙◌, subst}
use Rattle.pane_index.specs.Blocks.{all_slots}
use Rattle.table_rows.specs.Spread.{Spread, AreTuples}
use Rattle.table_rows.proofs.SpreadLemmas.{shared-tuples}
use Rattle.table_rows.proofs.slots.Slots.share.Goals as goal

pub returns-clause-tuples : goal.returns-clause-tuples
returns-clause-tuples c =
    let s = c.self.inside in
    subst (λ fields. IfOk c.share.result (λ scan. AreTuples fields (all_slots scan))) (ap (λ (t : Spread). t.fields) (c.self.view_is ∙ c.in_ok-free_spare.ensures.freed))
    (shared-tuples s.layout s.pane s.spare c.share.result c.self.invariant c.share.ensures.scan)
