use Rattle.std.proofs.Common.{◌≡◌, ◌∷◌, [], ◌+◌, ◌++◌, map, drop, sym, ap, ◌∙◌, append_assoc}
use Rattle.std.specs.List.{enumerate_from}
use Rattle.sql_plan.specs.declared.select.GroupOutput.TheVariants as output
use Rattle.sql_merge.proofs.LoopLemmas.{output_more}
use Rattle.sql_merge.proofs.merging.aggregates_in_order.Goals as goal

pub loop-place-preserved : goal.loop-place-preserved
loop-place-preserved c =
    let n = c.loop-place.place in
    let all = c.args.aggregates.now in
    rw c.in_ok-push.ensures.items
    (append_assoc c.loop-place.outputs.items (output.Aggregate n ∷ []) (map (λ a. output.Aggregate a.0) (enumerate_from (n + 1) (drop (n + 1) all)))
    ∙ ap (λ rest. c.loop-place.outputs.items ++ rest) (sym (output_more n all c.loop-place-test.true))
    ∙ c.loop-place.invariant)
