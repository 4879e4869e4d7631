use Rattle.std.proofs.Common.{◌≡◌, ◌++◌, ◌≤◌, min, length, sym, ap, ◌∙◌, append-nil, arith}
use Rattle.sql_merge.proofs.LoopLemmas.{joined_past}
use Rattle.sql_merge.proofs.gathered.all_joined.Goals as goal

pub returns : goal.returns
returns c =
    let past : min (min (length c.args.aggregates.now) (length c.args.a.now)) (length c.args.b.now) ≤ c.loop-place.place = grind (arith, c.loop-place-test.false, c.min.ensures, c.min-count.ensures) in
    sym (append-nil c.loop-place.all)
    ∙ ap (λ rest. c.loop-place.all ++ rest) (sym (joined_past c.loop-place.place c.args.aggregates.now c.args.a.now c.args.b.now past))
    ∙ c.loop-place.invariant
