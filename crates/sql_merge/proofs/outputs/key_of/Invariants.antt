use Rattle.std.proofs.Common.{◌≡◌, ◌++◌, map, drop}
use Rattle.sql_meaning.specs.Selects.{directed, ordered_by}
use Rattle.sql_merge.proofs.outputs.key_of.Given as goal

abbrev pub invariant-loop-one : goal.invariant-loop-one
invariant-loop-one l =
    l.key.items ++ map (λ o. directed o.descending (ordered_by l.outputs l.columns o.by)) (drop l.one-index l.order)
    ≡ map (λ o. directed o.descending (ordered_by l.fn.outputs l.fn.columns o.by)) l.fn.order
