use Rattle.std.proofs.Common.{◌≡◌, ◌∷◌, drop, map}
use Rattle.sql_resolve.specs.Expressions.{common, sort_of, meaning_of}
use Rattle.sql_resolve.proofs.sort.common_among.Given as goal

abbrev pub invariant-loop-item : goal.invariant-loop-item
invariant-loop-item l = common (map (λ item. item.sort) (map (meaning_of l.names) (drop l.item-index l.items)))
    ≡ common (sort_of l.fn.names l.fn.value ∷ map (λ item. item.sort) (map (meaning_of l.fn.names) l.fn.items))
