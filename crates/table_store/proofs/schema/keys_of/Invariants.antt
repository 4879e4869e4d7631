use Rattle.std.proofs.Common.{◌≡◌, ◌∷◌, ◌++◌, length}
use Rattle.table_store.specs.Schemas.{index_keys}
use Rattle.table_store.proofs.schema.keys_of.Given as goal

abbrev pub invariant-loop-left : goal.invariant-loop-left
invariant-loop-left l = record { made : l.keys.items ++ index_keys l.number l.key l.left ≡ l.key ∷ index_keys l.number l.key l.indexes }

abbrev pub decreases-loop-left : goal.decreases-loop-left
decreases-loop-left l = length l.left
