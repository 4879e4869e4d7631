-- Finite maps, as the list of their entries in the order of their keys.
use Rattle.std.specs.Prelude.{List, [], ◌∷◌}
use Rattle.std.specs.declared.cmp.Ordering.{Ordering}
use Rattle.std.specs.declared.cmp.Ordering.TheVariants.{Less, Equal, Greater}

-- where the first key is greater, the same, or less
abbrev pub put_by : {K V : Type 0} → (V → V → V) → Ordering → K × V → List (K × V) → K × V → List (K × V) → List (K × V)
put_by join Less first entries entry rest = entry ∷ first ∷ entries
put_by join Equal first entries entry rest = (first.0, join first.1 entry.1) ∷ entries
put_by join Greater first entries entry rest = first ∷ rest

-- an entry before the first one with a greater key. Where its key is there, the two values are joined.
abbrev pub put : {K V : Type 0} → (K → K → Ordering) → (V → V → V) → List (K × V) → K × V → List (K × V)
put R join [] entry = entry ∷ []
put R join (first ∷ entries) entry = put_by join (R entry.0 first.0) first entries entry (put R join entries entry)

-- one entry after another
abbrev pub put_all : {K V : Type 0} → (K → K → Ordering) → (V → V → V) → List (K × V) → List (K × V) → List (K × V)
put_all R join entries [] = entries
put_all R join entries (entry ∷ more) = put_all R join (put R join entries entry) more

-- of two values with one key the later
abbrev pub latest : {V : Type 0} → V → V → V
latest old new = new
