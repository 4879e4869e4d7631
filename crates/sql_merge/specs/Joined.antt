-- Entries in the order of their keys. Those with one key stand side by side, and are joined.
use Rattle.std.specs.Prelude.{if◌then◌else◌, List, [], ◌∷◌, ◌++◌, Result, Ok}
use Rattle.std.specs.Ordering.{is_eq}
use Rattle.std.specs.declared.cmp.Ordering.{Ordering}
use Rattle.sql_plan.specs.declared.fault.Fault.{Fault}
use Rattle.sql_meaning.specs.Judged.{with, collected}

-- the first entry joined with those behind it that have its key, and then the rest
abbrev pub joined_from : {K V : Type 0} → (K → K → Ordering) → (V → V → V) → K × V → List (K × V) → List (K × V)
joined_from R join first [] = first ∷ []
joined_from R join first (next ∷ more) =
    if is_eq (R next.0 first.0)
    then joined_from R join (first.0, join first.1 next.1) more
    else first ∷ joined_from R join next more

abbrev pub joined_sorted : {K V : Type 0} → (K → K → Ordering) → (V → V → V) → List (K × V) → List (K × V)
joined_sorted R join [] = []
joined_sorted R join (first ∷ more) = joined_from R join first more

-- what was judged so far, and then the rest
abbrev pub collected_behind : {A : Type 0} → List A → List (Result A Fault) → Result (List A) Fault
collected_behind done rs = with (collected rs) (λ rest. Ok (done ++ rest))
