-- A name that fits one column.
use Rattle.std.proofs.Common.{◌≡◌, refl, List, [], ◌∷◌, ◌++◌}
use Rattle.sql_resolve.specs.declared.names.FoundColumn.{FoundColumn}
use Rattle.sql_resolve.specs.declared.names.Fitting.{Fitting}
use Rattle.sql_resolve.specs.declared.names.Fitting.TheVariants.{Nothing, Several}
use Rattle.sql_resolve.specs.Names.{with_fitting, with_all, only, found_in}

pub with_all_append : (found : Fitting) (xs ys : List FoundColumn) → with_all (with_all found xs) ys ≡ with_all found (xs ++ ys)
with_all_append found [] ys = refl
with_all_append found (x ∷ xs) ys = with_all_append (with_fitting found x) xs ys

several : (xs : List FoundColumn) → with_all Several xs ≡ Several
several [] = refl
several (x ∷ xs) = several xs

pub found_in_all : (xs : List FoundColumn) → found_in (with_all Nothing xs) ≡ only xs
found_in_all [] = refl
found_in_all (x ∷ []) = refl
found_in_all (x ∷ y ∷ xs) = λ i. found_in (several xs i)
