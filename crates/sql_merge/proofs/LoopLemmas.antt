-- Steps and ends of loops.
use Rattle.std.proofs.Common.{◌≡◌, ℕ, ◌+◌, ◌<◌, ◌≤◌, List, [], ◌∷◌, ◌++◌, map, drop, length, min, sym, refl, ap, ◌∙◌, arith, inl, inr}
use Rattle.std.specs.List.{enumerate_from}
use Rattle.std.proofs.Math.ListN.{drop_of_length-le}
use Rattle.std.proofs.lemmas.Bool.{cases_lt}
use Rattle.std.proofs.lemmas.List.{at_drop_more}
use Rattle.sql_plan.specs.declared.partial.Gathered.{Gathered}
use Rattle.sql_plan.specs.declared.select.Aggregated.{Aggregated}
use Rattle.sql_plan.specs.declared.select.Aggregated.TheVariants.{CountRows}
use Rattle.sql_plan.specs.declared.select.GroupOutput.{GroupOutput}
use Rattle.sql_plan.specs.declared.select.GroupOutput.TheVariants as output
use Rattle.sql_meaning.specs.Parts.{all_joined}

-- one output more
pub output_more : (n : ℕ) (aggregates : List Aggregated) → n < length aggregates
    → map (λ (a : ℕ × Aggregated). output.Aggregate a.0) (enumerate_from n (drop n aggregates))
    ≡ output.Aggregate n ∷ map (λ (a : ℕ × Aggregated). output.Aggregate a.0) (enumerate_from (n + 1) (drop (n + 1) aggregates))
output_more n aggregates within =
    at_drop_more (λ (rest : List Aggregated). map (λ (a : ℕ × Aggregated). output.Aggregate a.0) (enumerate_from n rest)) aggregates n CountRows within

none-second : (aggregates : List Aggregated) (bs : List Gathered) → all_joined aggregates [] bs ≡ []
none-second [] bs = refl
none-second (a ∷ aggregates) bs = refl

none-third : (aggregates : List Aggregated) (xs : List Gathered) → all_joined aggregates xs [] ≡ []
none-third [] xs = refl
none-third (a ∷ aggregates) [] = refl
none-third (a ∷ aggregates) (x ∷ xs) = refl

-- nothing is joined behind the end of one of the lists
pub joined_past : (n : ℕ) (aggregates : List Aggregated) (xs ys : List Gathered) → min (min (length aggregates) (length xs)) (length ys) ≤ n
    → all_joined (drop n aggregates) (drop n xs) (drop n ys) ≡ []
joined_past n aggregates xs ys past =
    elim (cases_lt n (length aggregates)) [
      | inl more ↦ elim (cases_lt n (length xs)) [
        | inl much ↦ rw (drop_of_length-le ys {i = n} (omega (arith, past, more, much))) (none-third (drop n aggregates) (drop n xs))
        | inr one ↦ rw (drop_of_length-le xs {i = n} (omega (arith, one))) (none-second (drop n aggregates) (drop n ys))
      ]
      | inr one ↦ rw (drop_of_length-le aggregates {i = n} (omega (arith, one))) refl
    ]
