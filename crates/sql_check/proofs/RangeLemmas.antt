-- One more of so many.
use Rattle.std.proofs.Common.{◌≡◌, ℕ, ◌+◌, [], ◌∷◌, ◌++◌, map, arith}
use Rattle.std.specs.List.{range_with_len}
use Rattle.std.proofs.lemmas.List.FromFn.{map-range_with_len_more}
use Rattle.volt_value.specs.declared.value.Value.TheVariants as v
use Rattle.sql_plan.specs.declared.expression.Scalar.TheVariants as s
use Rattle.sql_check.specs.Selects.{ascending}
use Rattle.sql_check.specs.Columns.{columns_to, numbers_to}
use Rattle.sql_check.specs.Writes.{nulls}

pub columns_more : (n : ℕ) → columns_to (n + 1) ≡ columns_to n ++ s.Column n ∷ []
columns_more n = map-range_with_len_more (λ n. s.Column n) 0 n n (omega arith)

pub numbers_more : (n : ℕ) → numbers_to (n + 1) ≡ numbers_to n ++ n ∷ []
numbers_more n = map-range_with_len_more (λ n. n) 0 n n (omega arith)

pub ascending_more : (n : ℕ) → map ascending (range_with_len 0 (n + 1)) ≡ map ascending (range_with_len 0 n) ++ ascending n ∷ []
ascending_more n = map-range_with_len_more ascending 0 n n (omega arith)

pub nulls_more : (n : ℕ) → nulls (n + 1) ≡ nulls n ++ s.Literal v.Null ∷ []
nulls_more n = map-range_with_len_more (λ n. s.Literal v.Null) 0 n n (omega arith)
