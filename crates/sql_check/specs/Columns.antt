-- Columns by their numbers.
use Rattle.std.specs.Prelude.{ℕ, Bool, ◌==◌, if◌then◌else◌, List, map, Option, Some, None}
use Rattle.std.specs.List.{list_any, range_with_len}
use Rattle.volt_catalog.specs.declared.column.Column.{Column}
use Rattle.sql_plan.specs.declared.expression.Scalar.{Scalar}
use Rattle.sql_plan.specs.declared.expression.Scalar.TheVariants as s
use Rattle.sql_resolve.specs.Tables.{number_of}

abbrev pub is_among : List ℕ → ℕ → Bool
is_among numbers n = list_any (λ other. other == n) numbers

-- a number that isn't among earlier ones
abbrev pub new_number : List ℕ → Option ℕ → Option ℕ
new_number earlier None = None
new_number earlier (Some n) = if is_among earlier n then None else Some n

-- the number of the column of a name, where it isn't named a second time
abbrev pub place_of : List Column → List ℕ → List ℕ → Option ℕ
place_of columns earlier name = new_number earlier (number_of columns name)

-- so many columns, each as it is
abbrev pub columns_to : ℕ → List Scalar
columns_to count = map (λ n. s.Column n) (range_with_len 0 count)

-- the numbers of so many columns
abbrev pub numbers_to : ℕ → List ℕ
numbers_to count = map (λ n. n) (range_with_len 0 count)
