-- What aggregates make of the values of a group.
use Rattle.std.specs.Prelude.{not, if◌then◌else◌, List, [], ◌∷◌, ◌++◌, map, length, count_by, ℤ, pos, ◌+ℤ◌, Option, Some, None, Result, Ok}
use Rattle.std.specs.List.{enumerate_from}
use Rattle.std.specs.Ordering.{is_lt}
use Rattle.volt_value.specs.declared.value.Value.{Value}
use Rattle.volt_value.specs.declared.value.Value.TheVariants.{Null, Int}
use Rattle.volt_value.specs.Order.{value_cmp}
use Rattle.sql_plan.specs.declared.fault.Fault.{Fault}
use Rattle.sql_plan.specs.declared.select.Aggregated.{Aggregated}
use Rattle.sql_plan.specs.declared.select.Aggregated.TheVariants as agg
use Rattle.sql_plan.specs.declared.partial.Gathered.{Gathered}
use Rattle.sql_plan.specs.declared.partial.Gathered.TheVariants as gathered
use Rattle.sql_plan.specs.Rows.{Cells, row_cmp}
use Rattle.sql_meaning.specs.Judged.{collected}
use Rattle.sql_meaning.specs.Values.{at, in_range, is_null}
use Rattle.sql_meaning.specs.Expressions.{Reads, scalar_of}
use Rattle.sql_meaning.specs.Maps.{put_all}

-- ---- the values that aggregates take from a row

-- COUNT(*) takes none
abbrev pub argument_of : Aggregated → Reads Value
argument_of agg.CountRows row args = Ok Null
argument_of (agg.Count e) row args = scalar_of e row args
argument_of (agg.Sum e) row args = scalar_of e row args
argument_of (agg.Min e) row args = scalar_of e row args
argument_of (agg.Max e) row args = scalar_of e row args

-- one for each aggregate, or the least of their faults
abbrev pub arguments_of : List Aggregated → Reads Cells
arguments_of aggregates row args = collected (map (λ a. argument_of a row args) aggregates)

-- ---- what is gathered of many values. NULL is skipped.

abbrev pub number_in : Value → Option ℤ
number_in (Int z) = Some z
number_in _ = None

-- the sum of two numbers, where there are two
abbrev pub sum_of_two : Option ℤ → Option ℤ → Option ℤ
sum_of_two None b = b
sum_of_two (Some a) None = Some a
sum_of_two (Some a) (Some b) = Some (a +ℤ b)

-- the lesser and the greater value: where one is NULL the other
abbrev pub min_of_two : Value → Value → Value
min_of_two Null b = b
min_of_two a Null = a
min_of_two a b = if is_lt (value_cmp b a) then b else a

abbrev pub max_of_two : Value → Value → Value
max_of_two a b = if is_lt (value_cmp a b) then b else a

-- the exact sum; `None` without a number
abbrev pub sum_of : Cells → Option ℤ
sum_of [] = None
sum_of (x ∷ xs) = sum_of_two (number_in x) (sum_of xs)

-- the least and the greatest value; NULL without one
abbrev pub min_of : Cells → Value
min_of [] = Null
min_of (x ∷ xs) = min_of_two x (min_of xs)

abbrev pub max_of : Cells → Value
max_of [] = Null
max_of (x ∷ xs) = max_of_two x (max_of xs)

abbrev pub gathered_of : Aggregated → Cells → Gathered
gathered_of agg.CountRows xs = gathered.Count (length xs)
gathered_of (agg.Count e) xs = gathered.Count (count_by (λ x. not (is_null x)) xs)
gathered_of (agg.Sum e) xs = gathered.Sum (sum_of xs)
gathered_of (agg.Min e) xs = gathered.Min (min_of xs)
gathered_of (agg.Max e) xs = gathered.Max (max_of xs)

-- of each aggregate, of the values that it took from some rows
abbrev pub all_gathered_of : List Aggregated → List Cells → List Gathered
all_gathered_of aggregates taken = map (λ a. gathered_of a.1 (map (λ values. at values a.0) taken)) (enumerate_from 0 aggregates)

-- the value of what was gathered: a sum is exact before its range is judged
abbrev pub value_of : Gathered → Result Value Fault
value_of (gathered.Count n) = Ok (Int (pos n))
value_of (gathered.Sum None) = Ok Null
value_of (gathered.Sum (Some z)) = in_range z
value_of (gathered.Min x) = Ok x
value_of (gathered.Max x) = Ok x

-- ---- groups

-- what stands at each key, of all entries that have it; in the order of the keys
abbrev pub by_key : {A : Type 0} → List (Cells × A) → List (Cells × List A)
by_key entries = put_all row_cmp (λ old new. old ++ new) [] (map (λ e. (e.0, e.1 ∷ [])) entries)
