-- What a partition answers in a round, as bytes: its part of the statement, or its fault. High bytes come first, and each
-- list stands behind the number of its items in four bytes.
use Rattle.std.specs.Prelude.{ℕ, List, [], ◌∷◌, ◌++◌, Option, Some, None, Result, Ok, Err}
use Rattle.std.specs.Int.{w64, to_be_bytes}
use Rattle.byte_codec.specs.Readers.{list_bytes}
use Rattle.byte_codec.specs.Exactness.{wide_bytes}
use Rattle.volt_value.specs.Spelling.{value_bytes}
use Rattle.sql_plan.specs.Faults.{code_of}
use Rattle.sql_plan.specs.declared.fault.Fault.{Fault}
use Rattle.sql_plan.specs.declared.partial.Gathered.{Gathered}
use Rattle.sql_plan.specs.declared.partial.Gathered.TheVariants as gathered
use Rattle.sql_plan.specs.declared.partial.Group.{Group}
use Rattle.sql_plan.specs.declared.partial.KeyedRow.{KeyedRow}
use Rattle.sql_plan.specs.declared.partial.Partial.{Partial}
use Rattle.sql_plan.specs.declared.partial.Partial.TheVariants as partial
use Rattle.sql_plan.specs.declared.row_key.Directed.{Directed}
use Rattle.sql_plan.specs.declared.row_key.Directed.TheVariants as directed
use Rattle.sql_wire.specs.declared.answers.Answer.{Answer}
use Rattle.sql_wire.specs.declared.answers.Answer.TheVariants as answer

abbrev pub directed_bytes : Directed → List ℕ
directed_bytes (directed.Ascending x) = 0 ∷ value_bytes x
directed_bytes (directed.Descending x) = 1 ∷ value_bytes x

-- what a row is put in order by, and its values
abbrev pub keyed_bytes : KeyedRow → List ℕ
keyed_bytes r = list_bytes directed_bytes r.key ++ list_bytes value_bytes r.row

-- the value of LIMIT, where it is written
abbrev pub limit_bytes : Option ℕ → List ℕ
limit_bytes None = 0 ∷ []
limit_bytes (Some n) = 1 ∷ to_be_bytes w64 n

abbrev pub gathered_bytes : Gathered → List ℕ
gathered_bytes (gathered.Count n) = 0 ∷ to_be_bytes w64 n
gathered_bytes (gathered.Sum None) = 1 ∷ []
gathered_bytes (gathered.Sum (Some z)) = 2 ∷ wide_bytes z
gathered_bytes (gathered.Min x) = 3 ∷ value_bytes x
gathered_bytes (gathered.Max x) = 4 ∷ value_bytes x

-- the values on which the rows of a group agree, and what each aggregate gathered of them
abbrev pub group_bytes : Group → List ℕ
group_bytes g = list_bytes value_bytes g.key ++ list_bytes gathered_bytes g.gathered

abbrev pub part_bytes : Partial → List ℕ
part_bytes (partial.Count n) = 0 ∷ to_be_bytes w64 n
part_bytes (partial.Rows rows limit) = 1 ∷ (limit_bytes limit ++ list_bytes keyed_bytes rows)
part_bytes (partial.Groups groups limit) = 2 ∷ (limit_bytes limit ++ list_bytes group_bytes groups)

-- a part, or the number of a fault
abbrev pub outcome_bytes : Result Partial Fault → List ℕ
outcome_bytes (Ok part) = 0 ∷ part_bytes part
outcome_bytes (Err fault) = 1 ∷ code_of fault ∷ []

-- a round without a statement is answered without bytes
abbrev pub answer_bytes : Answer → List ℕ
answer_bytes answer.Nothing = []
answer_bytes (answer.Outcome outcome) = outcome_bytes outcome
