-- What INSERT, UPDATE and DELETE make of the rows of a table.
use Rattle.std.specs.Prelude.{ℕ, Bool, true, false, if◌then◌else◌, List, [], ◌∷◌, map, filter_map, count_by, pos, Option, Some, None, Result, Ok}
use Rattle.volt_value.specs.declared.value.Value.{Value}
use Rattle.volt_value.specs.declared.value.Value.TheVariants.{Int}
use Rattle.volt_catalog.specs.Rules.{Contents}
use Rattle.sql_plan.specs.declared.fault.Fault.{Fault}
use Rattle.sql_plan.specs.declared.expression.Scalar.{Scalar}
use Rattle.sql_plan.specs.declared.prepared.InsertPlan.{InsertPlan}
use Rattle.sql_plan.specs.declared.prepared.UpdatePlan.{UpdatePlan}
use Rattle.sql_plan.specs.declared.prepared.DeletePlan.{DeletePlan}
use Rattle.sql_plan.specs.Rows.{Cells}
use Rattle.sql_meaning.specs.Judged.{with, collected}
use Rattle.sql_meaning.specs.Expressions.{Reads, scalar_of, holds}
use Rattle.sql_meaning.specs.Tables.{table_at, new_row, without_twins, with_row}

-- what these expressions give
abbrev pub values_of : List Scalar → Cells → Cells → List (Result Value Fault)
values_of expressions row args = map (λ e. scalar_of e row args) expressions

-- ---- INSERT

-- the row that is put in, over no row
abbrev pub inserted_row : Contents → InsertPlan → Cells → Result Cells Fault
inserted_row catalog insert args = new_row (table_at catalog insert.table) (values_of insert.values [] args)

-- the rows of the table with it
abbrev pub inserted : Contents → ℕ → List Cells → Cells → Result (List Cells) Fault
inserted catalog number rows row = without_twins catalog number (with_row (table_at catalog number) row rows)

-- ---- UPDATE and DELETE

-- what becomes of a row
pub data Fate : Type 0 where
  Stays : Cells → Fate
  Becomes : Cells → Fate
  Goes : Fate

-- UPDATE evaluates over the old row, where WHERE is true
abbrev pub updated : Contents → UpdatePlan → Reads Fate
updated catalog update row args =
    with (holds update.filter row args) (λ is_meant.
    if is_meant
    then with (new_row (table_at catalog update.table) (values_of update.values row args)) (λ new. Ok (Becomes new))
    else Ok (Stays row))

-- DELETE takes away each row for which WHERE is true
abbrev pub deleted : DeletePlan → Reads Fate
deleted delete row args = with (holds delete.filter row args) (λ is_meant. Ok (if is_meant then Goes else Stays row))

-- the row that is left
abbrev pub left_of : Fate → Option Cells
left_of (Stays row) = Some row
left_of (Becomes row) = Some row
left_of Goes = None

abbrev pub is_change : Fate → Bool
is_change (Stays row) = false
is_change _ = true

-- the rows of the table afterwards, and how many were changed: the least fault of all rows comes first,
-- and then Duplicate, which is judged on the whole table afterwards
abbrev pub changed : Contents → ℕ → Reads Fate → Cells → List Cells → Result (List Cells × ℕ) Fault
changed catalog number fate args rows =
    with (collected (map (λ row. fate row args) rows)) (λ fates.
    with (without_twins catalog number (filter_map left_of fates)) (λ left. Ok (left, count_by is_change fates)))

-- ---- what they give

-- one row with one column, `modified_tuples`
abbrev pub counted : ℕ → List Cells
counted n = (Int (pos n) ∷ []) ∷ []
