-- What the names of a program stand for at a place of its text.
use Rattle.std.specs.Prelude.{ℕ, ◌+◌, if◌then◌else◌, List, [], ◌∷◌, position, slice_get, Option, Some, None}
use Rattle.volt_value.specs.declared.column.Class.{Class}
use Rattle.volt_value.specs.declared.column.Class.TheVariants as class
use Rattle.volt_catalog.specs.Names.{same_name}
use Rattle.sql_plan.specs.declared.program.ProgramValue.TheVariants as value
use Rattle.sql_resolve.specs.declared.bound.Bound.{Bound}
use Rattle.sql_resolve.specs.declared.bound.Given.{Given}
use Rattle.sql_resolve.specs.declared.bound.Given.TheVariants.{Unbound, NoColumn, Value}

-- names of columns with their classes
abbrev pub Heads : Type 0
Heads = List (List ℕ × Class)

-- ---- `:v`

abbrev pub variable_with : ℕ → Option (List ℕ × Class) → Given
variable_with n None = Unbound
variable_with n (Some variable) = Value (value.Variable n) variable.1

abbrev pub variable_at : Heads → Option ℕ → Given
variable_at variables None = Unbound
variable_at variables (Some n) = variable_with n (slice_get variables n)

-- the number of the variable of a name
abbrev pub variable_named : Bound → List ℕ → Option ℕ
variable_named bound name = position (λ variable. same_name name variable.0) bound.variables

abbrev pub variable : Bound → List ℕ → Given
variable bound name = variable_at bound.variables (variable_named bound name)

-- ---- `ROWS(r)`

-- the number of the result of a name
abbrev pub result_named : Bound → List ℕ → Option ℕ
result_named bound name = position (λ result. same_name name result.0) bound.results

abbrev pub rows_at : Option ℕ → Given
rows_at None = Unbound
rows_at (Some n) = Value (value.Rows n) class.Int

abbrev pub rows : Bound → List ℕ → Given
rows bound name = rows_at (result_named bound name)

-- ---- `FIRST(r.c)`

-- the columns of the result of a number
abbrev pub heads_in : Option (List ℕ × Heads) → Heads
heads_in None = []
heads_in (Some result) = result.1

abbrev pub heads_of : Bound → ℕ → Heads
heads_of bound n = heads_in (slice_get bound.results n)

-- the first column of a name, with its number
abbrev pub head_with : ℕ → Option (List ℕ × Class) → Option (ℕ × Class)
head_with n None = None
head_with n (Some head) = Some (n, head.1)

abbrev pub head_at : Heads → Option ℕ → Option (ℕ × Class)
head_at heads None = None
head_at heads (Some n) = head_with n (slice_get heads n)

abbrev pub head_named : Heads → List ℕ → Option (ℕ × Class)
head_named heads name = head_at heads (position (λ head. same_name name head.0) heads)

abbrev pub first_with : ℕ → Option (ℕ × Class) → Given
first_with n None = NoColumn
first_with n (Some head) = Value (value.First n head.0) head.1

abbrev pub first_at : Bound → List ℕ → Option ℕ → Given
first_at bound column None = Unbound
first_at bound column (Some n) = first_with n (head_named (heads_of bound n) column)

abbrev pub first : Bound → List ℕ → List ℕ → Given
first bound name column = first_at bound column (result_named bound name)

-- ---- `:x.c`

-- the last row of a name, where these have numbers from this one on: an inner FOR hides an outer one
abbrev pub last_named : List ℕ → Option ℕ → ℕ → List (List ℕ × Option ℕ) → Option ℕ
last_named name found n [] = found
last_named name found n (row ∷ rows) = last_named name (if same_name name row.0 then Some n else found) (n + 1) rows

abbrev pub row_named : Bound → List ℕ → Option ℕ
row_named bound name = last_named name None 0 bound.rows

abbrev pub column_with : ℕ → Option (ℕ × Class) → Given
column_with n None = NoColumn
column_with n (Some head) = Value (value.Column n head.0) head.1

-- of a row whose FOR names no result nothing is known
abbrev pub column_in : Bound → ℕ → List ℕ → Option ℕ → Given
column_in bound n column None = Unbound
column_in bound n column (Some result) = column_with n (head_named (heads_of bound result) column)

abbrev pub row_result : Option (List ℕ × Option ℕ) → Option ℕ
row_result None = None
row_result (Some row) = row.1

abbrev pub column_at : Bound → List ℕ → Option ℕ → Given
column_at bound column None = Unbound
column_at bound column (Some n) = column_in bound n column (row_result (slice_get bound.rows n))

abbrev pub row_column : Bound → List ℕ → List ℕ → Given
row_column bound name column = column_at bound column (row_named bound name)
