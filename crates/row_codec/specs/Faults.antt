-- Why a row doesn't fit the columns of its table.
use Rattle.std.specs.Prelude.{ℕ, nat_le, if◌then◌else◌, List, [], ◌∷◌, Option, Some, None, Result, Ok, Err}
use Rattle.volt_value.specs.declared.value.Value.{Value}
use Rattle.volt_value.specs.declared.value.Value.TheVariants.{Null, Int, Text}
use Rattle.volt_value.specs.declared.column.Misfit.{Misfit}
use Rattle.volt_value.specs.declared.column.Misfit.TheVariants as misfit
use Rattle.volt_value.specs.Columns.{value_fits}
use Rattle.row_codec.specs.declared.field.Field.{Field}
use Rattle.row_codec.specs.declared.fault.RowFault.{RowFault}
use Rattle.row_codec.specs.declared.fault.RowFault.TheVariants.{NullInColumn, OutOfRange, TooLong, Duplicate, NoMemory}

-- where several faults stand together, the one of the least number counts
abbrev pub rank : RowFault → ℕ
rank NullInColumn = 0
rank OutOfRange = 1
rank TooLong = 2
rank Duplicate = 3
rank NoMemory = 4

abbrev pub least : Option RowFault → Option RowFault → Option RowFault
least None b = b
least (Some a) None = Some a
least (Some a) (Some b) = if nat_le (rank a) (rank b) then Some a else Some b

-- the fault of a misfit; a value of the other class is in no range
abbrev pub misfit_fault : Result (Unit {0}) Misfit → Option RowFault
misfit_fault (Ok _) = None
misfit_fault (Err misfit.OutOfRange) = Some OutOfRange
misfit_fault (Err misfit.TooLong) = Some TooLong
misfit_fault (Err misfit.WrongClass) = Some OutOfRange

-- the fault of a value in a column
abbrev pub value_fault : Field → Value → Option RowFault
value_fault field Null = if field.not_null then Some NullInColumn else None
value_fault field (Int z) = misfit_fault (value_fits (Int z) field.kind)
value_fault field (Text t) = misfit_fault (value_fits (Text t) field.kind)

-- the least fault of a row's values in their columns
abbrev pub columns_fault : List Field → List Value → Option RowFault
columns_fault [] row = None
columns_fault (field ∷ fields) [] = None
columns_fault (field ∷ fields) (value ∷ row) = least (value_fault field value) (columns_fault fields row)
