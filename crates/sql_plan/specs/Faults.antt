-- The numbers of faults.
use Rattle.std.specs.Prelude.{ℕ, ◌==◌, List, [], ◌∷◌, Option}
use Rattle.std.specs.List.{find}
use Rattle.sql_plan.specs.declared.fault.Fault.{Fault}
use Rattle.sql_plan.specs.declared.fault.Fault.TheVariants.{Overflow, DivideByZero, NullInColumn, OutOfRange, TooLong, WrongPartition, Duplicate, TooManyRows}

abbrev pub code_of : Fault → ℕ
code_of Overflow = 1
code_of DivideByZero = 2
code_of NullInColumn = 3
code_of OutOfRange = 4
code_of TooLong = 5
code_of WrongPartition = 6
code_of Duplicate = 7
code_of TooManyRows = 8

-- the fault of a number: the first of these that has it
abbrev pub all_faults : List Fault
all_faults = Overflow ∷ DivideByZero ∷ NullInColumn ∷ OutOfRange ∷ TooLong ∷ WrongPartition ∷ Duplicate ∷ TooManyRows ∷ []

abbrev pub fault_of : ℕ → Option Fault
fault_of code = find (λ fault. code_of fault == code) all_faults
