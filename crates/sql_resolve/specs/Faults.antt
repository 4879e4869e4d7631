-- The numbers of faults, of which the least counts.
use Rattle.std.specs.Prelude.{ℕ, nat_le, if◌then◌else◌, Option, Some, None}
use Rattle.sql_resolve.specs.declared.fault.CheckFault.{CheckFault}
use Rattle.sql_resolve.specs.declared.fault.CheckFault.TheVariants.{NoSuchName, TooMany, TypeMismatch, NotDistributable, ChangesKey, UnboundName, NoMemory}

abbrev pub code_of : CheckFault → ℕ
code_of NoSuchName = 9
code_of TooMany = 13
code_of TypeMismatch = 14
code_of NotDistributable = 15
code_of ChangesKey = 16
code_of UnboundName = 19
code_of NoMemory = 255

-- of a fault that was found before and another one, the one of the lesser number
abbrev pub least : Option CheckFault → CheckFault → CheckFault
least None fault = fault
least (Some before) fault = if nat_le (code_of before) (code_of fault) then before else fault
