-- The numbers of the refusals of a procedure, of which the least counts.
use Rattle.std.specs.Prelude.{ℕ, nat_le, Bool, true, false, if◌then◌else◌, Option, Some, None}
use Rattle.sql_resolve.specs.declared.fault.CheckFault.{CheckFault}
use Rattle.sql_resolve.specs.declared.fault.CheckFault.TheVariants as check
use Rattle.sql_resolve.specs.Faults as checks
use Rattle.proc_lang.specs.declared.fault.ProcFault.{ProcFault}
use Rattle.proc_lang.specs.declared.fault.ProcFault.TheVariants.{DuplicateName, Check, WritesReplicated, NotSinglePartition, UnboundName, BadType, NoMemory}

abbrev pub code_of : ProcFault → ℕ
code_of DuplicateName = 8
code_of (Check fault) = checks.code_of fault
code_of WritesReplicated = 17
code_of NotSinglePartition = 18
code_of UnboundName = 19
code_of BadType = 20
code_of NoMemory = 255

abbrev pub no_such_name : ProcFault
no_such_name = Check check.NoSuchName

abbrev pub too_many : ProcFault
too_many = Check check.TooMany

-- a fault of a statement or an expression as one of its procedure
abbrev pub of_check : CheckFault → ProcFault
of_check check.UnboundName = UnboundName
of_check check.NoMemory = NoMemory
of_check fault = Check fault

-- of a fault that was found before and another one, the one of the lesser number
abbrev pub least : Option ProcFault → ProcFault → ProcFault
least None fault = fault
least (Some before) fault = if nat_le (code_of before) (code_of fault) then before else fault

abbrev pub worse : Option ProcFault → ProcFault → Option ProcFault
worse before fault = Some (least before fault)

abbrev pub worse_if : Bool → ProcFault → Option ProcFault → Option ProcFault
worse_if true fault before = worse before fault
worse_if false fault before = before

abbrev pub with_check : Option CheckFault → Option ProcFault → Option ProcFault
with_check None before = before
with_check (Some fault) before = worse before (of_check fault)
